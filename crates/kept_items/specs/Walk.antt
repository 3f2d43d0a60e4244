-- A walk of what a partition has.
use Rattle.std.specs.Bool.{MatchBool}
use Rattle.std.specs.Prelude.{◌≡◌, ◌<◌, ℕ, Bool, true, false, List, [], ◌∷◌, ◌++◌, Option}
use Rattle.mica_words.specs.Item.{KeyFits, StoredFits}
use Rattle.partition_model.specs.declared.options.Options.{Options}
use Rattle.partition_model.specs.History.{History, state_of, answer_of}
use Rattle.saved_items.specs.declared.spiller.Spiller.{Spiller}
use Rattle.saved_items.specs.declared.items.Head.{Head}
use Rattle.memcached_commands.specs.declared.moment.Moment.{Moment}
use Rattle.saved_items.specs.Items.{Pair, Entry, Keeps}
use Rattle.saved_items.specs.Spiller.{HasSaved, Saves}
use Rattle.kept_items.specs.Kept.{stored_under, AreOnce, AreInOrder, is_saved}

-- What is still to come of a walk: one pair less, or nothing.
abbrev pub Steps : List Pair → List Pair → Bool → Pair → Type 0
Steps rest left true pair = rest ≡ pair ∷ left
Steps rest left false pair = (rest ≡ []) × (left ≡ [])

-- a pair that a partition may have
pub record IsPartitionPair (pair : Pair) : Type 0 where
  pub key : KeyFits pair.key
  pub value : StoredFits pair.value
  pub reads : pair.reads < 4

-- These pairs are what a partition has behind a history, each key once.
pub record IsWalk (options : Options) (history : History) (pairs : List Pair) : Type 0 where
  pub each : (key : List ℕ) → stored_under key pairs ≡ answer_of options history key
  pub once : AreOnce pairs
  pub order : AreInOrder (state_of options history) pairs

-- Whatever was saved so far, these entries stand behind it.
abbrev pub SavesAll : Option (List ℕ) → Option (List ℕ) → Spiller → Spiller → List Entry → Type 0
SavesAll old new spiller spiller' more = (before : Option (List ℕ)) (head : Head) (entries : List Entry) → HasSaved before old spiller head entries → HasSaved before new spiller' head (entries ++ more)

-- The next pair was saved where it is to be, and else nothing was; or there was none.
abbrev pub SavesStep : Option (List ℕ) → Option (List ℕ) → Spiller → Spiller → Moment → List Pair → List Pair → Bool → Type 0
SavesStep old new spiller spiller' at rest left true =
    (pair : Pair) × (rest ≡ pair ∷ left) × MatchBool (is_saved at pair.key pair.value) (Saves old new spiller spiller' (Keeps pair)) ((new ≡ old) × (spiller' ≡ spiller))
SavesStep old new spiller spiller' at rest left false = (rest ≡ []) × (left ≡ []) × (new ≡ old) × (spiller' ≡ spiller)
