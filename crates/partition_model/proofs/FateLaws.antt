-- The laws of fates: `Held` exactly where there is a record, `Never` exactly where no put was accepted.
use Rattle.std.proofs.Common.{◌≡◌, ℕ, ◌+◌, List, [], ◌∷◌, ◌++◌, length, Option, Some, None, Bool, true, cond, not, ◌&&◌, refl, ap, ◌∙◌, arith, is_some, ◌≢◌}
use Rattle.std.specs.List.{find, fold}
use Rattle.std.specs.Prelude.{option_map}
use Rattle.std.proofs.lemmas.Grind.{common_steps}
use Rattle.partition_model.specs.declared.options.Options.{Options}
use Rattle.partition_model.specs.declared.options.Mode.{Mode}
use Rattle.partition_model.specs.declared.options.Mode.TheVariants.{Cache as CacheMode}
use Rattle.partition_model.specs.declared.write.Write.{Write}
use Rattle.partition_model.specs.declared.fate.Fate.{Fate}
use Rattle.partition_model.specs.declared.fate.Fate.TheVariants.{Never, Deleted, Displaced, Passed, Held}
use Rattle.partition_model.specs.Cache as cache
use Rattle.partition_model.specs.Cache.{Record, Cache, has_key, record_of, is_live}
use Rattle.partition_model.specs.CacheStep as cs
use Rattle.partition_model.specs.Fate.{has_record, fate_after, fate_from, fate_of}
use Rattle.partition_model.specs.History.{History, cache_state, after, start, state_of, answer_of}
use Rattle.partition_model.proofs.CacheKept.{left_of, here_of}
use Rattle.partition_model.proofs.Found as found

-- the state of a history in cache mode

abbrev pub cache_of : Options → History → Cache
cache_of options history = fold (cs.after options) cache.start history

cache_from : (options : Options) (s : Cache) (history : History) → fold (after options) (cache_state s) history ≡ cache_state (fold (cs.after options) s history)
cache_from options s [] = refl
cache_from options s (write ∷ history) = cache_from options (cs.after options s write) history

pub state_is_cache : (options : Options) → options.mode ≡ CacheMode → (history : History) → state_of options history ≡ cache_state (cache_of options history)
state_is_cache options is history = ap (λ (mode : Mode). fold (after options) (start mode) history) is ∙ cache_from options cache.start history

-- the fate after one write more

snoc_from : (options : Options) (s : Cache) (n m : ℕ) (key : List ℕ) (before : Fate) (history : History) (write : Write) → m ≡ n + length history
    → fate_from options s n key before (history ++ write ∷ []) ≡ fate_after options (fold (cs.after options) s history) write m key (fate_from options s n key before history)
snoc_from options s n m key before [] write is = ap (λ (k : ℕ). fate_after options s write k key before) (let e : n ≡ m = omega arith in e)
snoc_from options s n m key before (w ∷ history) write is =
    snoc_from options (cs.after options s w) (n + 1) m key (fate_after options s w n key before) history write (omega arith)

pub fate_snoc : (options : Options) (history : History) (write : Write) (key : List ℕ)
    → fate_of options (history ++ write ∷ []) key ≡ fate_after options (cache_of options history) write (length history + 1) key (fate_of options history key)
unfolding fate_of
fate_snoc options history write key = snoc_from options cache.start 1 (length history + 1) key Never history write (omega arith)

-- what a write makes of a key's fate, by whether the key has a record before it, after the write itself, after the log
-- has passed and after the index has displaced
abbrev pub pick : Bool → Bool → Bool → Bool → ℕ → Fate → Fate
pick had wrote live left n before =
    cond left Held (cond (had && not wrote) (Deleted n) (cond (wrote && not live) (Passed n) (cond (live && not left) (Displaced n) before)))

some_back : {A : Type 0} (o p : Option A) → (o ≡ None → p ≡ None) → is_some p ≡ true → is_some o ≡ true
some_back o p gone is = grind (arith, common_steps)

module _ (options : Options) (s : Cache) (write : Write) (key : List ℕ) where
  abbrev one : Cache
  one = cs.after_write options s write

  abbrev two : Cache
  two = cs.without_passed options (cs.after_write options s write)

  pub live_wrote : has_record (cs.without_passed options (cs.after_write options s write)) key ≡ true → has_record (cs.after_write options s write) key ≡ true
  live_wrote = some_back (record_of one key) (record_of two key) (found.missed_filter (has_key key) (λ held. is_live options.words one.stamp held.offset) one.records)

  pub left_live : has_record (cs.after options s write) key ≡ true → has_record (cs.without_passed options (cs.after_write options s write)) key ≡ true
  unfolding cs.after
  left_live =
      grind (arith, common_steps, some_back (record_of two key) (find (has_key key) (left_of options write two.records)), found.missed_without_first (has_key key) (here_of options write) two.records)

-- `Held` exactly where the key has a record

-- the fate says `Held` exactly of a key with a record
pub record IsRight (s : Cache) (key : List ℕ) (fate : Fate) : Type 0 where
  pub on : has_record s key ≡ true → fate ≡ Held
  pub back : fate ≡ Held → has_record s key ≡ true

module _ (options : Options) (write : Write) (key : List ℕ) where
  right_after : (s : Cache) (n : ℕ) (before : Fate) → IsRight s key before → IsRight (cs.after options s write) key (fate_after options s write n key before)
  right_after s n before right = grind (arith, common_steps)

right_from : (options : Options) (key : List ℕ) (s : Cache) (n : ℕ) (before : Fate) (history : History) → IsRight s key before → IsRight (fold (cs.after options) s history) key (fate_from options s n key before history)
right_from options key s n before [] right = right
right_from options key s n before (write ∷ history) right =
    right_from options key (cs.after options s write) (n + 1) (fate_after options s write n key before) history (right_after options write key s n before right)

right_start : (key : List ℕ) → IsRight cache.start key Never
unfolding cache.start
right_start key = record { on = λ is. cc; back = λ is. cc }

pub right_in : (options : Options) (history : History) (key : List ℕ) → IsRight (cache_of options history) key (fate_of options history key)
unfolding fate_of
right_in options history key = right_from options key cache.start 1 Never history (right_start key)

-- a fate is `Held` exactly where the machine has a value
held_value : (o : Option Record) → (v : List ℕ) → option_map (λ held. held.value) o ≡ Some v → is_some o ≡ true
held_value o v is = grind (arith, common_steps)

pub hit_is_held : (options : Options) → options.mode ≡ CacheMode → (history : History) (key value : List ℕ) → answer_of options history key ≡ Some value → fate_of options history key ≡ Held
hit_is_held options mode history key value is =
    grind (arith, common_steps, state_is_cache options mode history, right_in options history key, held_value (record_of (cache_of options history) key) value)

no_value : (o : Option Record) → option_map (λ held. held.value) o ≡ None → is_some o ≡ true → ⊥
no_value o is some = grind (arith, common_steps)

pub miss_is_not_held : (options : Options) → options.mode ≡ CacheMode → (history : History) (key : List ℕ) → answer_of options history key ≡ None → fate_of options history key ≢ Held
miss_is_not_held options mode history key is held =
    grind (arith, common_steps, state_is_cache options mode history, no_value (record_of (cache_of options history) key), right_in options history key)
