-- What every step keeps of a reader's state, beside its owner's.
use Rattle.std.specs.Prelude.{◌≡◌, ℕ, ◌*◌, ◌%◌, ◌≤◌, List, Contains, slice_index, Option, IfSome}
use Rattle.mica_words.specs.Hash.{bucket_of}
use Rattle.mica_words.specs.Packing.{AreBytes}
use Rattle.partition_model.specs.History.{IsPrefix, stamp_of, answer_of, writes_to_bucket}
use Rattle.partition_words.specs.declared.shape.Shape.{Shape}
use Rattle.partition_words.specs.declared.state.OwnerState.{OwnerState}
use Rattle.partition_words.specs.declared.reader.Cut.{Cut}
use Rattle.partition_words.specs.declared.reader.Try.{Try}
use Rattle.partition_words.specs.declared.reader.Known.{Known}
use Rattle.partition_words.specs.declared.reader.ReaderState.{ReaderState}
use Rattle.partition_words.specs.Shape.{options_of, IsMain}
use Rattle.partition_words.specs.OwnerState.{epoch_in, options_in}
use Rattle.partition_words.specs.Reach.{IsInReach}
use Rattle.partition_words.specs.Failures.{FailsFit}
use Rattle.partition_words.specs.Spelt.{HasLoad, SpellsAnswer}

-- Each answer of the bucket's keys that the loads before the cut spell, by its stamp, is that of its history.
abbrev pub IsSpelt : Shape → ℕ → Cut → Type 0
IsSpelt shape b at = (key : List ℕ) (answer : Option (List ℕ))
    → AreBytes key → bucket_of shape.hashing key shape.buckets ≡ b
    → SpellsAnswer shape at.loads (stamp_of (options_of shape) at.history) b key answer
    → answer_of (options_of shape) at.history key ≡ answer

-- The cut of a try: its history begins the owner's, and while the epoch has not moved, what the loads before
-- it spell is so.
pub record CutKept (o : OwnerState) (t : Try) (at : Cut) : Type 0 where
  pub seen : IsPrefix at.history o.history
  pub spelt : epoch_in o t.bucket ≡ t.first → IsSpelt o.shape t.bucket at

-- An open try.
pub record TryKept (o : OwnerState) (t : Try) : Type 0 where
  pub main : IsMain o.shape t.bucket
  pub even : t.first % 2 ≡ 0
  pub first : t.first ≤ epoch_in o t.bucket
  -- while the epoch has not moved, what was loaded of the words in reach is there still
  pub loads : epoch_in o t.bucket ≡ t.first → (place x : ℕ)
      → HasLoad t.loads place x → IsInReach o t.bucket place → slice_index o.words place ≡ x
  pub at : IfSome t.at (CutKept o t)

-- what both seats of the last join knew is known
abbrev pub MetKept : ReaderState → Type 0
MetKept r = (m : Known) → Contains r.met m → IsPrefix m.seen r.seen × IsPrefix m.done r.done

-- A reader's state goes with its owner's. No field speaks of another reader.
pub record ReaderKept (o : OwnerState) (r : ReaderState) : Type 0 where
  pub shape : r.shape ≡ o.shape
  pub seen : IsPrefix r.seen o.history
  pub done : IsPrefix r.done r.seen
  pub met : MetKept r
  -- of the writes in done each has ended
  pub ended : (b : ℕ) → IsMain o.shape b → 2 * writes_to_bucket (options_in o) r.done b ≤ epoch_in o b
  pub fails : FailsFit o r.fails
  pub current : IfSome r.current (TryKept o)

-- What the last epoch load of an open try tells, which found n: the epoch did not fall, and where it is the
-- first one, what the loads before the stamp load spell is so.
pub record TellsTry (shape : Shape) (n : ℕ) (t : Try) : Type 0 where
  pub least : t.first ≤ n
  pub spelt : n ≡ t.first → IfSome t.at (IsSpelt shape t.bucket)

-- the last epoch load of the reader's open try, if it has one, found n
abbrev pub Tells : ℕ → ReaderState → Type 0
Tells n r = IfSome r.current (TellsTry r.shape n)
