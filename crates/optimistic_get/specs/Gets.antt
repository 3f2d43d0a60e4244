-- What a try and a get make of a reader's state, and what they answer.
use Rattle.std.specs.Prelude.{◌≡◌, ℕ, ◌+◌, ◌*◌, ◌%◌, ◌==◌, ◌<◌, ◌≤◌, ◌++◌, Bool, true, false, if◌then◌else◌, List, [], ◌∷◌, length, sum_by, Contains, Option, Some, None}
use Rattle.partition_model.specs.History.{IsPrefix, stamp_of, answer_of, writes_to_bucket}
use Rattle.partition_words.specs.declared.shape.Shape.{Shape}
use Rattle.partition_words.specs.declared.state.Failure.{Failure}
use Rattle.partition_words.specs.declared.reader.ReaderState.{ReaderState}
use Rattle.partition_words.specs.Shape.{options_of}
use Rattle.partition_words.specs.Failures.{failure, IsFailure}
use Rattle.optimistic_get.specs.declared.getting.Got.{Got}
use Rattle.optimistic_get.specs.declared.getting.Got.TheVariants.{Hit, Miss, Again}
use Rattle.optimistic_get.specs.Loading.{most_loads}

abbrev pub is_again : Got → Bool
is_again (Hit stamp) = false
is_again (Miss stamp) = false
is_again (Again first last) = true

-- the machine's answer to the key at what the reader has seen, and the stamp there
pub record IsAnsweredAt (r : ReaderState) (key : List ℕ) (answer : Option (List ℕ)) (stamp : ℕ) : Type 0 where
  pub stamped : stamp ≡ stamp_of (options_of r.shape) r.seen
  pub answered : answer_of (options_of r.shape) r.seen key ≡ answer

-- n tries were made: nothing but these fields has changed, what was seen is seen, and no try is open
pub record TriesMade (old : ReaderState) (n : ℕ) (new : ReaderState) : Type 0 where
  pub same : new ≡ record old {
    seen = new.seen;
    loads = new.loads;
    tried = old.tried + n;
    fails = new.fails;
    closed = new.closed;
    current = new.current;
  }
  pub seen : IsPrefix old.seen new.seen
  pub ended : 0 < n → new.current ≡ None

-- a failure of the bucket, whose first epoch tells of each write that had ended
pub record IsFailureAt (old : ReaderState) (b first last : ℕ) : Type 0 where
  pub fails : IsFailure (failure b first last)
  pub least : 2 * writes_to_bucket (options_of old.shape) old.done b ≤ first

-- the loads of a try that failed, at most: one where its first epoch was odd
abbrev pub most_of_failure : Shape → Failure → ℕ
most_of_failure shape f = if f.first % 2 == 1 then 1 else most_loads shape

-- the loads of tries that failed, at most
abbrev pub most_of_failures : Shape → List Failure → ℕ
most_of_failures shape fails = sum_by (most_of_failure shape) fails

-- A try that did not fail.
pub record TryAnswers (old : ReaderState) (key : List ℕ) (answer : Option (List ℕ)) (stamp : ℕ) (new : ReaderState) : Type 0 where
  pub made : TriesMade old 1 new
  pub loads : new.loads ≤ old.loads + most_loads old.shape
  pub fails : new.fails ≡ old.fails
  pub closed : new.closed ≡ old.closed + 1
  pub answered : IsAnsweredAt new key answer stamp

-- A try that failed, with these two epochs.
pub record TryFails (old : ReaderState) (b first last : ℕ) (new : ReaderState) : Type 0 where
  pub made : TriesMade old 1 new
  pub loads : new.loads ≤ old.loads + most_of_failure old.shape (failure b first last)
  pub fails : new.fails ≡ old.fails ++ failure b first last ∷ []
  pub closed : new.closed ≡ old.closed
  pub failure : IsFailureAt old b first last

-- What one try gives.
abbrev pub Tries : ReaderState → ℕ → List ℕ → Got → List ℕ → ReaderState → Type 0
Tries old b key (Hit stamp) out new = TryAnswers old key (Some out) stamp new
Tries old b key (Miss stamp) out new = TryAnswers old key None stamp new × (out ≡ [])
Tries old b key (Again first last) out new = TryFails old b first last new × (out ≡ [])

-- so many failures of the bucket came last
pub record FailsMore (old new : List Failure) (b n : ℕ) : Type 0 where
  pub more : List Failure
  pub fails : new ≡ old ++ more
  pub count : length more ≡ n
  pub each : (f : Failure) → Contains more f → (f.bucket ≡ b) × IsFailure f

-- Fewer tries than all failed, and the next one answered.
pub record Answered (old : ReaderState) (b tries : ℕ) (key : List ℕ) (answer : Option (List ℕ)) (stamp : ℕ) (new : ReaderState) : Type 0 where
  pub failed : ℕ
  pub few : failed < tries
  pub made : TriesMade old (failed + 1) new
  pub fails : FailsMore old.fails new.fails b failed
  pub loads : new.loads ≤ old.loads + most_of_failures old.shape fails.more + most_loads old.shape
  pub closed : new.closed ≡ old.closed + 1
  pub answered : IsAnsweredAt new key answer stamp

-- All tries failed, the last one with these two epochs.
pub record AllFailed (old : ReaderState) (b tries first last : ℕ) (new : ReaderState) : Type 0 where
  pub made : TriesMade old tries new
  pub fails : FailsMore old.fails new.fails b tries
  pub loads : new.loads ≤ old.loads + most_of_failures old.shape fails.more
  pub closed : new.closed ≡ old.closed
  pub before : List Failure
  pub ends : new.fails ≡ before ++ failure b first last ∷ []
  pub failure : IsFailureAt old b first last

-- What a get answers: the machine's answer at the history that the seat has seen then, or that each try failed.
abbrev pub AnswersGet : ReaderState → ℕ → ℕ → List ℕ → Got → List ℕ → ReaderState → Type 0
AnswersGet old b tries key (Hit stamp) out new = Answered old b tries key (Some out) stamp new
AnswersGet old b tries key (Miss stamp) out new = Answered old b tries key None stamp new × (out ≡ [])
AnswersGet old b tries key (Again first last) out new = AllFailed old b tries first last new × (out ≡ [])
