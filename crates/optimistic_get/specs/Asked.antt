-- What a get comes to that is asked again until it answers.
use Rattle.std.specs.Prelude.{[], ◌≡◌, ℕ, ◌+◌, List, ◌++◌, length, Option, Some, None}
use Rattle.partition_model.specs.History.{IsPrefix}
use Rattle.partition_model.specs.Run.{IsAnswerAt}
use Rattle.partition_words.specs.declared.state.Failure.{Failure}
use Rattle.partition_words.specs.declared.reader.ReaderState.{ReaderState}
use Rattle.partition_words.specs.Shape.{options_of}
use Rattle.optimistic_get.specs.declared.getting.Got.{Got}
use Rattle.optimistic_get.specs.declared.getting.Got.TheVariants.{Hit, Miss, Again}

-- A seat that gave so many answers: each try that did not fail gave one.
pub record SeatAnswers (old new : ReaderState) (answers : ℕ) : Type 0 where
  pub shape : new.shape ≡ old.shape
  pub seen : IsPrefix old.seen new.seen
  pub done : new.done ≡ old.done
  pub more : List Failure
  pub fails : new.fails ≡ old.fails ++ more
  pub tried : new.tried ≡ old.tried + length more + answers
  pub closed : new.closed ≡ old.closed + answers

-- the machine's answer after all that the seat has seen, by the one try that did not fail
pub record IsReadAt (old : ReaderState) (key : List ℕ) (stamp : ℕ) (value : Option (List ℕ)) (new : ReaderState) : Type 0 where
  pub seat : SeatAnswers old new 1
  pub answer : IsAnswerAt (options_of old.shape) new.seen key stamp value

-- the answer, and what is in the buffer, are those of the key at a history that the reader has seen
abbrev pub IsRead : ReaderState → List ℕ → Got → List ℕ → ReaderState → Type 0
IsRead old key (Hit stamp) buffer new = IsReadAt old key stamp (Some buffer) new
IsRead old key (Miss stamp) buffer new = IsReadAt old key stamp None new × (buffer ≡ [])
IsRead old key (Again first last) buffer new = ⊥
