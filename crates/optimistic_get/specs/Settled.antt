-- Gets by a plan that has no event left.
use Rattle.std.specs.Prelude.{◌≡◌, ℕ, ◌+◌, ◌<◌, List, false}
use Rattle.partition_model.specs.declared.write.Answer.{Answer}
use Rattle.partition_model.specs.History.{answer_of}
use Rattle.partition_model.specs.Answer.{IsAnswer}
use Rattle.partition_words.specs.declared.state.OwnerState.{OwnerState}
use Rattle.partition_words.specs.declared.reader.ReaderState.{ReaderState}
use Rattle.partition_words.specs.declared.reading.Plan.{Plan}
use Rattle.scripted_reader.specs.declared.scripted.Book.{Book}
use Rattle.partition_words.specs.OwnerState.{options_in}
use Rattle.partition_words.specs.Plan.{Rests}
use Rattle.scripted_reader.specs.Script.{HasPlayedOut}
use Rattle.optimistic_get.specs.declared.getting.Got.{Got}
use Rattle.optimistic_get.specs.Gets.{is_again, TriesMade}

-- The try did not fail, and saw the whole history.
pub record SeesAll (old : ReaderState) (got : Got) (o : OwnerState) (new : ReaderState) : Type 0 where
  pub answered : is_again got ≡ false
  pub later : old.loads < new.loads
  pub seen : new.seen ≡ o.history

abbrev pub TriesAtRest : ReaderState → Got → ReaderState → Plan → Type 0
TriesAtRest old got new plan = (o : OwnerState) → Rests plan old.loads o → SeesAll old got o new

-- One try answers what the machine answers after the events that were played. None is played meanwhile.
pub record AnswersPlayed (old : Book) (key : List ℕ) (answer : Answer) (out : List ℕ) (new : Book) : Type 0 where
  pub answered : IsAnswer answer out (answer_of (options_in old.owner) old.owner.history key)
  pub made : TriesMade old.reader 1 new.reader
  pub fails : new.reader.fails ≡ old.reader.fails
  pub closed : new.reader.closed ≡ old.reader.closed + 1
  pub seen : new.reader.seen ≡ old.owner.history
  pub owner : new.owner ≡ old.owner
  pub settled : HasPlayedOut new
