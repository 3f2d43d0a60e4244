-- What an owner replies to writes.
use Rattle.std.specs.Prelude.{◌≡◌, ℕ, List, ◌++◌, length, map, zip}
use Rattle.partition_model.specs.declared.write.Write.{Write}
use Rattle.partition_model.specs.declared.write.Outcome.{Outcome}
use Rattle.partition_model.specs.Run.{RunStep, IsRunFrom, history_of}
use Rattle.partition_words.specs.declared.state.OwnerState.{OwnerState}
use Rattle.partition_words.specs.OwnerState.{options_in}
use Rattle.owner_queue.specs.Worked.{DoneJob}

-- the outcome of a write, and the stamp after it
abbrev pub Reply : Type 0
Reply = Outcome × ℕ

-- replies, and how many more there is room for
pub record Replies : Type 0 where
  pub list : List Reply
  pub spare : ℕ

abbrev pub replies_with : List Reply → ℕ → Replies
replies_with list spare = record { list = list; spare = spare }

abbrev pub step_with : Write × Reply → RunStep
step_with pair = record { write = pair.0; outcome = pair.1.0; stamp = pair.1.1 }

-- the writes with what was replied to them
abbrev pub steps_with : List Write → List Reply → List RunStep
steps_with writes replies = map step_with (zip writes replies)

-- The replies are a run of the machine on the writes, on from the owner's history, which gained the accepted ones and nothing else.
pub record HasWritten (old new : OwnerState) (writes : List Write) (replies : List Reply) : Type 0 where
  pub many : length replies ≡ length writes
  pub run : IsRunFrom (options_in old) old.history (steps_with writes replies)
  pub gained : new ≡ record old { words = new.words; history = old.history ++ history_of (steps_with writes replies) }

abbrev pub reply_of : DoneJob → Reply
reply_of it = (it.answer.step.outcome, it.answer.step.stamp)
