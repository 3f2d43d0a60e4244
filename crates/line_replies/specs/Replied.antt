-- What an owner makes of a line of a trace.
use Rattle.std.specs.Prelude.{◌≡◌, ℕ, List}
use Rattle.partition_model.specs.declared.write.Write.{Write}
use Rattle.partition_model.specs.declared.write.Outcome.{Outcome}
use Rattle.partition_model.specs.History.{stamp_of}
use Rattle.mica_trace.specs.declared.line.TraceLine.{TraceLine}
use Rattle.mica_trace.specs.declared.report.Line.{Line}
use Rattle.mica_trace.specs.declared.report.Line.TheVariants.{Wrote}
use Rattle.mica_trace.specs.LawfulReport.{Answers}
use Rattle.mica_trace.specs.LineReply.{IsReplyAfter, RepliesTo, history_with}
use Rattle.partition_words.specs.declared.state.OwnerState.{OwnerState}
use Rattle.partition_words.specs.OwnerState.{options_in}
use Rattle.partition_words.specs.OwnerStep.{IsOwnerStep}

-- the line has the machine's answer to the key after the owner's history
abbrev pub IsAnswered : OwnerState → List ℕ → Line → Type 0
IsAnswered owner key printed = Answers (options_in owner) owner.history key printed

-- the line has the outcome of the write, which is a step of the owner's machine, and the stamp after it
pub record IsWriteReply (old new : OwnerState) (write : Write) (printed : Line) : Type 0 where
  pub outcome : Outcome
  pub stamp : ℕ
  pub step : IsOwnerStep old new write outcome
  pub stamped : stamp ≡ stamp_of (options_in new) new.history
  pub is : printed ≡ Wrote write.op outcome stamp

-- What is printed is the reply of the owner's machine after its history, which gains the line's write where it was accepted. Beside it
-- words alone may change.
pub record IsReplied (old new : OwnerState) (line : TraceLine) (printed : Line) : Type 0 where
  pub reply : IsReplyAfter (options_in old) old.history line printed
  pub gained : new ≡ record old { words = new.words; history = history_with old.history line printed }

-- what is printed is the machine's replies to these lines, one after another, and the history gained their writes
pub record HasReplied (old new : OwnerState) (lines : List TraceLine) (printed : List Line) : Type 0 where
  pub replies : RepliesTo (options_in old) old.history lines printed new.history
  pub gained : new ≡ record old { words = new.words; history = new.history }
