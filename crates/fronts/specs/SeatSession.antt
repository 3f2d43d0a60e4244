-- What a reader's seat tells of a front's session.
use Rattle.std.specs.Prelude.{ℕ, List, length, Some}
use Rattle.partition_model.specs.Run.{RunStep}
use Rattle.partition_words.specs.declared.reader.ReaderState.{ReaderState}
use Rattle.fronts.specs.Session.{Session}

-- by the seat, the steps that were answered, and the stamp that was answered last
abbrev pub session_at : ReaderState → List RunStep → ℕ → Session
session_at seat steps last = record {
  seen = seat.seen;
  done = seat.done;
  last = last;
  told = Some (record { steps = steps; tried = seat.tried; failed = length seat.fails; closed = seat.closed });
}
