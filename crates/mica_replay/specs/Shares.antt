-- How the gets of a round are shared out among its readers.
use Rattle.std.specs.Prelude.{◌≡◌, ℕ, ◌≤◌, List, [], length, All}
use Rattle.partition_model.specs.declared.options.Options.{Options}
use Rattle.mica_trace.specs.declared.line.TraceLine.{TraceLine}
use Rattle.mica_trace.specs.RoundReport.{gets_of}
use Rattle.mica_replay.specs.LineNumbers.{lines_at, NamesGet}
use Rattle.mica_replay.specs.RoundRun.{ReaderPart}

-- the reader itself is as it was
pub record KeepsReader (old new : ReaderPart) : Type 0 where
  pub seats : new.seats ≡ old.seats
  pub tables : new.tables ≡ old.tables
  pub worker : new.worker ≡ old.worker

-- the reader and its part are as they were, whatever it found
pub record KeepsGets (old new : ReaderPart) : Type 0 where
  pub keeps : KeepsReader old new
  pub gets : new.gets ≡ old.gets

pub record HasNoGets (old new : ReaderPart) : Type 0 where
  pub keeps : KeepsReader old new
  pub none : new.gets ≡ []

-- it has the lines' gets that are its own, where g gets stand before them
pub record HasGets (options : Options) (trace : List TraceLine) (g : ℕ) (lines : List TraceLine) (q : ℕ) (old new : ReaderPart) : Type 0 where
  pub keeps : KeepsReader old new
  pub gets : lines_at trace new.gets ≡ gets_of options q g lines
  pub named : All (NamesGet trace) new.gets
  pub few : length new.gets ≤ length lines
