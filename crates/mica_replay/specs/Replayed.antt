-- What a run leaves in the tables that it keeps, beside its report.
use Rattle.std.specs.Prelude.{◌≡◌, ℕ, ◌&&◌, List, length, count_by, slice_get, Some}
use Rattle.partition_model.specs.declared.options.Options.{Options}
use Rattle.mica_trace.specs.declared.line.TraceLine.{TraceLine}
use Rattle.mica_trace.specs.declared.report.Line.{Line}
use Rattle.mica_trace.specs.Rounds.{is_in_partition, writes_of}
use Rattle.mica_trace.specs.RoundReport.{is_get}
use Rattle.mica_trace.specs.LawfulReport.{history_after, LawfulReport}
use Rattle.partition_words.specs.Shape.{shape_of}
use Rattle.partition_table.specs.declared.tables.KeptSeat.{KeptSeat}

-- how many gets of the trace are in the partition
abbrev pub gets_to_partition : Options → ℕ → List TraceLine → ℕ
gets_to_partition options p trace = count_by (λ line. is_get line && is_in_partition options p line) trace

-- the seat of partition p has the history of all the trace's writes of it, by what is printed, and its readers closed one try for each get
pub record IsKeptSeatOf (options : Options) (trace : List TraceLine) (report : List Line) (p : ℕ) (entry : KeptSeat) : Type 0 where
  pub shape : entry.shape ≡ shape_of options
  pub history : entry.history ≡ history_after options p trace report (length (writes_of options p trace))
  pub closed : entry.closed ≡ gets_to_partition options p trace

-- one seat for each partition, in order
pub record AreTablesOf (options : Options) (trace : List TraceLine) (report : List Line) (tables : List KeptSeat) : Type 0 where
  pub many : length tables ≡ options.partitions
  pub each : (p : ℕ) (entry : KeptSeat) → slice_get tables p ≡ Some entry → IsKeptSeatOf options trace report p entry

-- a run over tables that keep its owners' seats
pub record IsReplayed (options : Options) (trace : List TraceLine) (report : List Line) (kept : List KeptSeat) : Type 0 where
  pub lawful : LawfulReport options trace report
  pub tables : AreTablesOf options trace report kept
