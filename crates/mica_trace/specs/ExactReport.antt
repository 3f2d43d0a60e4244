-- A report that answers each get at its place in the trace, as one thread does.
use Rattle.std.specs.Prelude.{◌≡◌, ℕ, ◌<◌, List, length, take, slice_get, Some, IsSome}
use Rattle.std.specs.List.{AllZip}
use Rattle.partition_model.specs.declared.options.Options.{Options}
use Rattle.partition_model.specs.Run.{IsRun}
use Rattle.mica_trace.specs.declared.line.TraceLine.{TraceLine}
use Rattle.mica_trace.specs.declared.report.Line.{Line}
use Rattle.mica_trace.specs.Rounds.{partition_in, op_of, writes_of}
use Rattle.mica_trace.specs.LawfulReport.{IsLineFor, steps_of, history_after, Answers, IsGetAt}

-- how many writes of the partition stand before line n
abbrev pub writes_before : Options → ℕ → List TraceLine → ℕ → ℕ
writes_before options partition trace n = length (writes_of options partition (take n trace))

-- A report that is lawful, and whose gets are answered as of their own place in the trace.
pub record ExactReport (options : Options) (trace : List TraceLine) (report : List Line) : Type 0 where
  -- its lines stand one to one for those of the trace
  pub lines : AllZip IsLineFor trace report
  -- each partition's writes, in trace order, with the printed replies and stamps, are a run of its machine
  pub writes : (p : ℕ) → p < options.partitions → IsRun options (steps_of options p trace report)
  -- each get has the machine's answer after the writes that stand before it
  pub gets : (n : ℕ) (line : TraceLine) (printed : Line) → IsGetAt trace report n line printed
      → let p = partition_in options line in
      Answers options (history_after options p trace report (writes_before options p trace n)) line.key printed

-- the two have the same lines for the writes of the trace
abbrev pub AgreeOnWrites : List TraceLine → List Line → List Line → Type 0
AgreeOnWrites trace a b =
    (n : ℕ) (line : TraceLine) (x y : Line) → slice_get trace n ≡ Some line → IsSome (op_of line.op)
    → slice_get a n ≡ Some x → slice_get b n ≡ Some y → x ≡ y
