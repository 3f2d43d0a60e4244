-- The summary of a trace and its report.
use Rattle.std.specs.Prelude.{ℕ, ◌+◌, Bool, true, false, List, [], ◌∷◌, ◌++◌, length, replicate, slice_set, count_by, codes}
use Rattle.std.specs.List.{fold, zip}
use Rattle.std.specs.Fmt.{decimal}
use Rattle.partition_model.specs.declared.options.Options.{Options}
use Rattle.partition_model.specs.declared.write.Outcome.{Outcome}
use Rattle.partition_model.specs.declared.write.Outcome.TheVariants.{Stored, Deleted, Absent, Touched, FullSpare, FullBlock, Worn, Exists}
use Rattle.mica_trace.specs.declared.line.TraceOp.{TraceOp}
use Rattle.mica_trace.specs.declared.line.TraceOp.TheVariants.{Put, Add, Del, Touch, Get, Sync}
use Rattle.mica_trace.specs.declared.line.TraceLine.{TraceLine}
use Rattle.mica_trace.specs.declared.report.Line.{Line}
use Rattle.mica_trace.specs.declared.report.Line.TheVariants.{Wrote}
use Rattle.mica_trace.specs.Rounds.{partition_in}

abbrev pub is_op : TraceOp → TraceOp → Bool
is_op Put Put = true
is_op Add Add = true
is_op Del Del = true
is_op Touch Touch = true
is_op Get Get = true
is_op Sync Sync = true
is_op _ _ = false

abbrev pub is_outcome : Outcome → Outcome → Bool
is_outcome Stored Stored = true
is_outcome Deleted Deleted = true
is_outcome Absent Absent = true
is_outcome Touched Touched = true
is_outcome FullSpare FullSpare = true
is_outcome FullBlock FullBlock = true
is_outcome Worn Worn = true
is_outcome Exists Exists = true
is_outcome _ _ = false

-- the line prints this outcome of a write
abbrev pub has_outcome : Outcome → Line → Bool
has_outcome outcome (Wrote op printed stamp) = is_outcome outcome printed
has_outcome outcome _ = false

-- how many lines of the trace have this operation
abbrev pub ops_in : List TraceLine → TraceOp → ℕ
ops_in trace op = count_by (λ line. is_op op line.op) trace

-- how many lines of the report have this outcome
abbrev pub outcomes_in : List Line → Outcome → ℕ
outcomes_in report outcome = count_by (λ line. has_outcome outcome line) report

-- the line of a write gives its partition its stamp
abbrev pub stamps_by : Options → List ℕ → TraceLine → Line → List ℕ
stamps_by options stamps line (Wrote op outcome stamp) = slice_set stamps (partition_in options line) stamp
stamps_by options stamps line _ = stamps

-- for each partition the stamp of its last write line, 0 where it has none
abbrev pub last_stamps : Options → List TraceLine → List Line → List ℕ
last_stamps options trace report =
    fold (λ stamps pair. stamps_by options stamps pair.0 pair.1) (replicate options.partitions 0) (zip trace report)

-- a line of a name and a number
abbrev pub number_line : List ℕ → ℕ → List ℕ
number_line name number = name ++ 32 ∷ decimal number ++ 10 ∷ []

abbrev pub counts_text : List TraceLine → List Line → List ℕ
counts_text trace report =
    number_line (codes "lines") (length trace)
    ++ number_line (codes "puts") (ops_in trace Put)
    ++ number_line (codes "dels") (ops_in trace Del)
    ++ number_line (codes "gets") (ops_in trace Get)
    ++ number_line (codes "stored") (outcomes_in report Stored)
    ++ number_line (codes "deleted") (outcomes_in report Deleted)
    ++ number_line (codes "absent") (outcomes_in report Absent)
    ++ number_line (codes "full-spare") (outcomes_in report FullSpare)
    ++ number_line (codes "full-block") (outcomes_in report FullBlock)
    ++ number_line (codes "worn") (outcomes_in report Worn)

-- a line for each stamp, of the partitions from p on
abbrev pub stamps_text : ℕ → List ℕ → List ℕ
stamps_text p [] = []
stamps_text p (stamp ∷ stamps) = number_line (codes "stamp " ++ decimal p) stamp ++ stamps_text (p + 1) stamps

-- the text that `bench` writes: the counts, and then each partition's last stamp
abbrev pub summary_text : Options → List TraceLine → List Line → List ℕ
summary_text options trace report = counts_text trace report ++ stamps_text 0 (last_stamps options trace report)
