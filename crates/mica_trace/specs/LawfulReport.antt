-- What makes a report lawful for options and a trace.
use Rattle.std.specs.Prelude.{◌≡◌, ℕ, ◌<◌, ◌≤◌, List, take, slice_get, Option, Some, None, if◌then◌else◌}
use Rattle.std.specs.List.{filter_map, zip, AllZip}
use Rattle.partition_model.specs.declared.options.Options.{Options}
use Rattle.partition_model.specs.declared.write.Op.{Op}
use Rattle.partition_model.specs.declared.write.Write.{Write}
use Rattle.partition_model.specs.History.{History}
use Rattle.partition_model.specs.Run.{RunStep, IsRun, history_of, IsAnswerAt}
use Rattle.mica_trace.specs.declared.line.TraceOp.{TraceOp}
use Rattle.mica_trace.specs.declared.line.TraceOp.TheVariants.{Get, Sync}
use Rattle.mica_trace.specs.declared.line.TraceLine.{TraceLine}
use Rattle.mica_trace.specs.declared.report.Line.{Line}
use Rattle.mica_trace.specs.declared.report.Line.TheVariants.{Wrote, Hit, Miss, Sync as SyncLine}
use Rattle.mica_trace.specs.ReportGrammar.{IsReportLine}
pub use Rattle.mica_trace.specs.ReportGrammar.{printed_stamp}
use Rattle.mica_trace.specs.Rounds.{partition_in, is_in_partition, op_of, write_by, round_of, round_begin, round_end, reader_of}

-- a write was asked for, and it is this one that is replied to
abbrev pub IsReplyTo : Option Op → Op → Type 0
IsReplyTo None replied = ⊥
IsReplyTo (Some asked) replied = replied ≡ asked

-- the kind of report line that an operation has: a write has its reply, a get its answer, and a sync a sync
abbrev pub IsKindOf : TraceOp → Line → Type 0
IsKindOf op (Wrote replied outcome stamp) = IsReplyTo (op_of op) replied
IsKindOf Get (Hit stamp value) = Unit {0}
IsKindOf Get (Miss stamp) = Unit {0}
IsKindOf Sync SyncLine = Unit {0}
IsKindOf _ _ = ⊥

-- the report line stands for the line of the trace
abbrev pub IsLineFor : TraceLine → Line → Type 0
IsLineFor line printed = IsReportLine printed × IsKindOf line.op printed

-- the step that a report line prints for a write; a line that prints no reply has none
abbrev pub step_by : Option Write → Line → Option RunStep
step_by (Some write) (Wrote op outcome stamp) = Some (record { write = write; outcome = outcome; stamp = stamp })
step_by _ _ = None

-- the step of a line of the trace and of the one printed for it, if it is a write of the partition
abbrev pub step_in : Options → ℕ → TraceLine × Line → Option RunStep
step_in options partition (line, printed) =
    if is_in_partition options partition line then step_by (write_by line.op line.key line.value) printed else None

-- the writes of a partition in trace order, with the replies and stamps that are printed for them
abbrev pub steps_of : Options → ℕ → List TraceLine → List Line → List RunStep
steps_of options partition lines report = filter_map (step_in options partition) (zip lines report)

-- the history of a partition after the first i of its writes
abbrev pub history_after : Options → ℕ → List TraceLine → List Line → ℕ → History
history_after options partition lines report i = history_of (take i (steps_of options partition lines report))

-- the line gives the stamp and the answer that the machine has for the key after the history
abbrev pub Answers : Options → History → List ℕ → Line → Type 0
Answers options history key (Hit stamp value) = IsAnswerAt options history key stamp (Some value)
Answers options history key (Miss stamp) = IsAnswerAt options history key stamp None
Answers options history key _ = ⊥

-- the get at place n of the trace, and what is printed for it
pub record IsGetAt (lines : List TraceLine) (report : List Line) (n : ℕ) (line : TraceLine) (printed : Line) : Type 0 where
  pub asked : slice_get lines n ≡ Some line
  pub answered : slice_get report n ≡ Some printed
  pub get : line.op ≡ Get

-- a get is answered as after i of its partition's writes, from those before its round to those before the round's end
abbrev pub IsAnsweredInRound : Options → List TraceLine → List Line → ℕ → TraceLine → Line → Type 0
IsAnsweredInRound options lines report n line printed =
    let p = partition_in options line in
    let round = round_of lines n in
    (i : ℕ) × (round_begin options p lines round ≤ i) × (i ≤ round_end options p lines round)
    × Answers options (history_after options p lines report i) line.key printed

-- What many threads may print for a trace: each reply is that of a one-thread machine at the printed stamp.
pub record LawfulReport (options : Options) (trace : List TraceLine) (report : List Line) : Type 0 where
  -- its lines stand one to one for those of the trace
  pub lines : AllZip IsLineFor trace report
  -- each partition's writes, in trace order, with the printed replies and stamps, are a run of its machine
  pub writes : (p : ℕ) → p < options.partitions → IsRun options (steps_of options p trace report)
  -- each get has the machine's answer at its stamp, at a moment of its round
  pub gets : (n : ℕ) (line : TraceLine) (printed : Line) → IsGetAt trace report n line printed
      → IsAnsweredInRound options trace report n line printed
  -- the stamps of one reader in one partition never fall
  pub order : (m n : ℕ) (line line' : TraceLine) (printed printed' : Line) → m < n
      → IsGetAt trace report m line printed → IsGetAt trace report n line' printed'
      → reader_of options trace m ≡ reader_of options trace n → partition_in options line ≡ partition_in options line'
      → printed_stamp printed ≤ printed_stamp printed'
