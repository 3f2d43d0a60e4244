-- What is printed for a round stands for its lines: each write has an outcome that its operation may have, and each value was written by a
-- line of the trace.
use Rattle.std.proofs.Common.{◌≡◌, ℕ, zero, suc, List, [], ◌∷◌, ◌++◌, slice_get, Option, Some, None, refl, sym, subst, true, arith}
use Rattle.std.specs.List.{AllByRecursion, AllZip, cons_option, fold}
use Rattle.std.proofs.lemmas.Grind.{common_steps}
use Rattle.partition_model.specs.declared.options.Options.{Options}
use Rattle.partition_model.specs.declared.write.Op.TheVariants.{Put as PutOp, Add as AddOp, Touch as TouchOp, Del as DelOp}
use Rattle.partition_model.specs.declared.write.Write.{Write}
use Rattle.partition_model.specs.Write.{GivesValue}
use Rattle.partition_model.specs.History.{History, State, IsPrefix, MayGive, after, start, state_of}
use Rattle.partition_model.specs.Run.{RunStep, accepted_write, history_of, IsRunFrom}
use Rattle.mica_trace.proofs.Values.{ValuesAre, start_are, after_are, value_is}
use Rattle.mica_trace.specs.declared.line.TraceOp.{TraceOp}
use Rattle.mica_trace.specs.declared.line.TraceOp.TheVariants.{Put, Add, Del, Touch, Get, Sync}
use Rattle.mica_trace.specs.declared.line.TraceLine.{TraceLine}
use Rattle.mica_trace.specs.declared.report.Line.{Line}
use Rattle.mica_trace.specs.declared.report.Line.TheVariants.{Wrote, Hit, Miss, Sync as SyncLine}
use Rattle.mica_trace.specs.TraceGrammar.{IsValue, IsTraceLine}
use Rattle.mica_trace.specs.ReportGrammar.{HasOutcome, IsReportLine}
use Rattle.mica_trace.specs.Rounds.{is_in_partition, write_by}
use Rattle.mica_trace.specs.LawfulReport.{IsKindOf, IsLineFor, step_by, step_in, steps_of, Answers}
use Rattle.mica_trace.proofs.Outcomes.{has_outcome}
use Rattle.mica_trace.specs.RoundReport.{HasKind}

-- Values

-- what a write stores is a value of a trace
abbrev pub StoresValue : Write → Type 0
StoresValue write = GivesValue write.op → IsValue write.value

values_from : (options : Options) (now : State) (history : History) → AllByRecursion StoresValue history → ValuesAre IsValue now → ValuesAre IsValue (fold (after options) now history)
values_from options now [] all values = values
values_from options now (write ∷ history) all values = values_from options (after options now write) history all.1 (after_are IsValue options now write all.0 values)

pub values_of : (options : Options) (history : History) → AllByRecursion StoresValue history → ValuesAre IsValue (state_of options history)
values_of options history all = values_from options (start options.mode) history all (start_are IsValue options.mode)

all_front : (a b : History) → AllByRecursion StoresValue (a ++ b) → AllByRecursion StoresValue a
all_front [] b all = tt
all_front (w ∷ a) b all = (all.0, all_front a b all.1)

pub all_both : (a b : History) → AllByRecursion StoresValue a → AllByRecursion StoresValue b → AllByRecursion StoresValue (a ++ b)
all_both [] b one two = two
all_both (w ∷ a) b one two = (one.0, all_both a b one.1 two)

pub stored_in_prefix : (a h : History) → IsPrefix a h → AllByRecursion StoresValue h → AllByRecursion StoresValue a
stored_in_prefix a h is all = all_front a is.0 (subst (AllByRecursion StoresValue) is.1 all)

pub history_first : (o : Option RunStep) (steps : List RunStep) → history_of (cons_option o steps) ≡ history_of (cons_option o []) ++ history_of steps
history_first None steps = refl
history_first (Some step) steps = by (accepted_write step)
  where
    by : (w : Option Write) → cons_option w (history_of steps) ≡ cons_option w [] ++ history_of steps
    by None = refl
    by (Some v) = refl

-- the writes that a trace's lines leave store values of a trace
pub stored : (options : Options) (p : ℕ) (lines : List TraceLine) (report : List Line) → AllByRecursion IsTraceLine lines → AllByRecursion StoresValue (history_of (steps_of options p lines report))
stored options p [] report all = tt
stored options p (line ∷ lines) [] all = tt
stored options p (line ∷ lines) (r ∷ report) all = grind (arith, common_steps, stored options p lines report all.1)

-- a get that was answered after a history of such writes has a value of a trace, if it has one
pub answer_stands : (options : Options) (cut : History) (key : List ℕ) (r : Line) → AllByRecursion StoresValue cut → Answers options cut key r → IsReportLine r
answer_stands options cut key (Hit s value) all answers = value_is IsValue (state_of options cut) key value (values_of options cut all) (sym answers.1)
answer_stands options cut key (Miss s) all answers = tt
answer_stands options cut key (Wrote op outcome s) all answers = absurd answers
answer_stands options cut key SyncLine all answers = absurd answers

-- Outcomes

step_stands : (options : Options) (history : History) (op : TraceOp) (key value : List ℕ) (w : Write) (r : Line) → IsKindOf op r → write_by op key value ≡ Some w
    → ((step : RunStep) → step_by (write_by op key value) r ≡ Some step → MayGive options history step.write step.outcome) → IsReportLine r
step_stands options history Put key value w (Wrote op outcome s) kind is may =
    subst (λ o. HasOutcome o outcome) (sym kind) (has_outcome options (state_of options history) (record { op = PutOp; key = key; value = value }) outcome (may _ refl))
step_stands options history Add key value w (Wrote op outcome s) kind is may =
    subst (λ o. HasOutcome o outcome) (sym kind) (has_outcome options (state_of options history) (record { op = AddOp; key = key; value = value }) outcome (may _ refl))
step_stands options history Del key value w (Wrote op outcome s) kind is may =
    subst (λ o. HasOutcome o outcome) (sym kind) (has_outcome options (state_of options history) (record { op = DelOp; key = key; value = value }) outcome (may _ refl))
step_stands options history Touch key value w (Wrote op outcome s) kind is may =
    subst (λ o. HasOutcome o outcome) (sym kind) (has_outcome options (state_of options history) (record { op = TouchOp; key = key; value = value }) outcome (may _ refl))
step_stands options history Put key value w (Hit s v) kind is may = absurd kind
step_stands options history Add key value w (Hit s v) kind is may = absurd kind
step_stands options history Put key value w (Miss s) kind is may = absurd kind
step_stands options history Add key value w (Miss s) kind is may = absurd kind
step_stands options history Put key value w SyncLine kind is may = absurd kind
step_stands options history Add key value w SyncLine kind is may = absurd kind
step_stands options history Del key value w (Hit s v) kind is may = absurd kind
step_stands options history Touch key value w (Hit s v) kind is may = absurd kind
step_stands options history Del key value w (Miss s) kind is may = absurd kind
step_stands options history Touch key value w (Miss s) kind is may = absurd kind
step_stands options history Del key value w SyncLine kind is may = absurd kind
step_stands options history Touch key value w SyncLine kind is may = absurd kind
step_stands options history Get key value w r kind is may = absurd (cc)
step_stands options history Sync key value w r kind is may = absurd (cc)

run_first : (options : Options) (history : History) (o : Option RunStep) (steps : List RunStep) → IsRunFrom options history (cons_option o steps)
    → ((step : RunStep) → o ≡ Some step → MayGive options history step.write step.outcome) × ((later : History) × IsRunFrom options later steps)
run_first options history None steps run = ((λ step is. absurd (cc)), (history, run))
run_first options history (Some first) steps run = grind (arith, common_steps)

-- what is printed for a write of a run has an outcome that its operation may have
pub write_stands : (options : Options) (p : ℕ) (lines : List TraceLine) (report : List Line) (history : History) (n : ℕ) (line : TraceLine) (r : Line) (w : Write)
    → AllZip HasKind lines report → IsRunFrom options history (steps_of options p lines report) → slice_get lines n ≡ Some line → slice_get report n ≡ Some r
    → is_in_partition options p line ≡ true → write_by line.op line.key line.value ≡ Some w → IsReportLine r
write_stands options p [] report history n line r w kinds run is_line is_r here is = absurd (cc)
write_stands options p (l ∷ lines) [] history n line r w kinds run is_line is_r here is = absurd kinds
write_stands options p (l ∷ lines) (x ∷ report) history zero line r w kinds run is_line is_r here is =
    grind (arith, common_steps, run_first options history (step_in options p (l, x)) (steps_of options p lines report) run, step_stands options history line.op line.key line.value w r)
write_stands options p (l ∷ lines) (x ∷ report) history (suc n) line r w kinds run is_line is_r here is =
    let later = (run_first options history (step_in options p (l, x)) (steps_of options p lines report) run).1 in
    write_stands options p lines report later.0 n line r w kinds.1 later.1 is_line is_r here is

-- lines that stand at each place stand for one another
pub all_stand : (lines : List TraceLine) (report : List Line) → AllZip HasKind lines report
    → ((n : ℕ) (line : TraceLine) (r : Line) → slice_get lines n ≡ Some line → slice_get report n ≡ Some r → IsReportLine r) → AllZip IsLineFor lines report
all_stand [] [] kinds each = tt
all_stand [] (r ∷ report) kinds each = absurd kinds
all_stand (line ∷ lines) [] kinds each = absurd kinds
all_stand (line ∷ lines) (r ∷ report) kinds each = ((each 0 line r refl refl, kinds.0), all_stand lines report kinds.1 (λ n l x is_l is_x. each (suc n) l x is_l is_x))
