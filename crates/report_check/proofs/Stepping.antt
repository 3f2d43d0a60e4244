-- A round of a partition, line by line.
use Rattle.std.proofs.Common.{◌≡◌, ◌≢◌, ℕ, ◌+◌, ◌≤◌, List, [], ◌∷◌, length, take, Some, None, sym, ap, ◌∙◌, subst, arith, slice_get, Bool, true, false, MatchBool}
use Rattle.list_laws.proofs.Places.{element_at}
use Rattle.partition_model.specs.declared.options.Options.{Options}
use Rattle.partition_model.specs.History.{History, State, stamp_in}
use Rattle.partition_model.specs.Run.{IsRun, IsRunFrom}
use Rattle.mica_trace.specs.declared.line.TraceLine.{TraceLine}
use Rattle.mica_trace.specs.declared.report.Line.{Line}
use Rattle.mica_trace.specs.Rounds.{partition_in}
use Rattle.mica_trace.specs.LawfulReport.{steps_of}
use Rattle.partition_model.proofs.Runs.{run-append}
use Rattle.report_check.specs.declared.asked.Asked.{Asked}
use Rattle.report_check.specs.declared.machine.Machine.{Machine}
use Rattle.report_check.specs.declared.settling.Settling.{Settling}
use Rattle.report_check.specs.declared.sharing.OwnLine.{OwnLine}
use Rattle.report_check.specs.Machines.{IsAt, IsAfter}
use Rattle.report_check.specs.Moments.{history_at}
use Rattle.report_check.specs.Judged.{step_at, TakesStep, IsFirstWrong}
use Rattle.report_check.specs.Shared.{HasNone, AreLinesOf}
use Rattle.report_check.specs.Settling.{AreGets, HasJudged, IsAhead, IsSettled}
use Rattle.std.proofs.lemmas.Option.{slice_get_within}
use Rattle.std.proofs.lemmas.Grind.{common_steps}
use Rattle.report_check.proofs.OwnLines.{skip_to}
use Rattle.report_check.proofs.Histories.{steps_here, steps_there, history_here, history_there}
use Rattle.report_check.proofs.SettledGets.{settled_first, settled_more, settled_same}

-- the machine stands after the lines before the place, whose writes are a run, and the gets of the round are settled so far
pub record Stands (options : Options) (p : ℕ) (trace : List TraceLine) (report : List Line) (from place : ℕ) (asked : List Asked) (machine : Machine) (settling : Settling) : Type 0 where
  pub run : IsRun options (steps_of options p (take place trace) (take place report))
  pub after : IsAfter options (history_at options p trace report place) machine
  pub settled : IsSettled options p trace report from place asked settling

module _ (options : Options) (p : ℕ) (trace : List TraceLine) (report : List Line) (same : length report ≡ length trace) (from : ℕ) (asked : List Asked) (gets : AreGets trace report asked) where
  -- some more gets were judged by the state that the machine is in
  abbrev pub Judges : Machine → Settling → Settling → Type 0
  Judges machine old new = (state : State) → IsAt state machine → HasJudged state trace report asked old new × IsAhead (stamp_in state) asked new.next

  pub stands_first : (machine : Machine) (new : Settling) → IsRun options (steps_of options p (take from trace) (take from report)) → IsAfter options (history_at options p trace report from) machine
      → Judges machine (record { next = 0; missed = None }) new → Stands options p trace report from from asked machine new
  stands_first machine new run after judges = grind (arith, common_steps, settled_first options p trace report same from asked gets new)

  -- a line of the partition
  pub stands_here : (place : ℕ) (line : TraceLine) (printed : Line) (old machine : Machine) (settling new : Settling) → from ≤ place → slice_get trace place ≡ Some line → slice_get report place ≡ Some printed
      → partition_in options line ≡ p → Stands options p trace report from place asked old settling → TakesStep options (history_at options p trace report place) line printed machine
      → Judges machine settling new → Stands options p trace report from (place + 1) asked machine new
  stands_here place line printed old machine settling new low is_line is_printed inside stands takes judges =
      let grown = history_here options p trace report same place line printed is_line is_printed inside in
      let after : IsAfter options (history_at options p trace report (place + 1)) machine = subst (λ (h : History). IsAfter options h machine) (sym grown) takes.after in
      record {
        run = subst (λ steps. IsRunFrom options [] steps) (sym (steps_here options p trace report same place line printed is_line is_printed inside))
            (run-append options [] (steps_of options p (take place trace) (take place report)) (step_at line printed) stands.run takes.run);
        after = after;
        settled = grind (arith, common_steps, settled_more options p trace report same from asked gets place settling new low stands.settled);
      }

  -- a line of another
  pub stands_there : (place : ℕ) (line : TraceLine) (printed : Line) (machine : Machine) (settling : Settling) → from ≤ place → slice_get trace place ≡ Some line → slice_get report place ≡ Some printed
      → partition_in options line ≢ p → Stands options p trace report from place asked machine settling → Stands options p trace report from (place + 1) asked machine settling
  stands_there place line printed machine settling low is_line is_printed outside stands =
      grind (arith, history_there options p trace report same place line printed is_line is_printed outside, steps_there options p trace report same place line printed is_line is_printed outside, settled_same options p trace report same from asked gets place settling low)

  -- a write that the machine may not take
  pub wrong_here : (place : ℕ) (line : TraceLine) (printed : Line) (machine : Machine) (settling : Settling) → slice_get trace place ≡ Some line → slice_get report place ≡ Some printed
      → partition_in options line ≡ p → Stands options p trace report from place asked machine settling → ¬ (IsRunFrom options (history_at options p trace report place) (step_at line printed))
      → IsFirstWrong options p trace report place
  wrong_here place line printed machine settling is_line is_printed inside stands denied = grind (arith, common_steps)

-- what a step that may be taken, or may not, says
pub took : (may : Bool) (options : Options) (history : History) (line : TraceLine) (printed : Line) (machine : Machine) → may ≡ true
    → MatchBool may (TakesStep options history line printed machine) (¬ (IsRunFrom options history (step_at line printed))) → TakesStep options history line printed machine
took may options history line printed machine holds is = grind (arith, common_steps)

pub refused : (may : Bool) (options : Options) (history : History) (line : TraceLine) (printed : Line) (machine : Machine) → may ≡ false
    → MatchBool may (TakesStep options history line printed machine) (¬ (IsRunFrom options history (step_at line printed))) → ¬ (IsRunFrom options history (step_at line printed))
refused may options history line printed machine denied is = grind (arith, common_steps)

-- The machine stands before the lines that are left of a round.
pub record GoesOn (options : Options) (p : ℕ) (trace : List TraceLine) (report : List Line) (from to : ℕ) (lines : List OwnLine) (asked : List Asked) (machine : Machine) (settling : Settling) : Type 0 where
  pub place : ℕ
  pub low : from ≤ place
  pub left : AreLinesOf options p trace place to lines
  pub stands : Stands options p trace report from place asked machine settling
  pub high : to ≤ length trace

module _ (options : Options) (p : ℕ) (trace : List TraceLine) (report : List Line) (same : length report ≡ length trace) (from to : ℕ) (asked : List Asked) (gets : AreGets trace report asked) (machine : Machine) (settling : Settling) where
  -- over the lines of others
  stands_over : (place end : ℕ) → from ≤ place → place ≤ end → end ≤ length trace → HasNone options p trace place end → Stands options p trace report from place asked machine settling
      → Stands options p trace report from end asked machine settling
  stands_over place end low le high none stands =
      (skip_to options p trace (λ n. (from ≤ n) × Stands options p trace report from n asked machine settling)
      (λ n line is outside at.
      let printed = element_at report n (let less = slice_get_within trace n line is in omega arith) in
      (let low = at.0 in omega arith, stands_there options p trace report same from asked gets n line printed.0 machine settling at.0 is printed.1 outside at.1))
      place end le high none (low, stands)).1

  -- before the next of them
  pub stands_before : (own : OwnLine) (later : List OwnLine) → GoesOn options p trace report from to (own ∷ later) asked machine settling
      → Stands options p trace report from own.place asked machine settling
  stands_before own later on = grind (arith, common_steps, stands_over on.place own.place on.low on.left.1 (omega arith) on.left.3 on.stands)

  pub stands_at_end : GoesOn options p trace report from to [] asked machine settling → Stands options p trace report from to asked machine settling
  stands_at_end on = stands_over on.place to on.low on.left.0 on.high on.left.1 on.stands

  -- The next of them, and what the machine says of it.
  module _ (own : OwnLine) (later : List OwnLine) (line : TraceLine) (printed : Line) (may : Bool) (new : Machine) (on : GoesOn options p trace report from to (own ∷ later) asked machine settling)
      (is_line : slice_get trace own.place ≡ Some line) (is_printed : slice_get report own.place ≡ Some printed)
      (says : (options : Options) (history : History) → IsAfter options history machine → MatchBool may (TakesStep options history line printed new) (¬ (IsRunFrom options history (step_at line printed)))) where
    inside : partition_in options line ≡ p
    inside = let at = on.left.0.is in let same : on.left.0.line ≡ line = cc in ap (partition_in options) (sym same) ∙ on.left.0.inside

    stands : Stands options p trace report from own.place asked machine settling
    stands = stands_before own later on

    said : MatchBool may (TakesStep options (history_at options p trace report own.place) line printed new) (¬ (IsRunFrom options (history_at options p trace report own.place) (step_at line printed)))
    said = says options (history_at options p trace report own.place) stands.after

    pub wrong_next : may ≡ false → IsFirstWrong options p trace report own.place
    wrong_next denied = wrong_here options p trace report same from asked gets own.place line printed machine settling is_line is_printed inside stands
        (refused may options (history_at options p trace report own.place) line printed new denied said)

    pub takes_next : may ≡ true → TakesStep options (history_at options p trace report own.place) line printed new
    takes_next holds = took may options (history_at options p trace report own.place) line printed new holds said

    pub goes_on : may ≡ true → (settled : Settling) → Judges options p trace report same from asked gets new settling settled → GoesOn options p trace report from to later asked new settled
    goes_on holds settled judges =
        grind (arith, on.low, on.left.1, on.left.4, stands_here options p trace report same from asked gets own.place line printed machine new settling settled (let low = on.low in let first = on.left.1 in omega arith) is_line is_printed inside stands (takes_next holds) judges, on.high)
