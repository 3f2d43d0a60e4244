use Rattle.std.proofs.Common.{rules}
use Rattle.std.proofs.Common.{◌≡◌, ◌+◌, ◌<◌, ◌∷◌, ℕ, List, drop, get_or, length, slice_get, Some, None, subst, arith}
use Rattle.std.proofs.lemmas.Option.{slice_get_read, slice_get-get_or}
use Rattle.std.specs.List.{AllByRecursion}
use Rattle.partition_model.specs.History.{stamp_in}
use Rattle.mica_trace.specs.declared.line.TraceLine.{TraceLine}
use Rattle.mica_trace.specs.declared.report.Line.{Line}
use Rattle.mica_trace.specs.LawfulReport.{IsLineFor}
use Rattle.mica_trace.proofs.ListParts.{length_zip}
use Rattle.report_check.specs.declared.asked.Asked.{Asked}
use Rattle.report_check.specs.declared.sharing.OwnLine.{OwnLine}
use Rattle.report_check.specs.Judged.{LeavesMissed}
use Rattle.report_check.specs.Settling.{HasJudged, IsAhead}
use Rattle.report_check.proofs.Asking.{asked_among, gets_of_among}
use Rattle.report_check.proofs.Fitting.{all_at}
use Rattle.report_check.proofs.OwnLines.{all_seen, left_one, left_none, read_same}
use Rattle.report_check.proofs.SettledGets.{first_of}
use Rattle.report_check.proofs.Stepping.{GoesOn, stands_first, stands_at_end, wrong_next, takes_next, goes_on}
use Rattle.report_check.proofs.partition.judge_round.Goals as goal

abbrev none : OwnLine
none = record { place = 0; gets = 0 }

pub gets_among-requires-clause-same : goal.gets_among-requires-clause-same
gets_among-requires-clause-same c = length_zip IsLineFor c.args.trace.now c.args.report.now c.requires.lines

pub loop-at-init : goal.loop-at-init
loop-at-init c = λ options p from to before.
    let trace = c.args.trace.now in
    let report = c.args.report.now in
    let same = length_zip IsLineFor trace report c.requires.lines in
    let asked = c.in_ok-asked.asked.items in
    let gets = gets_of_among trace report c.args.lines.now asked c.in_ok-asked.ensures.all in
    let new = c.judge-settling.result in
    record {
      place = from;
      low = omega arith;
      left = before.own;
      stands = stands_first options p trace report same from asked gets c.args.machine.now new before.run before.after
          (λ state at. (
            subst (λ (xs : List Asked). HasJudged state trace report xs (record { next = 0; missed = None }) new) c.as_slice.ensures.value (c.judge-settling.ensures.judged state at),
            subst (λ (xs : List Asked). IsAhead (stamp_in state) xs new.next) c.as_slice.ensures.value (c.judge-settling.ensures.ahead state at),
          ));
      high = before.high;
    }

pub bounds-report-place : goal.bounds-report-place
bounds-report-place c = search (rules, all_seen, slice_get-get_or, length_zip)

-- the lines at the next of the places
is_line : (trace : List TraceLine) (lines : List OwnLine) (at : ℕ) (line : TraceLine) → at < length lines → AllByRecursion (λ (own : OwnLine). own.place < length trace) lines
    → line ≡ get_or trace (get_or lines at none).place line → slice_get trace (get_or lines at none).place ≡ Some line
is_line trace lines at line less within is = search (rules, slice_get_read, all_seen, slice_get-get_or, length, get_or)

is_printed : (trace : List TraceLine) (report : List Line) (lines : List OwnLine) (at : ℕ) (printed : Line) → at < length lines → AllByRecursion (λ (own : OwnLine). own.place < length trace) lines
    → length report ≡ length trace → printed ≡ get_or report (get_or lines at none).place printed → slice_get report (get_or lines at none).place ≡ Some printed
is_printed trace report lines at printed less within same is = search (rules, all_seen, slice_get_read, get_or, slice_get-get_or, length)

pub take_step-requires-clause-stands : goal.take_step-requires-clause-stands
take_step-requires-clause-stands c =
    let trace = c.args.trace.now in
    let report = c.args.report.now in
    let lines = c.args.lines.now in
    let at = c.loop-at.at in
    let same = length_zip IsLineFor trace report c.requires.lines in
    all_at IsLineFor trace report (get_or lines at none).place _ _ c.requires.lines (is_line trace lines at _ c.loop-at-test.true c.requires.within c.index-trace-place.is)
    (is_printed trace report lines at _ c.loop-at-test.true c.requires.within same c.index-report-place.is)

-- the next of the lines that are left
left : (lines : List OwnLine) (at : ℕ) → at < length lines → drop at lines ≡ get_or lines at none ∷ drop (at + 1) lines
left lines at less = left_one lines at (get_or lines at none) less (read_same lines at none less)

pub returns-then-not-branch : goal.returns-then-not-branch
returns-then-not-branch c = λ options p from to before.
    let trace = c.args.trace.now in
    let report = c.args.report.now in
    let lines = c.args.lines.now in
    let at = c.loop-at.at in
    let same = length_zip IsLineFor trace report c.requires.lines in
    let asked = c.in_ok-asked.asked.items in
    let gets = gets_of_among trace report lines asked c.in_ok-asked.ensures.all in
    let on = subst (λ (ls : List OwnLine). GoesOn options p trace report from to ls asked c.loop-at.machine c.loop-at.settling) (left lines at c.loop-at-test.true) (c.loop-at.invariant options p from to before) in
    wrong_next options p trace report same from to asked gets c.loop-at.machine c.loop-at.settling (get_or lines at none) (drop (at + 1) lines) c.index-trace-place.result c.index-report-place.result
    c.in_ok-take_step.field-0 c.take_step.new.machine on (is_line trace lines at _ c.loop-at-test.true c.requires.within c.index-trace-place.is)
    (is_printed trace report lines at _ c.loop-at-test.true c.requires.within same c.index-report-place.is) c.in_ok-take_step.ensures c.if-not-branch.true

pub judge-settling-requires-in-loop-at-clause-at : goal.judge-settling-requires-in-loop-at-clause-at
judge-settling-requires-in-loop-at-clause-at c =
    let b = c.requires.before in
    let trace = c.args.trace.now in
    let report = c.args.report.now in
    let lines = c.args.lines.now in
    let at = c.loop-at.at in
    let same = length_zip IsLineFor trace report c.requires.lines in
    let asked = c.in_ok-asked.asked.items in
    let gets = gets_of_among trace report lines asked c.in_ok-asked.ensures.all in
    let on = subst (λ (ls : List OwnLine). GoesOn b.0 b.1 trace report b.2 b.3 ls asked c.loop-at.machine c.loop-at.settling) (left lines at c.loop-at-test.true) (c.loop-at.invariant b.0 b.1 b.2 b.3 b.4) in
    let takes = takes_next b.0 b.1 trace report same b.2 b.3 asked gets c.loop-at.machine c.loop-at.settling (get_or lines at none) (drop (at + 1) lines) c.index-trace-place.result c.index-report-place.result
    c.in_ok-take_step.field-0 c.take_step.new.machine on (is_line trace lines at _ c.loop-at-test.true c.requires.within c.index-trace-place.is)
    (is_printed trace report lines at _ c.loop-at-test.true c.requires.within same c.index-report-place.is) c.in_ok-take_step.ensures c.if-not-branch.false in
    (_, takes.after.at)

pub loop-at-preserved : goal.loop-at-preserved
loop-at-preserved c = λ options p from to before.
    let trace = c.args.trace.now in
    let report = c.args.report.now in
    let lines = c.args.lines.now in
    let at = c.loop-at.at in
    let same = length_zip IsLineFor trace report c.requires.lines in
    let asked = c.in_ok-asked.asked.items in
    let gets = gets_of_among trace report lines asked c.in_ok-asked.ensures.all in
    let new = c.judge-settling-in-loop-at.result in
    let on = subst (λ (ls : List OwnLine). GoesOn options p trace report from to ls asked c.loop-at.machine c.loop-at.settling) (left lines at c.loop-at-test.true) (c.loop-at.invariant options p from to before) in
    goes_on options p trace report same from to asked gets c.loop-at.machine c.loop-at.settling (get_or lines at none) (drop (at + 1) lines) c.index-trace-place.result c.index-report-place.result
    c.in_ok-take_step.field-0 c.take_step.new.machine on (is_line trace lines at _ c.loop-at-test.true c.requires.within c.index-trace-place.is)
    (is_printed trace report lines at _ c.loop-at-test.true c.requires.within same c.index-report-place.is) c.in_ok-take_step.ensures c.if-not-branch.false new
    (λ state here. (
      subst (λ (xs : List Asked). HasJudged state trace report xs c.loop-at.settling new) c.as_slice-in-loop-at.ensures.value (c.judge-settling-in-loop-at.ensures.judged state here),
      subst (λ (xs : List Asked). IsAhead (stamp_in state) xs new.next) c.as_slice-in-loop-at.ensures.value (c.judge-settling-in-loop-at.ensures.ahead state here),
    ))

pub returns : goal.returns
returns c = λ options p from to before.
    let trace = c.args.trace.now in
    let report = c.args.report.now in
    let lines = c.args.lines.now in
    let at = c.loop-at.at in
    let same = length_zip IsLineFor trace report c.requires.lines in
    let asked = c.in_ok-asked.asked.items in
    let gets = gets_of_among trace report lines asked c.in_ok-asked.ensures.all in
    let on = subst (λ (ls : List OwnLine). GoesOn options p trace report from to ls asked c.loop-at.machine c.loop-at.settling) (left_none lines at c.loop-at-test.false) (c.loop-at.invariant options p from to before) in
    let stands = stands_at_end options p trace report same from to asked gets c.loop-at.machine c.loop-at.settling on in
    let leaves = subst (λ (xs : List Asked). LeavesMissed xs c.loop-at.settling c.first_missed.result) c.as_slice-2.ensures.value c.first_missed.ensures in (
      stands.run,
      stands.after,
      first_of options p trace report same from asked gets to c.loop-at.settling c.first_missed.result
          (asked_among trace report options p from to lines asked before.own c.in_ok-asked.ensures.all) stands.settled leaves,
    )
