use Rattle.std.proofs.Common.{◌≡◌, ◌<◌, Some, get_or, slice_get, take, length, refl, sym, ◌∙◌, arith, rules}
use Rattle.std.proofs.lemmas.List.Sorted.{IsNonDecreasingBy-from_sort_by_key}
use Rattle.std.proofs.lemmas.Option.{slice_get_read, slice_get-get_or}
use Rattle.mica_trace.specs.LawfulReport.{IsGetAt}
use Rattle.report_check.specs.declared.asked.Asked.{Asked}
use Rattle.report_check.specs.declared.sharing.OwnLine.{OwnLine}
use Rattle.report_check.proofs.Asking.{among_skip, among_push, among_sorted, rising}
use Rattle.report_check.proofs.Histories.{take_one, take_past}
use Rattle.report_check.proofs.LastStamps.{is_get_true, no_get_here}
use Rattle.report_check.proofs.OwnLines.{all_seen}
use Rattle.report_check.proofs.asked.gets_among.Goals as goal
use Rattle.report_check.proofs.asked.gets_among.Goals.{then-is_get+in_ok-push, else-is_get}

abbrev none : OwnLine
none = record { place = 0; gets = 0 }

pub loop-at-preserved : goal.loop-at-preserved
loop-at-preserved c =
    let trace = c.args.trace.now in
    let report = c.args.report.now in
    let lines = c.args.lines.now in
    let at = c.loop-at.at in
    let asked = c.loop-at.asked.items in
    let own : OwnLine = get_or lines at none in
    let is : slice_get lines at ≡ Some own = slice_get-get_or lines at none c.loop-at-test.true in
    let less : own.place < length trace = all_seen (λ (o : OwnLine). o.place < length trace) lines at own c.requires.within is in
    let line = c.index-trace-place.result in
    let is_line : slice_get trace own.place ≡ Some line = slice_get_read trace (length trace) own.place line refl less c.index-trace-place.is in
    let more = take_one lines at own is in
    elim c.if-is_get.branch [
      | then-is_get+in_ok-push w ↦
          let printed = w.index-report-place.result in
          let less' : own.place < length report = omega (arith, c.requires.same, less) in
          let is_printed : slice_get report own.place ≡ Some printed = slice_get_read report (length report) own.place printed refl less' w.index-report-place.is in
          let get : IsGetAt trace report own.place line printed = record { asked = is_line; answered = is_printed; get = is_get_true line.op (sym c.is_get.ensures ∙ w.if-is_get.true) } in
          rw (more, w.asked-is, w.in_ok-push.ensures.items, w.printed_stamp.ensures) (among_push trace report (take at lines) own asked line printed get c.loop-at.invariant)
      | else-is_get w ↦
          rw (more, w.asked-is) (among_skip trace report (take at lines) own asked (no_get_here trace report own.place line is_line (sym c.is_get.ensures ∙ w.if-is_get.false)) c.loop-at.invariant)
    ]

pub returns-clause-all : goal.returns-clause-all
returns-clause-all c = search (rules, take_past, among_sorted)

pub returns-clause-rising : goal.returns-clause-rising
returns-clause-rising c = rising _ (IsNonDecreasingBy-from_sort_by_key (λ (a : Asked). a.stamp) _ c.in_ok-sort_by_key.ensures.sorted (λ a r q k. search rules))
