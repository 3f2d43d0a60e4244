use Rattle.std.proofs.Common.{rules}
use Rattle.std.proofs.Common.{◌≡◌, ◌+◌, ◌<◌, ◌≤◌, ◌%◌, List, [], ◌∷◌, ℕ, drop, length, length-set, get_or, slice_get, Some, refl, sym, ap, ◌∙◌, subst, arith}
use Rattle.std.specs.List.{AllByRecursion}
use Rattle.std.proofs.lemmas.Option.{slice_get_read, slice_get-get_or}
use Rattle.std.proofs.lemmas.Grind.{common_steps}
use Rattle.mica_trace.specs.declared.line.TraceLine.{TraceLine}
use Rattle.mica_trace.specs.declared.report.Line.{Line}
use Rattle.mica_trace.specs.ReportGrammar.{printed_stamp}
use Rattle.mica_trace.specs.LawfulReport.{IsGetAt}
use Rattle.mica_trace.specs.RoundReport.{is_get}
use Rattle.report_check.specs.declared.sharing.OwnLine.{OwnLine}
use Rattle.report_check.specs.Shared.{AreLinesOf}
use Rattle.report_check.proofs.LastStamps.{NoneFell, is_get_true, same_default, none_fell_by_line, none_fell_by_get, first_to_fall, none_to_fall}
use Rattle.report_check.proofs.OwnLines.{all_seen, all_within, left_one, left_none, read_same}
use Rattle.report_check.proofs.falls.first_fall.Goals as goal
use Rattle.report_check.proofs.falls.first_fall.Goals.{then-is_get+else-stamp-index, else-is_get}

abbrev none : OwnLine
none = record { place = 0; gets = 0 }

-- the line that is looked at, and the stamp of its reader
here : (trace : List TraceLine) (lines : List OwnLine) (at : ℕ) (line : TraceLine) → at < length lines → AllByRecursion (λ (own : OwnLine). own.place < length trace) lines
    → line ≡ get_or trace (get_or lines at none).place line → slice_get trace (get_or lines at none).place ≡ Some line
here trace lines at line less within is =
    grind (arith, common_steps, slice_get_read trace (length trace) (get_or lines at none).place line refl, all_seen, slice_get-get_or lines at none less)

answered : (trace : List TraceLine) (report : List Line) (lines : List OwnLine) (at : ℕ) (printed : Line) → at < length lines → AllByRecursion (λ (own : OwnLine). own.place < length trace) lines
    → length report ≡ length trace → printed ≡ get_or report (get_or lines at none).place printed → slice_get report (get_or lines at none).place ≡ Some printed
answered trace report lines at printed less within same is = search (rules, all_seen, slice_get_read, get_or, slice_get-get_or, length)

left : (lines : List OwnLine) (at : ℕ) → at < length lines → drop at lines ≡ get_or lines at none ∷ drop (at + 1) lines
left lines at less = left_one lines at (get_or lines at none) less (read_same lines at none less)

stamp_of : (last : List ℕ) (reader readers found : ℕ) → length last ≡ readers → 1 ≤ readers → found ≡ get_or last (reader % readers) found → found ≡ get_or last (reader % readers) 0
stamp_of last reader readers found many some is = is ∙ same_default last (reader % readers) found 0 (omega arith)

pub returns-then-stamp-index : goal.returns-then-stamp-index
returns-then-stamp-index c = λ p are.
    let options = c.args.options.now in
    let trace = c.args.trace.now in
    let report = c.args.report.now in
    let lines = c.args.lines.now in
    let at = c.loop-at.at in
    let last = c.loop-at.last.items in
    let less = c.loop-at-test.true in
    let own = get_or lines at none in
    let within = all_within options c.requires.own.0 trace 0 (length trace) lines c.requires.own.1 in
    let line = c.index-trace-own.result in
    let printed = c.index-report-own.result in
    let get : IsGetAt trace report own.place line printed = record {
      asked = here trace lines at line less within c.index-trace-own.is;
      answered = answered trace report lines at printed less within c.requires.same c.index-report-own.is;
      get = is_get_true line.op (sym c.is_get.ensures ∙ c.if-is_get.true);
    } in
    let found = stamp_of last own.gets options.readers c.index.result.now c.loop-at.invariant.many c.requires.valid.readers.0 c.index.ensures in
    first_to_fall options p trace report last own (drop (at + 1) lines) line printed
    (subst (λ (ls : List OwnLine). NoneFell options p trace report ls last) (left lines at less) (c.loop-at.invariant.fell p are)) get
    (omega (arith, c.if-stamp-index.true, c.printed_stamp-stamp.ensures))

pub loop-at-preserved : goal.loop-at-preserved
loop-at-preserved c =
    let options = c.args.options.now in
    let trace = c.args.trace.now in
    let report = c.args.report.now in
    let lines = c.args.lines.now in
    let at = c.loop-at.at in
    let last = c.loop-at.last.items in
    let less = c.loop-at-test.true in
    let own = get_or lines at none in
    let within = all_within options c.requires.own.0 trace 0 (length trace) lines c.requires.own.1 in
    let line = c.index-trace-own.result in
    let is_line = here trace lines at line less within c.index-trace-own.is in
    let many = c.loop-at.invariant.many in
    let fell = λ (p : ℕ) (are : AreLinesOf options p trace 0 (length trace) lines).
    subst (λ (ls : List OwnLine). NoneFell options p trace report ls last) (left lines at less) (c.loop-at.invariant.fell p are) in
    elim c.if-is_get.branch [
      | then-is_get+else-stamp-index w ↦
          let printed = w.index-report-own.result in
          let get : IsGetAt trace report own.place line printed = record {
            asked = is_line;
            answered = answered trace report lines at printed less within c.requires.same w.index-report-own.is;
            get = is_get_true line.op (sym c.is_get.ensures ∙ w.if-is_get.true);
          } in
          let found = stamp_of last own.gets options.readers w.index.result.now many c.requires.valid.readers.0 w.index.ensures in
          let low : get_or last (own.gets % options.readers) 0 ≤ printed_stamp printed = omega (arith, w.if-stamp-index.false, w.printed_stamp-stamp.ensures) in
          rw (w.last-is, w.printed_stamp-stamp.ensures) (record {
            many = length-set last (own.gets % options.readers) (printed_stamp printed) ∙ many;
            fell = λ p are. none_fell_by_get options p trace report last own (drop (at + 1) lines) line printed (fell p are) get low c.requires.valid.readers.0;
          })
      | else-is_get w ↦
          rw w.last-is (record {
            many = many;
            fell = λ p are. none_fell_by_line options p trace report last own (drop (at + 1) lines) (fell p are)
                (λ l is. let same : line ≡ l = cc in ap is_get (sym same) ∙ sym c.is_get.ensures ∙ w.if-is_get.false);
          })
    ]

pub returns : goal.returns
returns c = λ p are.
    let lines = c.args.lines.now in
    let none_left : drop c.loop-at.at lines ≡ [] = left_none lines c.loop-at.at c.loop-at-test.false in
    none_to_fall c.args.options.now p c.args.trace.now c.args.report.now c.loop-at.last.items
    (subst (λ (ls : List OwnLine). NoneFell c.args.options.now p c.args.trace.now c.args.report.now ls c.loop-at.last.items) none_left (c.loop-at.invariant.fell p are))
