use Rattle.std.proofs.Common.{◌≡◌, Some, List, ℕ, length, slice_get, refl, sym, subst}
use Rattle.std.proofs.lemmas.Option.{slice_get_within, slice_get_read}
use Rattle.mica_trace.specs.declared.line.TraceLine.{TraceLine}
use Rattle.mica_trace.specs.declared.line.TraceOp.TheVariants.{Get}
use Rattle.mica_trace.specs.declared.report.Line.{Line}
use Rattle.mica_trace.specs.LawfulReport.{IsGetAt}
use Rattle.report_check.specs.Machines.{AnswersIn}
use Rattle.report_check.proofs.settling.answers_at.Goals as goal

pub bounds-trace-place : goal.bounds-trace-place
bounds-trace-place c = let get = c.requires.get in slice_get_within c.args.trace.now c.args.place get.0 get.2.asked

pub bounds-report-place : goal.bounds-report-place
bounds-report-place c = let get = c.requires.get in slice_get_within c.args.report.now c.args.place get.1 get.2.answered

pub returns : goal.returns
returns c = λ state at.
    let trace = c.args.trace.now in
    let report = c.args.report.now in
    let place = c.args.place in
    let line = c.index-trace-place.result in
    let printed = c.index-report-place.result in
    let told = c.requires.get in
    let less = slice_get_within trace place told.0 told.2.asked in
    let less' = slice_get_within report place told.1 told.2.answered in
    let is_line : slice_get trace place ≡ Some line = slice_get_read trace (length trace) place line refl less c.index-trace-place.is in
    let is_printed : slice_get report place ≡ Some printed = slice_get_read report (length report) place printed refl less' c.index-report-place.is in
    let asked = told.2.asked in
    let other = told.0 in
    let same : other ≡ line = cc in
    let get : IsGetAt trace report place line printed = record { asked = is_line; answered = is_printed; get = subst (λ (l : TraceLine). l.op ≡ Get) same told.2.get } in (
      (λ yes. record { line = line; printed = printed; get = get; answers = subst (λ (key : List ℕ). AnswersIn state key printed) c.bytes.ensures ((c.answers.ensures state at).0 yes) }),
      (λ now.
          let now_line = now.line in
          let now_printed = now.printed in
          let now_asked = now.get.asked in
          let now_answered = now.get.answered in
          let same_line : now_line ≡ line = cc in
          let same_printed : now_printed ≡ printed = cc in
          (c.answers.ensures state at).1 (subst (λ (key : List ℕ). AnswersIn state key printed) (sym c.bytes.ensures)
          (subst (λ (l : TraceLine). AnswersIn state l.key printed) same_line (subst (λ (r : Line). AnswersIn state now_line.key r) same_printed now.answers)))),
    )
