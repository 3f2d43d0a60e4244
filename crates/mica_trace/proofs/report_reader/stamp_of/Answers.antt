use Rattle.std.proofs.Common.{◌≡◌, ◌∙◌, sym, subst, ap}
use Rattle.std.specs.Fmt.{decimal}
use Rattle.std.specs.Result.{result_ok}
use Rattle.std.specs.Cmp.Lexicographic.{other_text}
use Rattle.std.proofs.lemmas.Fmt.{parse-decimal, IsAscii-decimal}
use Rattle.std.proofs.lemmas.Option.{none-some}
use Rattle.std.proofs.lemmas.Str.{IsUtf8-from_ascii}
use Rattle.std.specs.Str.{IsUtf8}
use Rattle.mica_trace.proofs.ReportReading.{none_means, err_told, ok_told}
use Rattle.mica_trace.proofs.report_reader.stamp_of.Goals as goal

pub returns-in_err-ok : goal.returns-in_err-ok
returns-in_err-ok c = none_means _ _ _ c.from_residual.ensures (λ n is same.
    err_told c.from_utf8.result _ _ _ c.from_utf8.ensures.cases c.in_err-ok.ensures.value (subst IsUtf8 (sym same) (IsUtf8-from_ascii (decimal n) (IsAscii-decimal n is))))

pub returns-in_err-number : goal.returns-in_err-number
returns-in_err-number c = none_means _ _ _ c.from_residual-in_err-number.ensures (λ n is same.
    let here = (ok_told c.from_utf8.result c.in_ok-ok.field-0 _ _ c.from_utf8.ensures.cases c.in_ok-ok.ensures.value).0 in
    let parsed = parse-decimal 64 n c.in_ok-ok.field-0.now c.parse.result is is (here ∙ same) c.parse.ensures.value.0 in
    none-some n (c.in_err-number.ensures.value ∙ ap result_ok parsed))

pub returns-else-eq : goal.returns-else-eq
returns-else-eq c = λ n is same.
    let here = (ok_told c.from_utf8.result c.in_ok-ok.field-0 _ _ c.from_utf8.ensures.cases c.in_ok-ok.ensures.value).0 in
    let parsed = parse-decimal 64 n c.in_ok-ok.field-0.now c.parse.result is is (here ∙ same) c.parse.ensures.value.0 in
    let whole = c.in_ok-number.ensures.value ∙ ap result_ok parsed in
    let number : c.in_ok-number.number ≡ n = cc in
    other_text c.as_bytes.result.now c.args.digits.now c.if-eq.ensures (c.as_bytes.ensures.value ∙ c.format.ensures.text ∙ ap decimal number ∙ sym same)
