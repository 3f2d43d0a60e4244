use Rattle.std.proofs.Common.{◌∙◌, sym, subst, arith}
use Rattle.std.specs.Fmt.{decimal}
use Rattle.mica_trace.specs.Lines.{Lacks}
use Rattle.mica_trace.proofs.TextLaws.{one_split, lacks_or_has}
use Rattle.mica_trace.proofs.ReportLaws.{decimal_lacks}
use Rattle.mica_trace.proofs.ReportReading.{none_means}
use Rattle.mica_trace.proofs.report_reader.split_stamp.Goals as goal

pub returns-in_err-digits : goal.returns-in_err-digits
returns-in_err-digits c = none_means _ _ _ c.from_residual.ensures (λ n reply is same.
    lacks_or_has 32 (decimal n) reply (subst (Lacks 32) same c.in_err-digits.ensures))

pub returns-in_err-stamp_of : goal.returns-in_err-stamp_of
returns-in_err-stamp_of c = none_means _ _ _ c.from_residual-in_err-stamp_of.ensures (λ n reply is same.
    let found = c.in_ok-digits.ensures in
    let parts = one_split 32 c.in_ok-digits.digits.now c.in_ok-digits.reply.now (decimal n) reply found.1 (decimal_lacks 32 n (omega arith) is) (sym found.0 ∙ same) in
    c.in_err-stamp_of.ensures n is parts.0)
