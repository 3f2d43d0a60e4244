use Rattle.std.proofs.Common.{◌≤◌, ◌*◌, ◌+◌, ◌∙◌, sym, subst, eqb-true, arith}
use Rattle.std.proofs.Math.Seq.{drop-cons}
use Rattle.std.proofs.lemmas.List.{drop_all}
use Rattle.std.proofs.lemmas.Bool.{eqb-false}
use Rattle.memcached_text.proofs.NumberLaws.{IsPartRead, no_word, no_digit, above, too_great_next, all_read, too_great}
use Rattle.memcached_text.proofs.number.number_of.Goals as goal

pub returns-then-is_empty-clause-reads : goal.returns-then-is_empty-clause-reads
returns-then-is_empty-clause-reads c = sym (no_word c.args.most c.args.word.now (eqb-true _ 0 (sym c.is_empty.ensures ∙ c.if-is_empty.true)))

pub returns-then-not-is_ascii_digit-clause-reads : goal.returns-then-not-is_ascii_digit-clause-reads
returns-then-not-is_ascii_digit-clause-reads c =
    let word = c.args.word.now in
    let part = subst (IsPartRead word c.loop-byte.number) (drop-cons word c.loop-byte.byte-index 0 c.loop-byte-test.true) c.loop-byte.invariant in
    sym (no_digit c.args.most word c.loop-byte.number _ _ part (sym c.is_ascii_digit.ensures.value ∙ c.if-not-is_ascii_digit.true))

pub returns-in_err-checked_mul-clause-reads : goal.returns-in_err-checked_mul-clause-reads
returns-in_err-checked_mul-clause-reads c =
    let word = c.args.word.now in
    let part = subst (IsPartRead word c.loop-byte.number) (drop-cons word c.loop-byte.byte-index 0 c.loop-byte-test.true) c.loop-byte.invariant in
    let great : 18446744073709551616 ≤ c.loop-byte.number * 10 = above _ _ c.in_err-checked_mul.ensures in
    c.from_residual.ensures ∙ sym (too_great_next c.args.most word c.loop-byte.number _ _ part (sym c.is_ascii_digit.ensures.value ∙ c.if-not-is_ascii_digit.false) (omega (arith, great, c.ranges.most.fits)))

pub returns-in_err-number-clause-reads : goal.returns-in_err-number-clause-reads
returns-in_err-number-clause-reads c =
    let word = c.args.word.now in
    let part = subst (IsPartRead word c.loop-byte.number) (drop-cons word c.loop-byte.byte-index 0 c.loop-byte-test.true) c.loop-byte.invariant in
    let great : 18446744073709551616 ≤ c.in_ok-checked_mul.field-0 + c.from-digit.result = above _ _ c.in_err-number.ensures in
    c.from_residual-in_err-number.ensures ∙ sym (too_great_next c.args.most word c.loop-byte.number _ _ part (sym c.is_ascii_digit.ensures.value ∙ c.if-not-is_ascii_digit.false) (omega (arith, great, c.ranges.most.fits, c.in_ok-checked_mul.ensures, c.from-digit.ensures)))

pub returns-then-number-most-clause-reads : goal.returns-then-number-most-clause-reads
returns-then-number-most-clause-reads c =
    let word = c.args.word.now in
    let nothing = drop_all c.loop-byte.byte-index word (omega (arith, c.loop-byte-test.false)) in
    sym (all_read c.args.most word c.loop-byte.number (omega (arith, eqb-false _ 0 (sym c.is_empty.ensures ∙ c.if-is_empty.false))) (subst (IsPartRead word c.loop-byte.number) nothing c.loop-byte.invariant) c.if-number-most.true)

pub returns-else-number-most-clause-reads : goal.returns-else-number-most-clause-reads
returns-else-number-most-clause-reads c =
    sym (too_great c.args.most c.args.word.now c.loop-byte.number _ c.loop-byte.invariant c.if-number-most.false)
