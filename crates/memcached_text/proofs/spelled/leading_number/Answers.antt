use Rattle.std.proofs.Common.{◌+◌, ◌*◌, ◌∙◌, take, sym, ap, subst, arith}
use Rattle.memcached_text.proofs.SpelledLaws.{IsRead, nothing_read, digit_read, spelled_number}
use Rattle.memcached_text.proofs.spelled.leading_number.Goals as goal

pub loop-len-init : goal.loop-len-init
loop-len-init c = (omega arith, omega arith, nothing_read c.args.text.now)

pub loop-len-preserved : goal.loop-len-preserved
loop-len-preserved c =
    let text = c.args.text.now in
    let len = c.loop-len.len in
    let read = digit_read text len c.loop-len.number c.loop-len-test.true c.loop-len.invariant.2 (sym c.is_ascii_digit.ensures.value ∙ c.if-is_ascii_digit.true) in
    (omega arith, omega arith, subst (IsRead (take (len + 1) text)) (ap (λ d. c.loop-len.number * 10 + d) (sym c.from-digit.ensures)) read)

pub returns : goal.returns
returns c =
    let word = c.split_at.result.0.now in
    let some = c.is_spelled.ensures c.if-not-is_spelled.false in
    let read = subst (λ w. IsRead w c.loop-len.number) (sym c.split_at.ensures.front) c.loop-len.invariant.2 in
    (omega arith, spelled_number c.args.text.now word c.split_at.result.1.now c.loop-len.number c.split_at.ensures.by_index.0 read some.0 some.1 (omega arith))
