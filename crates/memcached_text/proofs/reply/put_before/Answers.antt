use Rattle.std.proofs.Common.{◌≡◌, ◌∷◌, ◌∙◌, ◌+◌, ◌-◌, ◌≤◌, ◌<◌, ◌^◌, ℕ, List, drop, length, decimal, ap, arith}
use Rattle.std.proofs.lemmas.Fmt.{length-decimal-le}
use Rattle.std.proofs.lemmas.List.{drop-set}
use Rattle.memcached_text.proofs.reply.put_before.Goals as goal

twenty : (n : ℕ) → n < 2 ^ 64 → length (decimal n) ≤ 20
twenty n is = length-decimal-le 20 n (omega arith) (omega (arith, is)) is

pub write_digits-digits-requires : goal.write_digits-digits-requires
write_digits-digits-requires c = (omega (arith, twenty c.args.number c.ranges.number.fits, c.requires.room), c.requires.within)

pub overflow_sub-line : goal.overflow_sub-line
overflow_sub-line c = omega (arith, twenty c.args.number c.ranges.number.fits, c.requires.room, c.write_digits-digits.ensures.start)

pub overflow_sub-result : goal.overflow_sub-result
overflow_sub-result c = overflow_sub-line c

pub returns-clause-near : goal.returns-clause-near
returns-clause-near c = omega (arith, twenty c.args.number c.ranges.number.fits, c.requires.room, c.write_digits-digits.ensures.start)

pub returns-clause-text : goal.returns-clause-text
returns-clause-text c =
    let digits = c.write_digits-digits.result in
    let first : 1 ≤ digits = overflow_sub-line c in
    let inside : digits - 1 < length c.write_digits-digits.new.buf = omega (arith, first, c.requires.within, c.write_digits-digits.ensures.start, c.write_digits-digits.auto.buf) in
    let next : digits - 1 + 1 ≡ digits = omega (arith, first) in
    drop-set c.write_digits-digits.new.buf (digits - 1) 32 inside
    ∙ ap (λ (z : ℕ). 32 ∷ drop z c.write_digits-digits.new.buf) next
    ∙ ap (λ (z : List ℕ). 32 ∷ z) c.write_digits-digits.ensures.written
