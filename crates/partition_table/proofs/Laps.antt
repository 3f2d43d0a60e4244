-- The item words of one lap.
use Rattle.std.proofs.Common.{◌≡◌, ℕ, ◌+◌, ◌-◌, ◌*◌, ◌/◌, ◌%◌, ◌<◌, sym, ap, ◌∙◌, arith}
use Rattle.std.proofs.Math.Nat.{mod-lt, mod-add-mod, mod-add-div, mod-eq_of_lt, add-mul-mod_self_left}
use Rattle.partition_table.specs.Laps.{BeginsLap}

pub begins : (words offset : ℕ) → 0 < words → BeginsLap words offset (offset - offset % words)
begins words offset some =
    let parts = mod-add-div offset words in
    let less : offset % words < words = mod-lt offset some in
    let rest : offset - offset % words ≡ 0 + words * (offset / words) = omega arith in
    record {
      whole = ap (λ (z : ℕ). z % words) rest ∙ add-mul-mod_self_left 0 words (offset / words) ∙ mod-eq_of_lt some;
      from = omega arith;
      below = omega arith;
    }

pub in_lap : (words offset lap : ℕ) → BeginsLap words offset lap → offset % words ≡ offset - lap
in_lap words offset lap b =
    let from = b.from in
    let below = b.below in
    let parts : offset ≡ lap + (offset - lap) = omega arith in
    let zero_first : lap % words + (offset - lap) ≡ offset - lap = omega (arith, b.whole) in
    ap (λ (z : ℕ). z % words) parts ∙ sym (mod-add-mod lap words (offset - lap))
    ∙ ap (λ (z : ℕ). z % words) zero_first ∙ mod-eq_of_lt (omega arith)
