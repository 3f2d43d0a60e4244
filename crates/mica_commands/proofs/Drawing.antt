-- The words that an operation draws.
use Rattle.std.proofs.Common.{◌≡◌, ℕ, zero, suc, ◌+◌, ◌*◌, refl, add-one, arith}
use Rattle.std.proofs.lemmas.Grind.{common_steps}
use Rattle.rand_pcg.specs.Lcg.{Lcg, next_state, state_after, started, increment_of}
use Rattle.rand_pcg.specs.Pcg.{multiplier_64, pcg32}
use Rattle.mica_commands.specs.declared.gen_options.GenOptions.{GenOptions}
use Rattle.mica_commands.specs.declared.draw.OpKind.{OpKind}
use Rattle.mica_commands.specs.declared.draw.Draw.{Draw}
use Rattle.mica_commands.specs.Generator.{generator, word, kind_by, key_number, drawn}

step_last : (w m p n s : ℕ) → state_after w m p (suc n) s ≡ next_state w m p (state_after w m p n s)
unfolding state_after
step_last w m p zero s = refl
step_last w m p (suc n) s = step_last w m p n (next_state w m p s)

next_place : (options : GenOptions) (n k : ℕ) → k ≡ n + 1 → (pcg32 (generator options n)).1 ≡ generator options k
unfolding state_after
next_place options n k is = grind (arith, common_steps, step_last 64 multiplier_64 (generator options 0).increment n (generator options 0).state, add-one n)

-- the words that operation i draws, and where they leave the generator
pub record Draws (options : GenOptions) (i kind spot last : ℕ) (left : Lcg) : Type 0 where
  pub kind_is : kind ≡ word options (3 * i)
  pub spot_is : spot ≡ word options (3 * i + 1)
  pub last_is : last ≡ word options (3 * i + 2)
  pub place : left ≡ generator options (3 * (i + 1))

draw : (options : GenOptions) (n k w : ℕ) (old new : Lcg) → k ≡ n + 1 → old ≡ generator options n → (w, new) ≡ pcg32 old → (w ≡ word options n) × (new ≡ generator options k)
draw options n k w old new next is drawn = grind (arith, common_steps, next_place options n k next)

pub draws : (options : GenOptions) (i kind spot last : ℕ) (g0 g1 g2 g3 : Lcg) → g0 ≡ generator options (3 * i)
    → (kind, g1) ≡ pcg32 g0 → (spot, g2) ≡ pcg32 g1 → (last, g3) ≡ pcg32 g2 → Draws options i kind spot last g3
draws options i kind spot last g0 g1 g2 g3 at one two three =
    let first = draw options (3 * i) (3 * i + 1) kind g0 g1 refl at one in
    let second = draw options (3 * i + 1) (3 * i + 2) spot g1 g2 (omega arith) first.1 two in
    let third = draw options (3 * i + 2) (3 * (i + 1)) last g2 g3 (omega arith) second.1 three in
    record { kind_is = first.0; spot_is = second.0; last_is = third.0; place = third.1 }

-- a new generator has drawn nothing
pub at_start : (options : GenOptions) (g : Lcg) → g ≡ started 64 multiplier_64 options.seed (increment_of 64 54) → g ≡ generator options 0
unfolding state_after
at_start options g is = is

pub draw_is : (options : GenOptions) (i kind spot last : ℕ) (left : Lcg) (k : OpKind) (key : ℕ) → Draws options i kind spot last left
    → k ≡ kind_by options kind → key ≡ key_number options spot last → (let draw : Draw = record { kind = k; key = key; number = i } in draw) ≡ drawn options i
draw_is options i kind spot last left k key drew kind_is key_is = grind (arith, common_steps)
