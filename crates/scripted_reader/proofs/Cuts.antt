-- How many events are played after so many loads.
use Rattle.std.proofs.lemmas.Grind.{common_steps}
use Rattle.partition_words.proofs.Vocabulary.{List, ap, arith, get_or, get_or_default, get_or_past, length, min, suc, sym, zero, ℕ, ◌+◌, ◌-◌, ◌<◌, ◌∙◌}
use Rattle.partition_words.proofs.Vocabulary.{◌≡◌, ◌≤◌}
use Rattle.partition_words.specs.Plan.{cut_at}
use Rattle.scripted_reader.specs.Script.{NoneAbove, Rises}

abbrev last : List ℕ → ℕ
last cuts = get_or cuts (length cuts - 1) 0

cut_is : (cuts : List ℕ) (n i : ℕ) → n ≡ i + 1 → cut_at cuts n ≡ get_or cuts (min i (length cuts - 1)) 0
cut_is cuts zero i is = absurd (omega arith)
cut_is cuts (suc m) i is = grind (arith, get_or_default cuts m (last cuts) 0, get_or_past cuts m (last cuts))

cut_last : (cuts : List ℕ) (n : ℕ) → length cuts < n → cut_at cuts n ≡ last cuts
cut_last cuts zero more = absurd (omega arith)
cut_last cuts (suc m) more = cut_is cuts (suc m) m (omega arith) ∙ ap (λ (z : ℕ). get_or cuts z 0) (omega arith)

pub cut_min : (cuts : List ℕ) (n : ℕ) → cut_at cuts (min n (length cuts) + 1) ≡ cut_at cuts (n + 1)
cut_min cuts n = grind (arith, common_steps)

cut_grows : (cuts : List ℕ) (n m : ℕ) → Rises cuts → n ≤ m → cut_at cuts n ≤ cut_at cuts m
cut_grows cuts zero m rise more = omega arith
cut_grows cuts (suc i) zero rise more = absurd (omega arith)
cut_grows cuts (suc i) (suc j) rise more =
    grind (arith, cut_is cuts (suc i) i, cut_is cuts (suc j) j, rise (min i (length cuts - 1)) (min j (length cuts - 1)))

pub cut_rises : (cuts : List ℕ) (n : ℕ) → Rises cuts → cut_at cuts n ≤ cut_at cuts (n + 1)
cut_rises cuts n rise = cut_grows cuts n (n + 1) rise (omega arith)

pub cut_few : (cuts : List ℕ) (most n : ℕ) → NoneAbove most cuts → cut_at cuts n ≤ most
cut_few cuts most zero few = omega arith
cut_few cuts most (suc i) few = grind (arith, common_steps, cut_is cuts (suc i) i, get_or_past cuts (min i (length cuts - 1)) 0)

pub still_at_last : (cuts : List ℕ) (n played : ℕ) → Rises cuts → played ≡ cut_at cuts n → played ≡ last cuts → (m : ℕ) → n < m → cut_at cuts m ≡ played
still_at_last cuts n played rise at end m less =
    omega (arith, cut_grows cuts n m rise, cut_grows cuts m (m + length cuts) rise, cut_last cuts (m + length cuts))

pub last_of_still : (cuts : List ℕ) (n played : ℕ) → ((m : ℕ) → n < m → cut_at cuts m ≡ played) → played ≡ last cuts
last_of_still cuts n played still = sym (still (n + 1 + length cuts) (omega arith)) ∙ cut_last cuts (n + 1 + length cuts) (omega arith)
