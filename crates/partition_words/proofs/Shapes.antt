-- Whether a shape's fields are in their ranges, as a fact and as a test.
use Rattle.partition_words.proofs.Vocabulary.{Cache, IsPossibleShape, Mode, Shape, Store, arith, is_in_range, refl, spares_in, true, ℕ, ◌^◌, ◌≡◌, ◌≤◌}
use Rattle.std.proofs.lemmas.Bool.Decides.{nat_tests}
use Rattle.std.proofs.lemmas.Grind.{common_steps}
use Rattle.std.specs.Int.{is_power_of_two}
use Rattle.partition_model.proofs.PowersOfTwo.{small_power_of_two, power_is_small}

few_spares : (mode : Mode) (spares : ℕ) → spares ≤ spares_in mode 16777216 → (spares ≤ 16777216) × (mode ≡ Cache → spares ≡ 0)
few_spares Cache spares less = (omega arith, λ is. omega arith)
few_spares Store spares less = (less, λ is. cc)

within_spares : (mode : Mode) (spares : ℕ) → spares ≤ 16777216 → (mode ≡ Cache → spares ≡ 0) → spares ≤ spares_in mode 16777216
within_spares Cache spares less none = omega (arith, none refl)
within_spares Store spares less none = less

pub possible_in_range : (shape : Shape) → is_in_range shape ≡ true → IsPossibleShape shape
possible_in_range shape is =
    let h : (is_power_of_two shape.buckets ≡ true) × (shape.buckets ≤ 2 ^ 24) × (shape.spares ≤ spares_in shape.mode 16777216)
    × (256 ≤ shape.words) × (shape.words ≤ 1073741824) × (1 ≤ shape.wear) × (shape.wear ≤ 4611686018427387904) = grind (arith, nat_tests, common_steps) in
    let few = few_spares shape.mode shape.spares h.2 in record {
      ranges = grind (arith, common_steps, small_power_of_two 24 shape.buckets h.0 h.1);
      no_spares = few.1;
    }

pub in_range_possible : (shape : Shape) → IsPossibleShape shape → is_in_range shape ≡ true
in_range_possible shape possible =
    grind (arith, common_steps, power_is_small 24 possible.ranges.buckets.0 possible.ranges.buckets.1, within_spares shape.mode shape.spares possible.ranges.spares.1 possible.no_spares, nat_tests)
