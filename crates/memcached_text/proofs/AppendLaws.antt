-- How long a text gets by parts.
use Rattle.std.proofs.Common.{◌≡◌, ◌≤◌, ◌+◌, ◌++◌, ℕ, List, length, take, flat_map, ap, arith, length-append}
use Rattle.std.specs.Prelude.{sum_by}
use denote.Ref.{Bor}
use Rattle.std.proofs.lemmas.List.Concat.{length-flat_map}
use Rattle.std.proofs.lemmas.List.Sums.{sum_by-take-le}

-- where the first of them were appended
pub longer_by : (parts : List (Bor (List ℕ))) (i : ℕ) (before after : List ℕ) → after ≡ before ++ flat_map (λ part. part.now) (take i parts)
    → length after ≤ length before + sum_by (λ part. length part.now) parts
longer_by parts i before after is =
    let first = take i parts in
    omega (
      arith,
      ap length is,
      length-append before (flat_map (λ part. part.now) first),
      length-flat_map (λ (part : Bor (List ℕ)). part.now) first,
      sum_by-take-le (λ (part : Bor (List ℕ)). length part.now) parts i,
    )
