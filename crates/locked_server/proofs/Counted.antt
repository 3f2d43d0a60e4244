-- What fronts counted, one after another.
use Rattle.std.proofs.Common.{◌≡◌, ◌+◌, ℕ, List, [], ◌∷◌, ◌++◌, map, arith}
use Rattle.std.specs.Prelude.{min}
use Rattle.std.proofs.lemmas.List.Sums.{sum-map, sum_by_push}
use Rattle.outside.specs.Faults.{LAST_COUNT}
use Rattle.locked_server.specs.Streams.{counted_by_all}

-- one front more, behind these
pub counted_next : {X : Type 0} (count : X → ℕ) (fronts : List X) (front : X) (before after : ℕ) → before ≡ counted_by_all (map count fronts)
    → after ≡ min (before + count front) LAST_COUNT → after ≡ counted_by_all (map count (fronts ++ front ∷ []))
counted_next count fronts front before after had is =
    omega (arith, had, is, sum-map count fronts, sum-map count (fronts ++ front ∷ []), sum_by_push count fronts front)
