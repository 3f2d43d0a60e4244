-- The spare buckets that were never used.
use Rattle.std.specs.Prelude.{ℕ, zero, suc, ◌+◌, List, [], ◌∷◌}

-- so many buckets from one on, the last of them first
abbrev pub unused_from : ℕ → ℕ → List ℕ
unused_from first zero = []
unused_from first (suc more) = (first + more) ∷ unused_from first more
