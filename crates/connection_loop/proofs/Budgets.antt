-- Sums of what is counted, as one count changes.
use Rattle.std.proofs.Common.{◌≡◌, ◌≢◌, ℕ, zero, suc, ◌+◌, ◌<◌, ◌≤◌, List, [], ◌∷◌, ◌++◌, length, refl, ap, arith}
use Rattle.std.specs.Prelude.{get_or, slice_get, slice_set, sum, Some}
use Rattle.std.proofs.lemmas.Option.{none-some}
use Rattle.std.proofs.lemmas.List.Sums.{sum_by-set, sum_by-append}
use Rattle.connection_loop.specs.Counted.{IsCounted}

pub set_here : (counts : List ℕ) (n k : ℕ) → n < length counts → slice_get (slice_set counts n k) n ≡ Some k
set_here [] n k there = absurd (omega arith)
set_here (x ∷ counts) zero k there = refl
set_here (x ∷ counts) (suc n) k there = set_here counts n k (omega (arith, there))

pub set_others : (counts : List ℕ) (m k n : ℕ) → n ≢ m → slice_get (slice_set counts m k) n ≡ slice_get counts n
set_others [] m k n other = refl
set_others (x ∷ counts) zero k zero other = absurd (other refl)
set_others (x ∷ counts) zero k (suc n) other = refl
set_others (x ∷ counts) (suc m) k zero other = refl
set_others (x ∷ counts) (suc m) k (suc n) other = set_others counts m k n (λ e. other (ap suc e))

pub set_sum : (counts : List ℕ) (n k : ℕ) → n < length counts → sum (slice_set counts n k) + get_or counts n 0 ≡ sum counts + k
set_sum counts n k there = sum_by-set (λ x. x) counts n k 0 there

-- something is counted in each place
pub counted_at : (counts : List ℕ) (n bytes : ℕ) → n < length counts → bytes ≡ 0 → IsCounted counts n bytes
counted_at [] n bytes there none = absurd (omega (arith, there))
counted_at (x ∷ counts) zero bytes there none = (x, refl, omega (arith, none))
counted_at (x ∷ counts) (suc n) bytes there none = counted_at counts n bytes (omega (arith, there)) none

-- one is no more than all
pub one_counted : (counts : List ℕ) (n : ℕ) → n < length counts → get_or counts n 0 ≤ sum counts
one_counted counts n there = let with_none = set_sum counts n 0 there in omega (arith, with_none)

pub pushed_sum : (counts : List ℕ) → sum (counts ++ 0 ∷ []) ≡ sum counts
pushed_sum counts = let both = sum_by-append (λ x. x) counts (0 ∷ []) in omega (arith, both)

pub pushed_stays : (counts : List ℕ) (more n k : ℕ) → slice_get counts n ≡ Some k → slice_get (counts ++ more ∷ []) n ≡ Some k
pushed_stays [] more n k is = absurd (none-some k is)
pushed_stays (x ∷ counts) more zero k is = is
pushed_stays (x ∷ counts) more (suc n) k is = pushed_stays counts more n k is
