-- Lists of numbers by their places, where a list has 0 past its end.
use Rattle.chained_index.proofs.Words.{◌≡◌, ◌≢◌, ℕ, suc, ◌<◌, List, [], ◌∷◌, ◌++◌, length, get_or, nat_lt, filter, refl}
use Rattle.chained_index.proofs.Words.{◌∙◌, arith, Contains, lt-ltb, get_or_past, common_steps, get_or_default}
use Rattle.std.proofs.lemmas.List.Elements.{filter_passes}
use Rattle.chained_index.proofs.Words.{ext_get_or, zero, All}

-- the number at a place
abbrev pub at : List ℕ → ℕ → ℕ
at xs i = get_or xs i 0

-- no number of the list is 0
abbrev pub AllUsed : List ℕ → Type 0
AllUsed xs = All (λ x. x ≢ 0) xs

pub below : (xs : List ℕ) (i : ℕ) → at xs i ≢ 0 → i < length xs
below xs i some = grind (arith, get_or_past)

pub place_in : (xs : List ℕ) (c : ℕ) → Contains xs c → (i : ℕ) × (i < length xs) × (at xs i ≡ c)
place_in xs c has = (has.0, has.1, get_or_default xs has.0 0 c has.1 ∙ has.2)

-- where none stands past a 0, dropping all 0 moves none
pub filter_front : (xs : List ℕ) → ((i j : ℕ) → i < j → at xs j ≢ 0 → at xs i ≢ 0) → (i : ℕ) → at (filter (nat_lt 0) xs) i ≡ at xs i
filter_front [] order i = refl
filter_front (zero ∷ xs) order zero = grind (arith, order 0 1, filter_front xs (λ i j less. order (suc i) (suc j) (omega arith)) 0)
filter_front (zero ∷ xs) order (suc i) =
    grind (arith, order 0 (suc i), order 0 (suc (suc i)), filter_front xs (λ i j less. order (suc i) (suc j) (omega arith)) (suc i))
filter_front (suc x ∷ xs) order zero = rw (lt-ltb 0 (suc x) (omega arith)) refl
filter_front (suc x ∷ xs) order (suc i) = rw (lt-ltb 0 (suc x) (omega arith)) (filter_front xs (λ i j less. order (suc i) (suc j) (omega arith)) i)

pub filter_used : (xs : List ℕ) → AllUsed (filter (nat_lt 0) xs)
filter_used xs i d less = grind (arith, common_steps, filter_passes (nat_lt 0) xs i d less)

pub same_used : (xs ys : List ℕ) → AllUsed xs → AllUsed ys → ((i : ℕ) → at xs i ≡ at ys i) → xs ≡ ys
same_used xs ys one two same =
    ext_get_or 0 xs ys (grind (arith, one (length ys) 0, two (length xs) 0, same (length xs), same (length ys), get_or_past)) (λ i l. same i)

pub at-push_other : (xs : List ℕ) (x i : ℕ) → i ≢ length xs → at (xs ++ x ∷ []) i ≡ at xs i
at-push_other xs x i n = grind (arith, common_steps)
