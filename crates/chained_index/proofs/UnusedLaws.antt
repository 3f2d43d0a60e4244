-- The spares that were never used, by their places in the list.
use Rattle.chained_index.proofs.Words.{◌≡◌, ◌≢◌, ℕ, zero, suc, ◌+◌, ◌-◌, ◌<◌, List, [], ◌∷◌, ◌++◌, length, get_or, refl, sym, ap, ◌∙◌, subst, arith, append-nil}
use Rattle.chained_index.specs.Unused.{unused_from}

pub unused_size : (first more : ℕ) → length (unused_from first more) ≡ more
unused_size first zero = refl
unused_size first (suc more) = omega (arith, unused_size first more)

pub unused_at : (first more k : ℕ) → k < more → get_or (unused_from first more) k 0 + k + 1 ≡ first + more
unused_at first zero k less = absurd (omega arith)
unused_at first (suc more) zero less = omega arith
unused_at first (suc more) (suc k) less = omega (arith, unused_at first more k (omega arith))

-- the last of the list is the first bucket
unused_last : (first more : ℕ) → unused_from first (suc more) ≡ unused_from (first + 1) more ++ first ∷ []
unused_last first zero = ap (λ n. n ∷ []) (let same : first + 0 ≡ first = omega arith in same)
unused_last first (suc more) = (λ i. (let same : first + suc more ≡ first + 1 + more = omega arith in same) i ∷ unused_last first more i)

-- or one that was never used, where none came back
pub unused_taken : (first more : ℕ) (returned : List ℕ) → returned ≡ [] → unused_from first (suc more) ++ returned ≡ (unused_from (first + 1) more ++ returned) ++ first ∷ []
unused_taken first more returned none =
    subst (λ (xs : List ℕ). unused_from first (suc more) ++ xs ≡ (unused_from (first + 1) more ++ xs) ++ first ∷ []) (sym none)
    (append-nil (unused_from first (suc more)) ∙ unused_last first more ∙ ap (λ (xs : List ℕ). xs ++ first ∷ []) (sym (append-nil (unused_from (first + 1) more))))

-- no spare is free where none was left and none came back

-- the first that was never used is taken
pub unused_first : (first left : ℕ) (old new : List ℕ) → left ≢ 0 → old ≡ [] → new ≡ [] → unused_from first left ++ old ≡ (unused_from (first + 1) (left - 1) ++ new) ++ first ∷ []
unused_first first zero old new some none gone = absurd (some refl)
unused_first first (suc more) old new some none gone =
    let less : suc more - 1 ≡ more = omega arith in
    unused_taken first more old none ∙ (λ i. (unused_from (first + 1) (sym less i) ++ (none ∙ sym gone) i) ++ first ∷ [])
