-- Failures of tries fit while epochs rise, and what stands in a list of them.
use Rattle.partition_words.proofs.Vocabulary.{Contains, Contains-append_cases, Contains-push_cases, FailsFit, Failure, IsFailure, IsMain, List, OwnerState}
use Rattle.partition_words.proofs.Vocabulary.{Shape, [], arith, epoch_in, inl, inr, refl, subst, suc, sym, zero, ℕ, ◌++◌, ◌∷◌, ◌≡◌, ◌≤◌, ◌⊎◌}
pub use Rattle.std.proofs.lemmas.List.Elements.{Contains-append_cases as in_both, Contains-append_left as in_left, Contains-push as in_last}

-- what stands in a list

pub in_cons : {X : Type 0} (x y : X) (xs : List X) → Contains (x ∷ xs) y → (x ≡ y) ⊎ Contains xs y
in_cons x y xs (zero, l, e) = inl e
in_cons x y xs (suc k, l, e) = inr (k, omega (arith, l), e)

pub in_head : {X : Type 0} (x : X) (xs : List X) → Contains (x ∷ xs) x
in_head x xs = (zero, omega arith, refl)

pub in_tail : {X : Type 0} (x y : X) (xs : List X) → Contains xs y → Contains (x ∷ xs) y
in_tail x y xs (k, l, e) = (suc k, omega (arith, l), e)

pub in_none : {X : Type 0} (y : X) → ¬ (Contains [] y)
in_none y h = let l = h.1 in omega arith

-- where epochs rise
pub fails_rise : (o p : OwnerState) → p.shape ≡ o.shape → ((b : ℕ) → IsMain o.shape b → epoch_in o b ≤ epoch_in p b)
    → (fails : List Failure) → FailsFit o fails → FailsFit p fails
fails_rise o p shape rises fails fit f has =
    let was = fit f has in
    (subst (λ (z : Shape). IsMain z f.bucket) (sym shape) was.0, omega (arith, rises f.bucket was.0, was.1), was.2)

-- one more, and two lists

pub fails_more : (o : OwnerState) (fails : List Failure) (f : Failure) → FailsFit o fails
    → IsMain o.shape f.bucket × (f.last ≤ epoch_in o f.bucket) × IsFailure f → FailsFit o (fails ++ f ∷ [])
fails_more o fails f fit new g has = elim (Contains-push_cases fails f g has) [ inl old ↦ fit g old | inr is ↦ rw (sym is) new ]

pub fails_both : (o : OwnerState) (fails others : List Failure) → FailsFit o fails → FailsFit o others → FailsFit o (fails ++ others)
fails_both o fails others fit fit' g has = elim (Contains-append_cases fails others g has) [ inl one ↦ fit g one | inr two ↦ fit' g two ]
