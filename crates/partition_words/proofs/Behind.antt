-- What stands behind a bucket: the list of the buckets to which the links lead, one after another. f says where each bucket's link leads,
-- 0 being nowhere.
use Rattle.partition_words.proofs.Vocabulary.{AllPairs, Contains, Contains-append_left, List, [], ap, arith, dite, get_or_default, inl, inr, length, refl}
use Rattle.partition_words.proofs.Vocabulary.{subst, suc, sym, ℕ, ℕ_discrete, ◌++◌, ◌<◌, ◌∙◌, ◌∷◌, ◌≡◌, ◌≢◌, ◌⊎◌}
use Rattle.std.proofs.lemmas.List.Kept.{AllPairs-cons}
use Rattle.std.proofs.lemmas.Grind.{common_steps}
use Rattle.partition_words.proofs.Failing.{in_cons, in_head, in_tail, in_none}

-- the links lead from x through these buckets and end
abbrev pub AreBehind : (ℕ → ℕ) → ℕ → List ℕ → Type 0
AreBehind f x [] = f x ≡ 0
AreBehind f x (c ∷ cs) = (f x ≡ c) × (c ≢ 0) × AreBehind f c cs

-- the last of these and x before them
abbrev pub last_of : ℕ → List ℕ → ℕ
last_of x [] = x
last_of x (c ∷ cs) = last_of c cs

pub last_in : (x : ℕ) (cs : List ℕ) → Contains (x ∷ cs) (last_of x cs)
last_in x [] = in_head x []
last_in x (c ∷ cs) = in_tail x (last_of c cs) (c ∷ cs) (last_in c cs)

-- whether it stands in the list
pub listed_or_not : (xs : List ℕ) (c : ℕ) → Contains xs c ⊎ ¬ (Contains xs c)
listed_or_not [] c = inr (in_none c)
listed_or_not (x ∷ xs) c = dite (ℕ_discrete x c) (λ is. inl (subst (Contains (x ∷ xs)) is (in_head x xs))) (λ n. elim (listed_or_not xs c) [
  | inl more ↦ inl (in_tail x c xs more)
  | inr none ↦ inr (λ i. elim (in_cons x c xs i) [ inl is ↦ n is | inr more ↦ none more ])
])

-- parted behind a bucket
pub parted : (x : ℕ) (cs : List ℕ) (c : ℕ) → Contains (x ∷ cs) c → (before : List ℕ) × (after : List ℕ) × (cs ≡ before ++ after) × (last_of x before ≡ c)
parted x [] c i = elim (in_cons x c [] i) [ inl is ↦ ([], [], refl, is) | inr more ↦ absurd (in_none c more) ]
parted x (d ∷ ds) c i = elim (in_cons x c (d ∷ ds) i) [
  | inl is ↦ ([], d ∷ ds, refl, is)
  | inr more ↦ (let p = parted d ds c more in (d ∷ p.0, p.1, ap (λ (z : List ℕ). d ∷ z) p.2, p.3))
]

module _ (f : ℕ → ℕ) where
  pub one_list : (x : ℕ) (cs ds : List ℕ) → AreBehind f x cs → AreBehind f x ds → cs ≡ ds
  one_list x [] [] h k = refl
  one_list x [] (d ∷ ds) h k = absurd (k.1 (sym k.0 ∙ h))
  one_list x (c ∷ cs) [] h k = absurd (h.1 (sym h.0 ∙ k))
  one_list x (c ∷ cs) (d ∷ ds) h k = grind (arith, common_steps, one_list c cs ds h.2)

  fewer : (x : ℕ) (cs : List ℕ) → AreBehind f x cs → (c : ℕ) → Contains cs c → (ds : List ℕ) × (length ds < length cs) × AreBehind f c ds
  fewer x [] h c i = absurd (in_none c i)
  fewer x (d ∷ ds) h c i = grind (arith, common_steps, fewer d ds h.2 c)

  -- no bucket comes twice
  pub not_again : (x : ℕ) (cs : List ℕ) → AreBehind f x cs → ¬ (Contains cs x)
  not_again x cs h i = let rest = fewer x cs h x i in omega (arith, rest.1, ap length (one_list x cs rest.0 h rest.2))

  pub all_differ : (x : ℕ) (cs : List ℕ) → AreBehind f x cs → AllPairs (λ c d. c ≢ d) (x ∷ cs)
  all_differ x [] h = λ i j d less inside. absurd (omega arith)
  all_differ x (c ∷ cs) h = AllPairs-cons (λ c d. c ≢ d) x (c ∷ cs)
      (λ i d l is. not_again x (c ∷ cs) h (i, l, get_or_default (c ∷ cs) i x d l ∙ sym is)) (all_differ c cs h.2)

  pub behind_differ : (x : ℕ) (cs : List ℕ) → AreBehind f x cs → AllPairs (λ c d. c ≢ d) cs
  behind_differ x cs h i j d less inside = all_differ x cs h (suc i) (suc j) d (omega arith) (omega arith)

module _ (f g : ℕ → ℕ) where
  -- where no link of these changed
  pub same_behind : (x : ℕ) (cs : List ℕ) → ((d : ℕ) → Contains (x ∷ cs) d → g d ≡ f d) → AreBehind f x cs → AreBehind g x cs
  same_behind x [] same h = same x (in_head x []) ∙ h
  same_behind x (c ∷ cs) same h =
      (same x (in_head x (c ∷ cs)) ∙ h.0, h.1, same_behind c cs (λ d i. same d (in_tail x d (c ∷ cs) i)) h.2)

  -- where the link of c alone changed, the buckets up to c stay, and then come others
  pub relinked : (c : ℕ) → ((d : ℕ) → d ≢ c → g d ≡ f d) → (rest : List ℕ) → AreBehind g c rest
      → (x : ℕ) (before after : List ℕ) → last_of x before ≡ c → AreBehind f x (before ++ after) → AreBehind g x (before ++ rest)
  relinked c else rest to x [] after is h = subst (λ (z : ℕ). AreBehind g z rest) (sym is) to
  relinked c else rest to x (d ∷ ds) after is h =
      grind (arith, common_steps, not_again f x (d ∷ ds ++ after) h, Contains-append_left (d ∷ ds) after x, last_in d ds, relinked c else rest to d ds after is h.2)
