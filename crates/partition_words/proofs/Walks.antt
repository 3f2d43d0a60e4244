-- The chain of a bucket, its first buckets and its end, told by the list of the spares behind it.
use Rattle.std.proofs.lemmas.Grind.{common_steps}
use Rattle.partition_words.proofs.Vocabulary.{Contains, HasChains, InChain, IsAmong, IsBucket, IsMain, IsSpare, List, OwnerState, Shape, [], arith, dite}
use Rattle.partition_words.proofs.Vocabulary.{inl, inr, length, link_in, refl, subst, suc, sym, zero, ℕ, ℕ_discrete, ◌∙◌, ◌∷◌, ◌≡◌, ◌≤◌, ◌⊎◌}
use Rattle.partition_words.specs.Chain.{EndsWithin, ChainEnds}
use Rattle.partition_words.proofs.Failing.{in_cons, in_head, in_tail, in_none}
use Rattle.partition_words.proofs.Behind.{AreBehind, behind_differ}
use Rattle.partition_words.proofs.Counted.{at_most}

module _ (o : OwnerState) where
  listed_to_end : (n x : ℕ) → EndsWithin o n x → (cs : List ℕ) × AreBehind (link_in o) x cs
  listed_to_end zero x h = absurd h
  listed_to_end (suc n) x (inl none) = ([], none)
  listed_to_end (suc n) x (inr h) = dite (ℕ_discrete (link_in o x) 0)
      (λ none. ([], none))
      (λ some. let rest = listed_to_end n (link_in o x) h in (link_in o x ∷ rest.0, (refl, some, rest.1)))

  ends : (n x : ℕ) (cs : List ℕ) → AreBehind (link_in o) x cs → length cs ≤ n → EndsWithin o (suc n) x
  ends n x [] h few = inl h
  ends zero x (c ∷ cs) h few = absurd (omega arith)
  ends (suc n) x (c ∷ cs) h few = inr (subst (EndsWithin o (suc n)) (sym h.0) (ends n c cs h.2 (omega arith)))

  listed : (n x : ℕ) (cs : List ℕ) → AreBehind (link_in o) x cs → (c : ℕ) → IsAmong o n x c → Contains (x ∷ cs) c
  listed zero x cs h c i = absurd i
  listed (suc n) x cs h c (inl is) = subst (Contains (x ∷ cs)) is (in_head x cs)
  listed (suc n) x [] h c (inr i) = absurd (i.0 h)
  listed (suc n) x (d ∷ ds) h c (inr i) = in_tail x c (d ∷ ds) (listed n d ds h.2 c (subst (λ (z : ℕ). IsAmong o n z c) h.0 i.1))

  among : (n x : ℕ) (cs : List ℕ) → AreBehind (link_in o) x cs → length cs ≤ n → (c : ℕ) → Contains (x ∷ cs) c → IsAmong o (suc n) x c
  among n x [] h few c i = elim (in_cons x c [] i) [ inl is ↦ inl is | inr more ↦ absurd (in_none c more) ]
  among zero x (d ∷ ds) h few c i = absurd (omega arith)
  among (suc n) x (d ∷ ds) h few c i = grind (arith, common_steps, among n d ds h.2 (omega arith) c)

-- These are the spares behind the main bucket b.
pub record IsChain (o : OwnerState) (b : ℕ) (cs : List ℕ) : Type 0 where
  pub behind : AreBehind (link_in o) b cs
  pub spare : (c : ℕ) → Contains cs c → IsSpare o.shape c
  pub few : length cs ≤ o.shape.spares

module _ (o : OwnerState) (b : ℕ) (cs : List ℕ) (chain : IsChain o b cs) where
  pub has_bucket : (c : ℕ) → InChain o b c → Contains (b ∷ cs) c
  has_bucket = listed o (suc o.shape.spares) b cs chain.behind

  pub in_chain : (c : ℕ) → Contains (b ∷ cs) c → InChain o b c
  in_chain = among o o.shape.spares b cs chain.behind chain.few

  pub chain_ends : ChainEnds o b
  chain_ends = ends o o.shape.spares b cs chain.behind chain.few

  pub inside : IsMain o.shape b → (c : ℕ) → Contains (b ∷ cs) c → IsBucket o.shape c
  inside main c i = elim (in_cons b c cs i) [ inl is ↦ omega arith | inr more ↦ (chain.spare c more).1 ]

-- a spare among a main bucket and others is one of the others
pub not_main : (shape : Shape) (b c : ℕ) (xs : List ℕ) → IsMain shape b → IsSpare shape c → Contains (b ∷ xs) c → Contains xs c
not_main shape b c xs main spare i = elim (in_cons b c xs i) [ inl is ↦ absurd (let low = spare.0 in omega arith) | inr more ↦ more ]

-- What stands behind a bucket are spares, no more than there are, where each link leads to a spare.
module _ (o : OwnerState) (links : (c : ℕ) → IsBucket o.shape c → (link_in o c ≡ 0) ⊎ IsSpare o.shape (link_in o c)) where
  all_spare : (x : ℕ) (cs : List ℕ) → IsBucket o.shape x → AreBehind (link_in o) x cs → (c : ℕ) → Contains cs c → IsSpare o.shape c
  all_spare x [] bucket h c i = absurd (in_none c i)
  all_spare x (d ∷ ds) bucket h c i =
      let here : IsSpare o.shape d = elim (links x bucket) [ inl none ↦ absurd (h.1 (sym h.0 ∙ none)) | inr is ↦ subst (IsSpare o.shape) h.0 is ] in
      elim (in_cons d c ds i) [ inl is ↦ subst (IsSpare o.shape) is here | inr more ↦ all_spare d ds here.1 h.2 c more ]

  pub chain_of : (b : ℕ) (cs : List ℕ) → IsMain o.shape b → AreBehind (link_in o) b cs → IsChain o b cs
  chain_of b cs main h =
      grind (arith, common_steps, all_spare b cs (omega arith) h, at_most cs o.shape.buckets o.shape.spares (behind_differ (link_in o) b cs h) (all_spare b cs (omega arith) h), behind_differ (link_in o) b cs h)

pub chain_there : (o : OwnerState) → HasChains o → (b : ℕ) → IsMain o.shape b → (cs : List ℕ) × IsChain o b cs
chain_there o s b main = let list = listed_to_end o (suc o.shape.spares) b (s.end b main) in (list.0, chain_of o s.links b list.0 main list.1)

pub chain_bucket : (o : OwnerState) → HasChains o → (b c : ℕ) → IsMain o.shape b → InChain o b c → IsBucket o.shape c
chain_bucket o s b c main h = let chain = chain_there o s b main in inside o b chain.0 chain.1 main c (has_bucket o b chain.0 chain.1 c h)
