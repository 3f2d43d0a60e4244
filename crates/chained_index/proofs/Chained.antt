-- The buckets of a chain, by their places in the list, and what the calls go by of the owner's fact.
use Rattle.std.proofs.lemmas.Grind.{common_steps}
use Rattle.chained_index.proofs.Words.{SLOTS, ◌≡◌, ℕ, ◌<◌, List, length, slice_index, sym, ◌∙◌, length-set, History, OwnerState, Phase, PutsEntry}
use Rattle.chained_index.proofs.Words.{IsMain, IsBucket, entry_at, link_at, word_count, link_in, InChain, HasChains, IsFreeSpare, after, Kept}
use Rattle.chained_index.proofs.Words.{link_puts_entry, same_behind, IsChain, has_bucket, in_chain, inside, chain_there, chains_stay, ◌≢◌, zero, suc}
use Rattle.chained_index.proofs.Words.{◌≤◌, inr, ◌⊎◌, [], ◌∷◌, take, refl, arith, eq-eqb, buckets_from, buckets_of}
use Rattle.chained_index.proofs.Words.{AreBehind, last_of}
use Rattle.chained_index.proofs.Lists.{at}

pub record Chained (o : OwnerState) : Type 0 where
  pub wide : length o.words ≡ word_count o.shape
  pub chains : HasChains o

pub chained : (o : OwnerState) → Kept o → Chained o
chained o kept = record { wide = kept.wide; chains = kept.chains }

pub chain_inside : (o : OwnerState) → Chained o → (b c : ℕ) → IsMain o.shape b → InChain o b c → IsBucket o.shape c
chain_inside o s b c main h = let chain = chain_there o s.chains b main in inside o b chain.0 chain.1 main c (has_bucket o b chain.0 chain.1 c h)

module _ (o : OwnerState) (words : List ℕ) (history : History) (phase : Phase) (long : length words ≡ length o.words) (s : Chained o) where
  abbrev p : OwnerState
  p = record o { words = words; history = history; phase = phase }

  -- A chain of whose buckets no link changed has the same buckets.
  module _ (b : ℕ) (main : IsMain o.shape b) (same : (c : ℕ) → InChain o b c → slice_index words (link_at o.shape c) ≡ link_in o c) where
    pub kept_chain : (cs : List ℕ) → IsChain o b cs → IsChain p b cs
    kept_chain cs was =
        grind (arith, same_behind (link_in o) (link_in p) b cs (λ c i. same c (in_chain o b cs was c i)) was.behind, was.spare, was.few)

    pub chain_on : (c : ℕ) → InChain o b c → InChain p b c
    chain_on c h = let was = chain_there o s.chains b main in in_chain p b was.0 (kept_chain was.0 was.1) c (has_bucket o b was.0 was.1 c h)

    pub chain_back : (c : ℕ) → InChain p b c → InChain o b c
    chain_back c h = let was = chain_there o s.chains b main in in_chain o b was.0 was.1 c (has_bucket p b was.0 (kept_chain was.0 was.1) c h)

  -- Where no link changed, all chains and the free spares are the same.
  module _ (same : (d : ℕ) → IsBucket o.shape d → slice_index words (link_at o.shape d) ≡ link_in o d) where
    pub all_on : (b : ℕ) → IsMain o.shape b → (c : ℕ) → InChain o b c → InChain p b c
    all_on b main = chain_on b main (λ c h. same c (chain_inside o s b c main h))

    pub free_on : (c : ℕ) → IsFreeSpare o c → IsFreeSpare p c
    free_on c f = record { spare = f.spare; free = λ b main h. f.free b main (chain_back b main (λ c h. same c (chain_inside o s b c main h)) c h) }

    pub free_back : (c : ℕ) → IsFreeSpare p c → IsFreeSpare o c
    free_back c f = record { spare = f.spare; free = λ b main h. f.free b main (all_on b main c h) }

    pub chained_kept : Chained p
    chained_kept = record { wide = long ∙ s.wide; chains = chains_stay o words history phase s.chains same }

-- so before an entry was stored the chains were as they are
pub chained_before : (o : OwnerState) (c slot x : ℕ) → slot < SLOTS → Chained (after (PutsEntry c slot x) o) → Chained o
chained_before o c slot x low s =
    let long = length-set o.words (entry_at o.shape c slot) x in
    chained_kept (after (PutsEntry c slot x) o) o.words o.history o.phase (sym long) s (λ d l. sym (link_puts_entry o (sym long ∙ s.wide) c slot x d low))

-- The buckets of a chain by their places in the list

list_is : (o : OwnerState) (n b : ℕ) (cs : List ℕ) → AreBehind (link_in o) b cs → length cs ≤ n → buckets_from o (suc n) b ≡ b ∷ cs
unfolding buckets_from
list_is o n b [] h few = rw (eq-eqb (link_in o b) 0 h) refl
list_is o zero b (c ∷ cs) h few = absurd (omega arith)
list_is o (suc n) b (c ∷ cs) h few = grind (arith, common_steps, list_is o n c cs h.2 (omega arith))

pub chain_is : (o : OwnerState) (b : ℕ) (cs : List ℕ) → IsChain o b cs → buckets_of o b ≡ b ∷ cs
unfolding buckets_of
chain_is o b cs chain = list_is o o.shape.spares b cs chain.behind chain.few

-- without a look at the words: it begins with the main bucket, and has no more buckets than all spares and that

length-buckets_from : (o : OwnerState) (n b : ℕ) → length (buckets_from o n b) ≤ n
unfolding buckets_from
length-buckets_from o zero b = omega arith
length-buckets_from o (suc n) b = grind (arith, common_steps, length-buckets_from o n (link_in o b))

pub length-buckets_of : (o : OwnerState) (b : ℕ) → length (buckets_of o b) ≤ suc o.shape.spares
unfolding buckets_of
length-buckets_of o b = length-buckets_from o (suc o.shape.spares) b

pub first_bucket : (o : OwnerState) (b : ℕ) → (0 < length (buckets_of o b)) × (at (buckets_of o b) 0 ≡ b)
unfolding buckets_of buckets_from
first_bucket o b = (omega arith, refl)

-- what has a link has the bucket behind it that the link names, and what has none is the last
pub step_on : (f : ℕ → ℕ) (x : ℕ) (cs : List ℕ) → AreBehind f x cs → (k : ℕ) → k < length (x ∷ cs)
    → (k < length cs) × (f (at (x ∷ cs) k) ≢ 0) × (f (at (x ∷ cs) k) ≡ at (x ∷ cs) (suc k)) ⊎ (length cs ≡ k) × (f (at (x ∷ cs) k) ≡ 0)
step_on f x [] h zero l = inr (refl, h)
step_on f x [] h (suc k) l = absurd (omega arith)
step_on f x (c ∷ cs) h zero l = grind (arith, h.0, h.1)
step_on f x (c ∷ cs) h (suc k) l = grind (arith, step_on f c cs h.2 k)

pub last_at : (x : ℕ) (cs : List ℕ) (n : ℕ) → n ≤ length cs → last_of x (take n cs) ≡ at (x ∷ cs) n
last_at x cs zero l = refl
last_at x [] (suc n) l = absurd (omega arith)
last_at x (c ∷ cs) (suc n) l = last_at c cs n (omega arith)
