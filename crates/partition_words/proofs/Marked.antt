-- The bucket whose write is marked, and the buckets that its write may change, with the bit that says whether two numbers are the same.
use Rattle.std.proofs.lemmas.Grind.{common_steps}
use Rattle.partition_words.proofs.Vocabulary.{Begun, Bool, Idle, InChain, IsBucket, IsFreeSpare, IsMain, Kept, List, Marked, OwnerState, Phase, PhaseFits}
use Rattle.partition_words.proofs.Vocabulary.{WhenMarked, Write, ap, arith, begun_in, bucket_in, bucket_of-below, dite, epoch_in, eq-eqb, false}
use Rattle.partition_words.proofs.Vocabulary.{if◌then◌else◌, inl, inr, marked_in, nat_eq, ne_eqb, pow_pos, refl, subst, sym, true, ℕ, ℕ_discrete}
use Rattle.partition_words.proofs.Vocabulary.{◌%◌, ◌*◌, ◌+◌, ◌<◌, ◌≡◌, ◌≢◌, ◌≤◌, ◌⊎◌}
use Rattle.partition_words.proofs.Walks.{chain_bucket}

abbrev pub bit : ℕ → ℕ → ℕ
bit c b = if nat_eq c b then 1 else 0

pub bit_same : (c b : ℕ) → c ≡ b → bit c b ≡ 1
bit_same c b e = ap (λ (z : Bool). if z then 1 else 0) (eq-eqb c b e)

pub bit_else : (c b : ℕ) → c ≢ b → bit c b ≡ 0
bit_else c b n = ap (λ (z : Bool). if z then 1 else 0) (ne_eqb c b n)

pub bit_le : (c b : ℕ) → bit c b ≤ 1
bit_le c b = elim (nat_eq c b) as (λ (z : Bool). (if z then 1 else 0) ≤ 1) [ true ↦ omega arith | false ↦ omega arith ]

pub bit_is : (c b : ℕ) → bit c b ≡ 1 → c ≡ b
bit_is c b e = dite (ℕ_discrete c b) (λ is. is) (λ n. let zero = bit_else c b n in absurd (omega arith))

-- what holds whether or not two numbers are the same
pub tested : (P : Bool → Type 0) (a b : ℕ) → (a ≡ b → P true) → (a ≢ b → P false) → P (nat_eq a b)
tested P a b same other = dite (ℕ_discrete a b) (λ is. subst P (sym (eq-eqb a b is)) (same is)) (λ n. subst P (sym (ne_eqb a b n)) (other n))

calm_in : (phase : Phase) (b epoch writes : ℕ) → epoch + marked_in phase b ≡ 2 * writes + begun_in phase b → epoch % 2 ≡ 0
    → (begun_in phase b ≡ 0) × (marked_in phase b ≡ 0)
calm_in Idle b epoch writes is even = (refl, refl)
calm_in (Begun c) b epoch writes is even = let one = bit_le c b in (omega arith, refl)
calm_in (Marked c write before) b epoch writes is even = let one = bit_le c b in (refl, omega arith)

module _ (o : OwnerState) (s : Kept o) where
  -- at an even epoch no write is begun or marked in the bucket
  pub calm : (b : ℕ) → IsMain o.shape b → epoch_in o b % 2 ≡ 0 → (begun_in o.phase b ≡ 0) × (marked_in o.phase b ≡ 0)
  calm b l even = calm_in o.phase b (epoch_in o b) _ (s.epochs b l) even

  -- the bucket of a key is a main one
  pub main_of : (key : List ℕ) → IsMain o.shape (bucket_in o key)
  main_of key = bucket_of-below o.shape.hashing key o.shape.buckets (subst (λ (z : ℕ). 0 < z) (sym s.shape.ranges.buckets.2) (pow_pos s.shape.ranges.buckets.0))

  pub marked_not : (b c : ℕ) (write : Write) (history : List Write) → o.phase ≡ Marked b write history → marked_in o.phase c ≡ 0 → c ≢ b
  marked_not b c write history is none same = grind (arith, common_steps)

  pub marked_main : (b : ℕ) (write : Write) (history : List Write) → o.phase ≡ Marked b write history → IsMain o.shape b
  marked_main b write history is = subst (IsMain o.shape) (sym (subst (PhaseFits o) is s.phase).0) (main_of write.key)

  pub ends_main : (phase : Phase) → o.phase ≡ phase → (b : ℕ) → marked_in phase b ≡ 1 → IsMain o.shape b
  ends_main (Marked c write before) is b one = subst (IsMain o.shape) (bit_is c b one) (marked_main c write before is)
  ends_main phase is b one = absurd (omega arith)

  -- a bucket that the marked write may change is in no chain of an unmarked one
  pub its_bucket : (phase : Phase) → o.phase ≡ phase → (c : ℕ) → WhenMarked phase (λ b write before. InChain o b c ⊎ IsFreeSpare o c)
      → (other : ℕ) → IsMain o.shape other → marked_in o.phase other ≡ 0 → ¬ (InChain o other c)
  its_bucket (Marked b write before) is c (inl own) other l none = grind (arith, common_steps, marked_main b write before is, marked_not b other write before is none)
  its_bucket (Marked b write before) is c (inr free) other l none = free.free other l
  its_bucket phase is c h other l none = absurd h

  -- it is a bucket
  pub its_inside : (phase : Phase) → o.phase ≡ phase → (c : ℕ) → WhenMarked phase (λ b write before. InChain o b c ⊎ IsFreeSpare o c) → IsBucket o.shape c
  its_inside (Marked b write before) is c (inl own) = chain_bucket o s.chains b c (marked_main b write before is) own
  its_inside (Marked b write before) is c (inr free) = free.spare.1
  its_inside phase is c h = absurd h
