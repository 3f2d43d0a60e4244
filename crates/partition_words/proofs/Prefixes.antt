-- Prefixes of histories.
use Rattle.std.proofs.lemmas.Grind.{common_steps}
use Rattle.partition_words.proofs.Vocabulary.{Bool, History, IsPrefix, [], ap, append-nil, append_assoc, arith, false, if◌then◌else◌, length, longer}
use Rattle.partition_words.proofs.Vocabulary.{ltb-false, ltb-true, nat_lt, refl, sym, true, ◌++◌, ◌∙◌, ◌∷◌, ◌≡◌, ◌≤◌}

pub prefix_same : (h : History) → IsPrefix h h
prefix_same h = ([], sym (append-nil h))

pub prefix_then : (a b c : History) → IsPrefix a b → IsPrefix b c → IsPrefix a c
prefix_then a b c x y = (x.0 ++ y.0, y.1 ∙ (ap (λ (z : History). z ++ y.0) x.1 ∙ append_assoc a x.0 y.0))

-- of two prefixes of one history the shorter begins the longer

tails : (a b x y : History) → a ++ x ≡ b ++ y → length b ≤ length a → IsPrefix b a
tails a [] x y e l = (a, refl)
tails [] (w ∷ b) x y e l = absurd (omega arith)
tails (v ∷ a) (w ∷ b) x y e l = grind (arith, common_steps, tails a b x y)

-- whatever holds of the longer one where both begin it
pub longer_as : (P : History → Type 0) (h a b : History) → IsPrefix a h → IsPrefix b h → (IsPrefix b a → P a) → (IsPrefix a b → P b) → P (longer a b)
longer_as P h a b s t first second = by_test (nat_lt (length a) (length b)) refl
  where
    by_test : (z : Bool) → nat_lt (length a) (length b) ≡ z → P (if z then b else a)
    by_test true e = second (tails b a t.0 s.0 (sym t.1 ∙ s.1) (omega (arith, ltb-true _ _ e)))
    by_test false e = first (tails a b s.0 t.0 (sym s.1 ∙ t.1) (omega (arith, ltb-false _ _ e)))

pub longer_both : (h a b : History) → IsPrefix a h → IsPrefix b h → IsPrefix (longer a b) h × IsPrefix a (longer a b) × IsPrefix b (longer a b)
longer_both h a b s t = longer_as (λ (z : History). IsPrefix z h × IsPrefix a z × IsPrefix b z) h a b s t (λ c. (s, prefix_same a, c)) (λ c. (t, c, prefix_same b))
