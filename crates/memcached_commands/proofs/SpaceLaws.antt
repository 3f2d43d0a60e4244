-- Spaces that are put a few at a time.
use Rattle.std.proofs.Common.{◌≡◌, ◌≤◌, ◌+◌, ◌-◌, ℕ, zero, suc, List, ◌∷◌, ◌++◌, take, replicate, sym, ap, ◌∙◌, arith}
use Rattle.std.proofs.lemmas.List.{append_assoc, take-replicate}

replicate_both : (a b byte : ℕ) → replicate (a + b) byte ≡ replicate a byte ++ replicate b byte
replicate_both zero b byte = let same : 0 + b ≡ b = omega arith in ap (λ n. replicate n byte) same
replicate_both (suc a) b byte =
    let same : suc a + b ≡ suc (a + b) = omega arith in
    ap (λ n. replicate n byte) same ∙ ap (λ bytes. byte ∷ bytes) (replicate_both a b byte)

-- some of those that are left, and then the rest of them
pub spaces_put : (next : List ℕ) (some left : ℕ) → some ≤ 64 → some ≤ left
    → next ++ take some (replicate 64 32) ++ replicate (left - some) 32 ≡ next ++ replicate left 32
spaces_put next some left few fits =
    let whole : some + (left - some) ≡ left = omega arith in
    rw (take-replicate {X = ℕ} some 64 32 few) (append_assoc next (replicate some 32) (replicate (left - some) 32)
    ∙ ap (λ spaces. next ++ spaces) (sym (replicate_both some (left - some) 32) ∙ ap (λ n. replicate n 32) whole))
