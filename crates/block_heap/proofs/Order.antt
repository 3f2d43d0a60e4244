-- Block lists that fill a heap.
use Rattle.std.proofs.Common.{◌≡◌, ℕ, ◌+◌, ◌≤◌, List, [], ◌∷◌, ◌++◌, subst, arith}
use Rattle.std.proofs.Props.{props}
use Rattle.std.proofs.lemmas.List.Sums.{sum_by-cons, sum_by-append}
use Rattle.std.proofs.lemmas.Grind.{common_steps}
use Rattle.block_heap.specs.declared.block.Block.{Block}
use Rattle.block_heap.specs.Blocks.{Fills, BeginsFree, IsCoalesced, words_of}

pub words_of-cons : (block : Block) (blocks : List Block) → words_of (block ∷ blocks) ≡ block.size + words_of blocks
words_of-cons block blocks = sum_by-cons (λ (b : Block). b.size) block blocks

pub words_of-append : (xs ys : List Block) → words_of (xs ++ ys) ≡ words_of xs + words_of ys
words_of-append xs ys = sum_by-append (λ (b : Block). b.size) xs ys

pub words_of-fills : (from end : ℕ) (blocks : List Block) → Fills from blocks end → from + words_of blocks ≡ end
words_of-fills from end [] h = omega arith
words_of-fills from end (block ∷ blocks) h = grind (arith, common_steps, words_of-fills (from + block.size) end blocks h.2)

pub fills-append : (from end : ℕ) (xs ys : List Block) → Fills from xs (from + words_of xs) → Fills (from + words_of xs) ys end → Fills from (xs ++ ys) end
fills-append from end [] ys h rest = let e : from + 0 ≡ from = omega arith in subst (λ n. Fills n ys end) e rest
fills-append from end (x ∷ xs) ys h rest = grind (arith, common_steps, fills-append (from + x.size) end xs ys)

pub front_fills : (from end : ℕ) (xs ys : List Block) → Fills from (xs ++ ys) end → Fills from xs (from + words_of xs)
front_fills from end [] ys h = omega arith
front_fills from end (x ∷ xs) ys h = grind (arith, common_steps, front_fills (from + x.size) end xs ys h.2)

pub back_fills : (from end : ℕ) (xs ys : List Block) → Fills from (xs ++ ys) end → Fills (from + words_of xs) ys end
back_fills from end [] ys h = let e : from ≡ from + 0 = omega arith in subst (λ n. Fills n ys end) e h
back_fills from end (x ∷ xs) ys h = grind (arith, common_steps, back_fills (from + x.size) end xs ys h.2)

pub from-le-end : (from end : ℕ) (blocks : List Block) → Fills from blocks end → from ≤ end
from-le-end from end blocks fills = (let e = words_of-fills from end blocks fills in omega arith)

-- other blocks that fill the same words take their place
pub fills_instead : (from end : ℕ) (xs ys zs : List Block) → Fills from (xs ++ ys) end → ((at : ℕ) → Fills at ys end → Fills at zs end) → Fills from (xs ++ zs) end
fills_instead from end xs ys zs h instead = fills-append from end xs zs (front_fills from end xs ys h) (instead _ (back_fills from end xs ys h))

pub back_merged : (xs ys : List Block) → IsCoalesced (xs ++ ys) → IsCoalesced ys
back_merged [] ys h = h
back_merged (x ∷ xs) ys h = back_merged xs ys h.1

-- blocks that begin with a free one only where the last ones did may take their place, and no two free ones touch
pub merged_instead : (xs ys zs : List Block) → IsCoalesced (xs ++ ys) → (BeginsFree zs → BeginsFree ys) → IsCoalesced zs → IsCoalesced (xs ++ zs)
merged_instead [] ys zs h begins is = is
merged_instead (x ∷ []) ys zs h begins is = (λ both. h.0 (both.0, begins both.1), is)
merged_instead (x ∷ y ∷ xs) ys zs h begins is = (h.0, merged_instead (y ∷ xs) ys zs h.1 begins is)

-- blocks fill words in one way, and one way only tells that no two free ones touch
pub fills_once : (from end : ℕ) (blocks : List Block) → IsProp (Fills from blocks end)
fills_once from end [] = hlevel props
fills_once from end (block ∷ blocks) = hlevel (props, fills_once (from + block.size) end blocks)

pub coalesced_once : (blocks : List Block) → IsProp (IsCoalesced blocks)
coalesced_once [] = hlevel props
coalesced_once (block ∷ blocks) = hlevel (props, coalesced_once blocks)
