-- Free blocks are few and short where none fits.
use Rattle.std.proofs.Common.{◌≡◌, ℕ, suc, ◌+◌, ◌-◌, ◌*◌, ◌<◌, ◌≤◌, List, [], ◌∷◌, ◌++◌, length, map, refl, ap, ◌∙◌, subst, arith, Bool, true, false, not, cond}
use Rattle.std.specs.List.{filter, sum, All}
use Rattle.std.proofs.Math.Nat.{mul-le-mul_right}
use Rattle.std.proofs.lemmas.List.Sums.{sum_by-le, sum-map}
use Rattle.std.proofs.lemmas.List.Filters.{sum_by-filter_both}
use Rattle.std.proofs.lemmas.Grind.{common_steps}
use Rattle.block_heap.specs.declared.block.Block.{Block}
use Rattle.block_heap.specs.Blocks.{free_block, Fills, IsFree, BeginsFree, IsCoalesced, IsBlockList, words_of, used_blocks, free_sizes, NoneFits, MayLack}
use Rattle.block_heap.proofs.Order.{words_of-cons, words_of-fills}

pub free_more : (block : Block) (blocks : List Block) → IsFree block → free_sizes (block ∷ blocks) ≡ block.size ∷ free_sizes blocks
free_more block blocks free = ap (λ u. map (λ (b : Block). b.size) (cond (not u) (block ∷ filter (λ b. not b.used) blocks) (filter (λ b. not b.used) blocks))) free

pub free_same : (block : Block) (blocks : List Block) → block.used ≡ true → free_sizes (block ∷ blocks) ≡ free_sizes blocks
free_same block blocks used = ap (λ u. map (λ (b : Block). b.size) (cond (not u) (block ∷ filter (λ b. not b.used) blocks) (filter (λ b. not b.used) blocks))) used

pub used_same : (block : Block) (blocks : List Block) → IsFree block → used_blocks (block ∷ blocks) ≡ used_blocks blocks
used_same block blocks free = ap (λ u. cond u (block ∷ used_blocks blocks) (used_blocks blocks)) free

pub used_more : (block : Block) (blocks : List Block) → block.used ≡ true → used_blocks (block ∷ blocks) ≡ block ∷ used_blocks blocks
used_more block blocks used = ap (λ u. cond u (block ∷ used_blocks blocks) (used_blocks blocks)) used

abbrev AreFew : List Block → Type 0
AreFew blocks = (length (free_sizes blocks) ≤ length (used_blocks blocks) + 1) × ((BeginsFree blocks → ⊥) → length (free_sizes blocks) ≤ length (used_blocks blocks))

few_by : (block : Block) (blocks : List Block) (u : Bool) → block.used ≡ u → ((IsFree block × BeginsFree blocks) → ⊥) → AreFew blocks → AreFew (block ∷ blocks)
few_by block blocks true used not_both few = grind (arith, common_steps)
few_by block blocks false is_free not_both few = grind (arith, common_steps)

-- a used block parts any two free ones
are_few : (blocks : List Block) → IsCoalesced blocks → AreFew blocks
are_few [] h = (omega arith, λ _. omega arith)
are_few (block ∷ blocks) h = few_by block blocks block.used refl h.0 (are_few blocks h.1)

-- each word is free or used
pub words_parted : (blocks : List Block) → sum (free_sizes blocks) + words_of (used_blocks blocks) ≡ words_of blocks
words_parted blocks =
    ap (λ n. n + words_of (used_blocks blocks)) (sum-map (λ (b : Block). b.size) (filter (λ b. not b.used) blocks))
    ∙ sum_by-filter_both (λ (b : Block). not b.used) (λ b. b.used) (λ b. not_not b.used) (λ b. b.size) blocks
  where
    not_not : (u : Bool) → u ≡ not (not u)
    not_not true = refl
    not_not false = refl

-- a refusal implies the inequality
pub MayLack-none_fits : (blocks : List Block) (need : ℕ) → IsCoalesced blocks → NoneFits blocks need → MayLack blocks need
MayLack-none_fits blocks need h none = grind (arith, common_steps, are_few blocks h, sum_by-le, mul-le-mul_right (need - 1) ((are_few blocks h).0), words_parted blocks)

-- where a free block fits, it is not so that none does
pub not_none_fits : (before after : List Block) (place size need : ℕ) → need ≤ size → NoneFits (before ++ free_block place size ∷ after) need → ⊥
not_none_fits [] after place size need enough none = let short = none 0 0 (omega arith) in omega arith
not_none_fits (block ∷ before) after place size need enough none =
    not_none_fits before after place size need enough (tail_of block (before ++ free_block place size ∷ after) block.used refl none)
  where
    tail_of : (block : Block) (blocks : List Block) (u : Bool) → block.used ≡ u → NoneFits (block ∷ blocks) need → NoneFits blocks need
    tail_of block blocks true used none = subst (λ sizes. All (λ size. size < need) sizes) (free_same block blocks used) none
    tail_of block blocks false is_free none =
        let more = subst (λ sizes. All (λ size. size < need) sizes) (free_more block blocks is_free) none in
        λ k d lt. more (suc k) d (omega arith)

pub frees-append : (xs ys : List Block) → length (free_sizes (xs ++ ys)) ≡ length (free_sizes xs) + length (free_sizes ys)
frees-append [] ys = omega arith
frees-append (x ∷ xs) ys = by (frees-append xs ys) x.used refl
  where
    by : length (free_sizes (xs ++ ys)) ≡ length (free_sizes xs) + length (free_sizes ys) → (u : Bool) → x.used ≡ u → length (free_sizes (x ∷ (xs ++ ys))) ≡ length (free_sizes (x ∷ xs)) + length (free_sizes ys)
    by rest true used = omega (arith, rest, ap length (free_same x (xs ++ ys) used), ap length (free_same x xs used))
    by rest false free = omega (arith, rest, ap length (free_more x (xs ++ ys) free), ap length (free_more x xs free))

-- each block has a word
all_within : (from end : ℕ) (blocks : List Block) → Fills from blocks end → length (free_sizes blocks) + length (used_blocks blocks) ≤ words_of blocks
all_within from end [] fills = omega arith
all_within from end (block ∷ blocks) fills = by (all_within (from + block.size) end blocks fills.2) block.used refl
  where
    by : length (free_sizes blocks) + length (used_blocks blocks) ≤ words_of blocks → (u : Bool) → block.used ≡ u → length (free_sizes (block ∷ blocks)) + length (used_blocks (block ∷ blocks)) ≤ words_of (block ∷ blocks)
    by rest true used = (let some = fills.1 in omega (arith, rest, ap length (free_same block blocks used), ap length (used_more block blocks used), words_of-cons block blocks))
    by rest false free = (let some = fills.1 in omega (arith, rest, ap length (free_more block blocks free), ap length (used_same block blocks free), words_of-cons block blocks))

-- no more than every second word begins a free block
pub few_frees : (words : ℕ) (blocks : List Block) → IsBlockList words blocks → 2 * length (free_sizes blocks) ≤ words + 1
few_frees words blocks list =
    let few = (are_few blocks list.merged).0 in
    omega (arith, few, all_within 0 words blocks list.fills, words_of-fills 0 words blocks list.fills)
