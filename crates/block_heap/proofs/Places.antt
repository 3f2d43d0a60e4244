-- A block, or a place, among those before and after it.
use Rattle.std.proofs.Common.{◌≡◌, ℕ, zero, suc, ◌+◌, ◌<◌, ◌≤◌, List, [], ◌∷◌, ◌++◌, length, refl, ap, subst, arith, false}
use Rattle.std.specs.List.{Contains}
use Rattle.block_heap.specs.declared.block.Block.{Block}
use Rattle.block_heap.specs.Blocks.{free_block, Fills, words_of}
use Rattle.block_heap.proofs.Order.{back_fills, from-le-end}

pub free_is : (block : Block) → block.used ≡ false → block ≡ free_block block.place block.size
free_is block e = ap (λ u. record { place = block.place; size = block.size; used = u }) e

-- a list that is not empty is a front and a last block
pub last_of : (xs : List Block) (n : ℕ) → length xs ≡ suc n → (front : List Block) × (last : Block) × (xs ≡ front ++ last ∷ []) × (length front ≡ n)
last_of [] n e = absurd (omega arith)
last_of (x ∷ []) n e = ([], x, refl, omega arith)
last_of (x ∷ y ∷ xs) zero e = absurd (omega arith)
last_of (x ∷ y ∷ xs) (suc n) e =
    let rest = last_of (y ∷ xs) n (omega arith) in
    (x ∷ rest.0, rest.1, ap (λ ys. x ∷ ys) rest.2, (let long = rest.3 in omega arith))

pub parted : {X : Type 0} (xs : List X) (x : X) → Contains xs x → (before : List X) × (after : List X) × (xs ≡ before ++ x ∷ after)
parted [] x among = absurd (let lt = among.1 in omega arith)
parted (y ∷ xs) x (zero, lt, is) = ([], xs, ap (λ y. y ∷ xs) is)
parted (y ∷ xs) x (suc k, lt, is) =
    let rest = parted xs x (k, omega arith, is) in
    (y ∷ rest.0, rest.1, ap (λ xs. y ∷ xs) rest.2)

-- where a block lies among others
pub lies_from : (from end : ℕ) (blocks : List Block) (block : Block) → Fills from blocks end → Contains blocks block → (from ≤ block.place) × (0 < block.size) × (block.place + block.size ≤ end)
lies_from from end blocks block fills among =
    let parts = parted blocks block among in
    let here = back_fills from end parts.0 (block ∷ parts.1) (subst (λ xs. Fills from xs end) parts.2 fills) in
    let place = here.0 in
    let le = from-le-end ((from + words_of parts.0) + block.size) end parts.1 here.2 in
    (omega arith, here.1, omega arith)

pub free_within : (words : ℕ) (blocks : List Block) (block : Block) → Fills 0 blocks words → Contains blocks block → (0 < block.size) × (block.place + block.size ≤ words)
free_within words blocks block fills among = (let lies = lies_from 0 words blocks block fills among in (lies.1, lies.2))

pub in_middle : {X : Type 0} (before after : List X) (x : X) → Contains (before ++ x ∷ after) x
in_middle [] after x = (0, omega arith, refl)
in_middle (y ∷ before) after x = (let rest = in_middle before after x in (suc rest.0, (let lt = rest.1 in omega arith), rest.2))
