-- Lists: entries of which each stands once, and the used blocks of a heap.
use Rattle.std.proofs.lemmas.Grind.{common_steps}
use Rattle.partition_words.proofs.Differing.{AllDiffer}
use Rattle.store_partition.proofs.Words.{AddsBlock, Block, Contains, IsBlockList, IsGiven, IsParted, IsPermutation}
use Rattle.store_partition.proofs.Words.{IsPermutation-append_right, IsPermutation-cons, IsPermutation-middle, IsPermutation-remove, IsPermutation-swap_remove}
use Rattle.store_partition.proofs.Words.{IsPermutation-sym, IsPermutation-trans, List, [], ap, arith, at, drop, get_or_default, length, list_remove, refl}
use Rattle.store_partition.proofs.Words.{same_size, set_split, slice_set, subst, subst₂, suc, swap_remove, sym, take, used_block, used_blocks}
use Rattle.store_partition.proofs.Words.{used_blocks-given, used_blocks-parted, words_of, words_of-fills, ℕ, ◌++◌, ◌+◌, ◌-◌, ◌<◌, ◌∙◌, ◌∷◌, ◌≡◌, ◌≤◌}

pub once_by : (xs : List ℕ) → ((i j : ℕ) → i < length xs → j < length xs → at xs i ≡ at xs j → i ≡ j) → AllDiffer xs
once_by xs places i j d less m same = grind (arith, places i j, get_or_default xs i 0 d, get_or_default xs j d 0)

-- an empty list has no element, and one of at most one element has one
pub nothing : {X A : Type 0} (x : X) → Contains [] x → A
nothing x has = absurd (let less = has.1 in omega arith)

pub in_one : {X : Type 0} (xs : List X) (x y : X) → length xs ≤ 1 → Contains xs x → Contains xs y → x ≡ y
in_one xs x y few has has' = grind (arith, common_steps)

pub single : {X : Type 0} (x y : X) → Contains (x ∷ []) y → x ≡ y
single x y has = in_one (x ∷ []) x y (omega arith) (0, omega arith, refl) has

-- with the entry at the place first: another one in its place, and the last one
module _ (xs : List ℕ) (n e : ℕ) (l : n < length xs) where
  pub set_moved : IsPermutation (slice_set xs n e) (e ∷ list_remove xs n)
  set_moved = subst (λ ys. IsPermutation ys (e ∷ list_remove xs n)) (sym (set_split xs n e l)) (IsPermutation-middle (take n xs) e (drop (suc n) xs))

  module _ (is : at xs n ≡ e) where
    pub removed : IsPermutation xs (e ∷ list_remove xs n)
    removed = IsPermutation-remove xs n e l (sym (get_or_default xs n e 0 l ∙ is))

    pub swap_moved : IsPermutation xs (e ∷ swap_remove xs n 0)
    swap_moved = subst (λ ys. IsPermutation xs (e ∷ ys))
        (ap (λ z. take (length xs - 1) (slice_set xs n z)) (get_or_default xs (length xs - 1) e 0 (omega arith)))
        (IsPermutation-swap_remove xs n e l (sym (get_or_default xs n e 0 l ∙ is)))

-- The used blocks of a heap: what becomes of them where one is taken or given back

-- one block more
pub added : (old new : List Block) (block : Block) → AddsBlock old new block → IsPermutation new (block ∷ old)
added old new block adds = subst₂ (λ xs ys. IsPermutation xs (block ∷ ys)) (sym adds.now) (sym adds.was) (IsPermutation-middle adds.before block adds.after)

pub list_on : (words : ℕ) (old new : List Block) → IsBlockList words old → IsBlockList (words_of old) new → IsBlockList words new
list_on words old new list list' = let all = words_of-fills 0 words old list.fills in subst (λ n. IsBlockList n new) (omega arith) list'

-- the heap has given the block at the place back
abbrev pub Gave : List Block → ℕ → List Block → Type 0
Gave blocks place bs = IsGiven blocks bs place × IsBlockList (words_of blocks) bs

-- The blocks that a write takes are used beside those before it, but for those that it loses, and it gives these back once its words are marked.
pub record Heap (words : ℕ) (old new taken lost given : List Block) (Becomes : List Block → Type 0) : Type 0 where
  pub list : IsBlockList words new
  pub more : IsPermutation (lost ++ used_blocks new) (taken ++ used_blocks old)
  pub less : (bs : List Block) → Becomes bs → IsBlockList words bs × IsPermutation (used_blocks new) (given ++ used_blocks bs)

module _ (words : ℕ) (old new taken lost : List Block) (list : IsBlockList words new) (more : IsPermutation (lost ++ used_blocks new) (taken ++ used_blocks old)) where
  -- none is given back
  pub heap_kept : Heap words old new taken lost [] (λ bs. bs ≡ new)
  heap_kept = grind (arith, common_steps)

  -- the block at the place is
  pub heap_gives : (place size : ℕ) → 0 < size → Contains (used_blocks new) (used_block place size)
      → Heap words old new taken lost (used_block place size ∷ []) (Gave new place)
  heap_gives place size some has = record {
    list = list;
    more = more;
    less = λ bs becomes. (
      list_on words new bs list becomes.1,
      subst (λ n. IsPermutation (used_blocks new) (used_block place n ∷ used_blocks bs))
          (same_size words new becomes.0.before becomes.0.after place becomes.0.size size list becomes.0.was some has)
          (added _ _ _ (used_blocks-given new bs place becomes.0)),
    );
  }

-- a parted block is lost for two
module _ (words : ℕ) (old new : List Block) (place need : ℕ) (list : IsBlockList words old) (parted : IsParted old new place need) where
  abbrev whole : Block
  whole = used_block place parted.size

  abbrev first : Block
  first = used_block place need

  abbrev second : Block
  second = used_block (place + need) (parted.size - need)

  abbrev others : List Block
  others = used_blocks parted.before ++ used_blocks parted.after

  olds : IsPermutation (used_blocks old) (whole ∷ others)
  olds = subst (λ xs. IsPermutation xs (whole ∷ others)) (sym (used_blocks-parted old new place need parted).0)
      (IsPermutation-middle (used_blocks parted.before) whole (used_blocks parted.after))

  news : IsPermutation (used_blocks new) (first ∷ (second ∷ others))
  news = subst (λ xs. IsPermutation xs (first ∷ (second ∷ others))) (sym (used_blocks-parted old new place need parted).1)
      (IsPermutation-trans _ _ _ (IsPermutation-middle (used_blocks parted.before) first (second ∷ used_blocks parted.after))
      (IsPermutation-cons first _ _ (IsPermutation-middle (used_blocks parted.before) second (used_blocks parted.after))))

  exchanged : IsPermutation (whole ∷ used_blocks new) (first ∷ (second ∷ used_blocks old))
  exchanged = IsPermutation-trans _ _ _ (IsPermutation-cons whole _ _ news)
      (IsPermutation-trans _ _ _ (IsPermutation-sym _ _ (IsPermutation-middle (first ∷ (second ∷ [])) whole others))
      (IsPermutation-append_right (first ∷ (second ∷ [])) _ _ (IsPermutation-sym _ _ olds)))

  pub two_for_one : (size : ℕ) → 0 < size → Contains (used_blocks old) (used_block place size)
      → IsPermutation (used_block place size ∷ used_blocks new) (used_block place need ∷ (used_block (place + need) (size - need) ∷ used_blocks old))
  two_for_one size some has =
      subst (λ n. IsPermutation (used_block place n ∷ used_blocks new) (used_block place need ∷ (used_block (place + need) (n - need) ∷ used_blocks old)))
      (same_size words old parted.before parted.after place parted.size size list parted.was some has) exchanged
