-- The lists of slots against the free blocks.
use Rattle.std.proofs.Common.{◌≡◌, ◌≢◌, ℕ, zero, suc, ◌+◌, ◌<◌, ◌≤◌, ◌⊎◌, inl, inr, Bool, true, false, cond, eqb, List, [], ◌∷◌, ◌++◌, length, refl, sym, ap, ◌∙◌, subst, arith}
use Rattle.std.specs.List.{Contains, sum_by}
use Rattle.std.proofs.lemmas.List.Sums.{sum_by-cons, sum_by-append, sum_by_push}
use Rattle.std.proofs.lemmas.List.Elements.{Contains-append_cases, Contains-append_left, Contains-append_right}
use Rattle.std.proofs.lemmas.Bool.{cases_eq, eq-eqb, ne_eqb}
use Rattle.block_heap.specs.Ranks.{rank_of}
use Rattle.block_heap.proofs.Ranking.{few_ranks}
use Rattle.block_heap.specs.declared.block.Block.{Block}
use Rattle.block_heap.specs.Blocks.{Fills, IsFree, free_sizes, words_of}
use Rattle.block_heap.specs.Lists.{Lists, list_of, place_in, count_of, count_in, AreListed, IsListed, IsWithout}
use Rattle.block_heap.specs.Tags.{slot_of}
use Rattle.block_heap.proofs.Counting.{frees-append, free_more, free_same}
use Rattle.block_heap.proofs.Order.{words_of-cons, words_of-fills}
use Rattle.block_heap.proofs.Places.{parted}

-- what a block counts in a list
pub used_counts : (rank : ℕ) (weight : ℕ → ℕ) (tags : List ℕ) (block : Block) → block.used ≡ true → count_in rank weight tags block ≡ 0
used_counts rank weight tags block used = ap (λ u. cond u 0 (cond (eqb (rank_of block.size) rank) (weight (slot_of tags block)) 0)) used

pub free_counts : (rank : ℕ) (weight : ℕ → ℕ) (tags : List ℕ) (block : Block) → IsFree block → rank_of block.size ≡ rank → count_in rank weight tags block ≡ weight (slot_of tags block)
free_counts rank weight tags block free is =
    ap (λ u. cond u 0 (cond (eqb (rank_of block.size) rank) (weight (slot_of tags block)) 0)) free ∙ ap (λ t. cond t (weight (slot_of tags block)) 0) (eq-eqb (rank_of block.size) rank is)

pub other_counts : (rank : ℕ) (weight : ℕ → ℕ) (tags : List ℕ) (block : Block) → rank_of block.size ≢ rank → count_in rank weight tags block ≡ 0
other_counts rank weight tags block other = by block.used
  where
    none : cond (eqb (rank_of block.size) rank) (weight (slot_of tags block)) 0 ≡ 0
    none = ap (λ t. cond t (weight (slot_of tags block)) 0) (ne_eqb (rank_of block.size) rank other)

    by : (u : Bool) → cond u 0 (cond (eqb (rank_of block.size) rank) (weight (slot_of tags block)) 0) ≡ 0
    by true = refl
    by false = none

-- what all but one count, and this one
one_of_all : (rank : ℕ) (weight : ℕ → ℕ) (tags : List ℕ) (before after : List Block) (block : Block)
    → sum_by (count_in rank weight tags) (before ++ block ∷ after) ≡ sum_by (count_in rank weight tags) (before ++ after) + count_in rank weight tags block
one_of_all rank weight tags before after block =
    let count = count_in rank weight tags in omega (arith, sum_by-append count before (block ∷ after), sum_by-cons count block after, sum_by-append count before after)

-- a block among some is among these and one more
pub beside : (before after : List Block) (block other : Block) → Contains (before ++ after) other → Contains (before ++ block ∷ after) other
beside before after block other among = by (Contains-append_cases before after other among)
  where
    by : Contains before other ⊎ Contains after other → Contains (before ++ block ∷ after) other
    by (inl first) = Contains-append_left before (block ∷ after) other first
    by (inr (k, lt, is)) = Contains-append_right before (block ∷ after) other (suc k, omega arith, is)

-- a block among some and one more is this one or among the others
apart : (before after : List Block) (block other : Block) → Contains (before ++ block ∷ after) other → (block ≡ other) ⊎ Contains (before ++ after) other
apart before after block other among = by (Contains-append_cases before (block ∷ after) other among)
  where
    by : Contains before other ⊎ Contains (block ∷ after) other → (block ≡ other) ⊎ Contains (before ++ after) other
    by (inl first) = inr (Contains-append_left before after other first)
    by (inr (zero, lt, is)) = inl is
    by (inr (suc k, lt, is)) = inr (Contains-append_right before after other (k, omega arith, is))

-- slots are told as they were
pub listed_slots : (lists : Lists) (tags new : List ℕ) (blocks : List Block) → ((block : Block) → Contains blocks block → slot_of new block ≡ slot_of tags block) → AreListed lists tags blocks → AreListed lists new blocks
listed_slots lists tags new blocks same listed = record {
  sums = λ rank few weight. listed.sums rank few weight ∙ sums rank weight blocks same;
  places = λ block among free. ap (place_in lists) (same block among) ∙ listed.places block among free;
  count = listed.count;
}
  where
    sums : (rank : ℕ) (weight : ℕ → ℕ) (some : List Block) → ((block : Block) → Contains some block → slot_of new block ≡ slot_of tags block) → sum_by (count_in rank weight tags) some ≡ sum_by (count_in rank weight new) some
    sums rank weight [] is = refl
    sums rank weight (block ∷ some) is =
        let own : count_in rank weight new block ≡ count_in rank weight tags block = ap (λ s. cond block.used 0 (cond (eqb (rank_of block.size) rank) (weight s) 0)) (is block (0, omega arith, refl)) in
        let rest = sums rank weight some (λ b among. is b (suc among.0, (let lt = among.1 in omega arith), among.2)) in
        omega (arith, sum_by-cons (count_in rank weight tags) block some, sum_by-cons (count_in rank weight new) block some, own, rest)

-- what counts one slot alone
abbrev at : ℕ → ℕ → ℕ
at slot other = cond (eqb other slot) 1 0

at_own : (slot : ℕ) → at slot slot ≡ 1
at_own slot = ap (λ t. cond t 1 0) (eq-eqb slot slot refl)

at_other : (slot other : ℕ) → other ≢ slot → at slot other ≡ 0
at_other slot other ne = ap (λ t. cond t 1 0) (ne_eqb other slot ne)

-- a slot that a list counts is in it
counted : (xs : List ℕ) (slot : ℕ) → 0 < sum_by (at slot) xs → Contains xs slot
counted [] slot some = absurd (omega arith)
counted (x ∷ xs) slot some = by (cases_eq x slot) (counted xs slot)
  where
    by : (x ≡ slot) ⊎ (x ≡ slot → ⊥) → (0 < sum_by (at slot) xs → Contains xs slot) → Contains (x ∷ xs) slot
    by (inl e) later = (0, omega arith, e)
    by (inr ne) later = (let rest = later (omega (arith, sum_by-cons (at slot) x xs, at_other slot x ne)) in (suc rest.0, (let lt = rest.1 in omega arith), rest.2))

-- a free block's slot is listed
pub slot_listed : (lists : Lists) (tags : List ℕ) (blocks : List Block) (block : Block) (rank : ℕ) → rank < 1152 → rank_of block.size ≡ rank → AreListed lists tags blocks → Contains blocks block → IsFree block
    → Contains (list_of lists rank) (slot_of tags block)
slot_listed lists tags blocks block rank few is listed among free =
    let slot = slot_of tags block in
    let parts = parted blocks block among in
    counted (list_of lists rank) slot
    (omega (arith, listed.sums rank few (at slot), ap (sum_by (count_in rank (at slot) tags)) parts.2, one_of_all rank (at slot) tags parts.0 parts.1 block, free_counts rank (at slot) tags block free is, at_own slot))

-- and no list is empty that has one
pub list_filled : (lists : Lists) (tags : List ℕ) (blocks : List Block) (block : Block) (rank : ℕ) → rank < 1152 → rank_of block.size ≡ rank → AreListed lists tags blocks → Contains blocks block → IsFree block → 0 < length (list_of lists rank)
list_filled lists tags blocks block rank few is listed among free = (let slot = slot_listed lists tags blocks block rank few is listed among free in let lt = slot.1 in omega arith)

-- a free block of a rank, which has a slot
pub record HasFree (blocks : List Block) (tags : List ℕ) (rank slot : ℕ) : Type 0 where
  pub block : Block
  pub among : Contains blocks block
  pub free : IsFree block
  pub is : rank_of block.size ≡ rank
  pub here : slot_of tags block ≡ slot

found : (tags : List ℕ) (blocks : List Block) (rank slot : ℕ) → 0 < sum_by (count_in rank (at slot) tags) blocks → HasFree blocks tags rank slot
found tags [] rank slot some = absurd (omega arith)
found tags (block ∷ blocks) rank slot some = by (found tags blocks rank slot) block.used refl (cases_eq (rank_of block.size) rank) (cases_eq (slot_of tags block) slot)
  where
    later : (0 < sum_by (count_in rank (at slot) tags) blocks → HasFree blocks tags rank slot) → count_in rank (at slot) tags block ≡ 0 → HasFree (block ∷ blocks) tags rank slot
    later more none =
        let rest = more (omega (arith, sum_by-cons (count_in rank (at slot) tags) block blocks)) in
        record { block = rest.block; among = (suc rest.among.0, (let lt = rest.among.1 in omega arith), rest.among.2); free = rest.free; is = rest.is; here = rest.here }

    by : (0 < sum_by (count_in rank (at slot) tags) blocks → HasFree blocks tags rank slot) → (u : Bool) → block.used ≡ u → (rank_of block.size ≡ rank) ⊎ (rank_of block.size ≡ rank → ⊥)
        → (slot_of tags block ≡ slot) ⊎ (slot_of tags block ≡ slot → ⊥) → HasFree (block ∷ blocks) tags rank slot
    by more true used _ _ = later more (used_counts rank (at slot) tags block used)
    by more false free (inr other) _ = later more (other_counts rank (at slot) tags block other)
    by more false free (inl is) (inr ne) = later more (free_counts rank (at slot) tags block free is ∙ at_other slot (slot_of tags block) ne)
    by more false free (inl is) (inl here) = record { block = block; among = (0, omega arith, refl); free = free; is = is; here = here }

-- a listed slot is a free block's of its rank
pub block_listed : (lists : Lists) (tags : List ℕ) (blocks : List Block) (rank slot : ℕ) → rank < 1152 → AreListed lists tags blocks → Contains (list_of lists rank) slot → HasFree blocks tags rank slot
block_listed lists tags blocks rank slot few listed among =
    let parts = parted (list_of lists rank) slot among in
    found tags blocks rank slot
    (omega (arith, ap (sum_by (at slot)) parts.2, sum_by-append (at slot) parts.0 (slot ∷ parts.1), sum_by-cons (at slot) slot parts.1, at_own slot, listed.sums rank few (at slot)))

-- how many free blocks there are beside one
pub frees_beside : (before after : List Block) (block : Block) → IsFree block → length (free_sizes (before ++ block ∷ after)) ≡ length (free_sizes (before ++ after)) + 1
frees_beside before after block free = omega (arith, frees-append before (block ∷ after), frees-append before after, ap length (free_more block after free))

-- some slot is in a list where a block is free
pub some_listed : (lists : Lists) (tags : List ℕ) (blocks : List Block) (block : Block) → AreListed lists tags blocks → Contains blocks block → IsFree block → 0 < count_of lists
some_listed lists tags blocks block listed among free =
    let parts = parted blocks block among in
    omega (arith, listed.count, ap (λ bs. length (free_sizes bs)) parts.2, frees_beside parts.0 parts.1 block free)

-- A slot was added for a free block, whose tags have it.
module _ (lists new : Lists) (tags told : List ℕ) (before after : List Block) (block : Block) (free : IsFree block)
    (added : list_of new (rank_of block.size) ≡ list_of lists (rank_of block.size) ++ slot_of told block ∷ [])
    (others : (other : ℕ) → other < 1152 → other ≢ rank_of block.size → list_of new other ≡ list_of lists other)
    (same : (b : Block) → Contains (before ++ after) b → slot_of told b ≡ slot_of tags b)
    (here : place_in new (slot_of told block) ≡ block.place) (stay : (slot : ℕ) → IsListed (list_of lists) slot → place_in new slot ≡ place_in lists slot) (count : count_of new ≡ count_of lists + 1) where
  pub listed_added : AreListed lists tags (before ++ after) → AreListed new told (before ++ block ∷ after)
  listed_added was = record {
    sums = λ rank less weight. sums rank less weight (cases_eq rank (rank_of block.size));
    places = λ b among is. places b is (apart before after block b among);
    count = omega (arith, count, was.count, frees_beside before after block free);
  }
    where
      listed : AreListed lists told (before ++ after)
      listed = listed_slots lists tags told (before ++ after) same was

      sums : (rank : ℕ) → rank < 1152 → (weight : ℕ → ℕ) → (rank ≡ rank_of block.size) ⊎ (rank ≡ rank_of block.size → ⊥) → sum_by weight (list_of new rank) ≡ sum_by (count_in rank weight told) (before ++ block ∷ after)
      sums rank less weight (inl e) =
          let list : sum_by weight (list_of new rank) ≡ sum_by weight (list_of lists rank) + weight (slot_of told block) =
          ap (λ c. sum_by weight (list_of new c)) e ∙ ap (sum_by weight) added ∙ sum_by_push weight (list_of lists (rank_of block.size)) (slot_of told block) ∙ ap (λ c. sum_by weight (list_of lists c) + weight (slot_of told block)) (sym e) in
          omega (arith, one_of_all rank weight told before after block, free_counts rank weight told block free (sym e), list, listed.sums rank less weight)
      sums rank less weight (inr ne) =
          omega (arith, one_of_all rank weight told before after block, other_counts rank weight told block (λ e. ne (sym e)), ap (sum_by weight) (others rank less ne), listed.sums rank less weight)

      places : (b : Block) → IsFree b → (block ≡ b) ⊎ Contains (before ++ after) b → place_in new (slot_of told b) ≡ b.place
      places b is (inl own) = subst (λ (x : Block). place_in new (slot_of told x) ≡ x.place) own here
      places b is (inr among) =
          let rank = rank_of b.size in
          let few = few_ranks b.size in
          stay (slot_of told b) (record { rank = rank; few = few; among = slot_listed lists told (before ++ after) b rank few refl listed among is }) ∙ listed.places b among is

-- A free block's slot has left its list.
module _ (lists new : Lists) (tags : List ℕ) (before after : List Block) (block : Block) (free : IsFree block)
    (removed : IsWithout (list_of lists (rank_of block.size)) (list_of new (rank_of block.size)) (slot_of tags block))
    (others : (other : ℕ) → other < 1152 → other ≢ rank_of block.size → list_of new other ≡ list_of lists other)
    (stay : (slot : ℕ) → place_in new slot ≡ place_in lists slot) (count : count_of new + 1 ≡ count_of lists) where
  pub listed_removed : AreListed lists tags (before ++ block ∷ after) → AreListed new tags (before ++ after)
  listed_removed listed = record {
    sums = λ rank less weight. sums rank less weight (cases_eq rank (rank_of block.size));
    places = λ b among is. stay (slot_of tags b) ∙ listed.places b (beside before after block b among) is;
    count = omega (arith, count, listed.count, frees_beside before after block free);
  }
    where
      sums : (rank : ℕ) → rank < 1152 → (weight : ℕ → ℕ) → (rank ≡ rank_of block.size) ⊎ (rank ≡ rank_of block.size → ⊥) → sum_by weight (list_of new rank) ≡ sum_by (count_in rank weight tags) (before ++ after)
      sums rank less weight (inl e) =
          let slot = slot_of tags block in
          let new_list : sum_by weight (list_of new rank) ≡ sum_by weight (removed.before ++ removed.after) = ap (λ c. sum_by weight (list_of new c)) e ∙ ap (sum_by weight) removed.now in
          let old_list : sum_by weight (list_of lists rank) ≡ sum_by weight (removed.before ++ slot ∷ removed.after) = ap (λ c. sum_by weight (list_of lists c)) e ∙ ap (sum_by weight) removed.was in
          omega (
            arith,
            one_of_all rank weight tags before after block,
            free_counts rank weight tags block free (sym e),
            new_list,
            old_list,
            sum_by-append weight removed.before (slot ∷ removed.after),
            sum_by-cons weight slot removed.after,
            sum_by-append weight removed.before removed.after,
            listed.sums rank less weight,
          )
      sums rank less weight (inr ne) =
          omega (arith, one_of_all rank weight tags before after block, other_counts rank weight tags block (λ e. ne (sym e)), ap (sum_by weight) (others rank less ne), listed.sums rank less weight)

-- a used block changes no list
pub listed_beside : (lists : Lists) (tags : List ℕ) (before after : List Block) (block : Block) → block.used ≡ true → AreListed lists tags (before ++ after) → AreListed lists tags (before ++ block ∷ after)
listed_beside lists tags before after block used listed = record {
  sums = λ rank few weight. omega (arith, one_of_all rank weight tags before after block, used_counts rank weight tags block used, listed.sums rank few weight);
  places = λ b among free. places b free (apart before after block b among);
  count = omega (arith, listed.count, frees-append before (block ∷ after), frees-append before after, ap length (free_same block after used));
}
  where
    places : (b : Block) → IsFree b → (block ≡ b) ⊎ Contains (before ++ after) b → place_in lists (slot_of tags b) ≡ b.place
    places b free (inl own) = absurd (let also = ap (λ (x : Block). x.used) own in cc)
    places b free (inr among) = listed.places b among free

pub listed_without : (lists : Lists) (tags : List ℕ) (before after : List Block) (block : Block) → block.used ≡ true → AreListed lists tags (before ++ block ∷ after) → AreListed lists tags (before ++ after)
listed_without lists tags before after block used listed = record {
  sums = λ rank few weight. omega (arith, one_of_all rank weight tags before after block, used_counts rank weight tags block used, listed.sums rank few weight);
  places = λ b among free. listed.places b (beside before after block b among) free;
  count = omega (arith, listed.count, frees-append before (block ∷ after), frees-append before after, ap length (free_same block after used));
}

-- how many free blocks of a rank there are
abbrev number : ℕ → List ℕ → List Block → ℕ
number rank tags blocks = sum_by (count_in rank (λ _. 1) tags) blocks

-- no more than words
number-le : (rank from end : ℕ) (tags : List ℕ) (blocks : List Block) → Fills from blocks end → number rank tags blocks ≤ words_of blocks
number-le rank from end tags [] fills = omega arith
number-le rank from end tags (block ∷ blocks) fills =
    let some = fills.1 in
    omega (arith, number-le rank (from + block.size) end tags blocks fills.2, one block.used (eqb (rank_of block.size) rank), sum_by-cons (count_in rank (λ _. 1) tags) block blocks, words_of-cons block blocks)
  where
    one : (u t : Bool) → cond u 0 (cond t 1 0) ≤ 1
    one true t = omega arith
    one false true = omega arith
    one false false = omega arith

-- one block more may be listed
pub may_lie : (lists : Lists) (tags : List ℕ) (before after : List Block) (block : Block) (words : ℕ) → rank_of block.size < 1152 → IsFree block → Fills 0 (before ++ block ∷ after) words → AreListed lists tags (before ++ after)
    → length (list_of lists (rank_of block.size)) < words
may_lie lists tags before after block words few free fills listed =
    let rank = rank_of block.size in
    omega (
      arith,
      number-le rank 0 words tags (before ++ block ∷ after) fills,
      words_of-fills 0 words (before ++ block ∷ after) fills,
      one_of_all rank (λ _. 1) tags before after block,
      free_counts rank (λ _. 1) tags block free refl,
      listed.sums rank few (λ _. 1),
      ones_length (list_of lists rank),
    )
  where
    ones_length : (xs : List ℕ) → sum_by (λ _. 1) xs ≡ length xs
    ones_length [] = refl
    ones_length (x ∷ xs) = omega (arith, sum_by-cons (λ (_ : ℕ). 1) x xs, ones_length xs)
