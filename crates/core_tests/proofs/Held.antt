-- Blocks that stay used while others are taken and given back.
use Rattle.std.proofs.Common.{◌≡◌, ℕ, zero, suc, ◌<◌, ◌⊎◌, inl, inr, ⊎_elim, List, ◌∷◌, length, false, None, Some, refl, sym, ap, ◌∙◌, subst, arith}
use Rattle.std.specs.List.{Contains, slice_index_or}
use Rattle.std.specs.BTreeMap.{BTreeMap, get, is_at, Updates}
use Rattle.std.specs.Map.{lookup}
use Rattle.std.specs.Ordering.{nat_cmp}
use Rattle.std.specs.Cmp.{unsigned_tied}
use Rattle.std.proofs.lemmas.List.Elements.{Contains-append_left, Contains-append_right, Contains-append_cases}
use Rattle.std.proofs.lemmas.Bool.{cases_eq, ne_eqb}
use Rattle.std.proofs.lemmas.Option.{none-some}
use Rattle.block_heap.specs.declared.block.Block.{Block}
use Rattle.block_heap.specs.Blocks.{used_block, HasUsed, used_blocks}
use Rattle.block_heap.specs.Changes.{IsTaken, IsGiven}
use Rattle.block_heap.proofs.UsedBlocks.{AddsBlock, used_blocks-taken, used_blocks-given}

later : (x y : Block) (xs : List Block) → Contains xs y → Contains (x ∷ xs) y
later x y xs c = (suc c.0, (let within = c.1 in omega arith), c.2)

past_first : (x y : Block) (xs : List Block) → (x ≡ y → ⊥) → (k : ℕ) → k < length (x ∷ xs) → slice_index_or (x ∷ xs) k y ≡ y → Contains xs y
past_first x y xs differs zero within e = absurd (differs e)
past_first x y xs differs (suc k) within e = (k, omega arith, e)

more : (old new : List Block) (block other : Block) → AddsBlock old new block → Contains old other → Contains new other
more old new block other adds among =
    subst (λ bs. Contains bs other) (sym adds.now)
    (⊎_elim
    (λ c. Contains-append_left adds.before (block ∷ adds.after) other c)
    (λ c. Contains-append_right adds.before (block ∷ adds.after) other (later block other adds.after c))
    (Contains-append_cases adds.before adds.after other (subst (λ bs. Contains bs other) adds.was among)))

fewer : (old new : List Block) (block other : Block) → (block ≡ other → ⊥) → AddsBlock new old block → Contains old other → Contains new other
fewer old new block other differs adds among =
    subst (λ bs. Contains bs other) (sym adds.was)
    (⊎_elim
    (λ c. Contains-append_left adds.before adds.after other c)
    (λ c. Contains-append_right adds.before adds.after other (past_first block other adds.after differs c.0 c.1 c.2))
    (Contains-append_cases adds.before (block ∷ adds.after) other (subst (λ bs. Contains bs other) adds.now among)))

-- each place that has a size has a used block
abbrev pub AreHeld : List Block → BTreeMap ℕ ℕ → Type 0
AreHeld blocks sizes = (place size : ℕ) → get nat_cmp sizes place ≡ Some size → HasUsed blocks place

is_other : (place other : ℕ) → (other ≡ place → ⊥) → is_at (nat_cmp place) other ≡ false
is_other place other differs = unsigned_tied place other ∙ ne_eqb place other (λ e. differs (sym e))

-- a taken block is used
pub used_by_take : (old new : List Block) (place need : ℕ) → IsTaken old new place need → HasUsed new place
used_by_take old new place need taken =
    let adds = used_blocks-taken old new place need taken in
    let block = used_block place need in
    record {
      size = need;
      among = subst (λ bs. Contains bs block) (sym adds.now)
          (Contains-append_right adds.before (block ∷ adds.after) block (zero, omega arith, refl));
    }

-- taking leaves the used blocks
pub used_after_take : (old new : List Block) (place need other : ℕ) → IsTaken old new place need → HasUsed old other → HasUsed new other
used_after_take old new place need other taken used =
    record {
      size = used.size;
      among = more (used_blocks old) (used_blocks new) (used_block place need) (used_block other used.size)
          (used_blocks-taken old new place need taken) used.among;
    }

-- giving a block back leaves the other used ones
pub used_after_give : (old new : List Block) (place other : ℕ) → IsGiven old new place → (place ≡ other → ⊥) → HasUsed old other → HasUsed new other
used_after_give old new place other given differs used =
    record {
      size = used.size;
      among = fewer (used_blocks old) (used_blocks new) (used_block place given.size) (used_block other used.size)
          (λ same. differs (ap (λ b. b.place) same)) (used_blocks-given old new place given) used.among;
    }

-- a place that gets a size when it is taken, among those that have one
pub held_taken : (old new : List Block) (sizes now : BTreeMap ℕ ℕ) (place need : ℕ) → AreHeld old sizes → IsTaken old new place need → Updates nat_cmp sizes now place (Some need) → AreHeld new now
held_taken old new sizes now place need held taken updates other size is = by (cases_eq other place)
  where
    by : (other ≡ place) ⊎ (other ≡ place → ⊥) → HasUsed new other
    by (inl e) = subst (HasUsed new) (sym e) (used_by_take old new place need taken)
    by (inr ne) = used_after_take old new place need other taken (held other size (sym (updates.2 other (is_other place other ne)) ∙ is))

-- a block is taken for no place, and none gets a size
pub held_on : (old new : List Block) (sizes now : BTreeMap ℕ ℕ) (place need : ℕ) → AreHeld old sizes → IsTaken old new place need → now.entries ≡ sizes.entries → AreHeld new now
held_on old new sizes now place need held taken same other size is =
    used_after_take old new place need other taken (held other size (ap (lookup (is_at (nat_cmp other))) (sym same) ∙ is))

-- a place whose size goes when it is given back
pub held_given : (old new : List Block) (sizes now : BTreeMap ℕ ℕ) (place : ℕ) → AreHeld old sizes → IsGiven old new place → Updates nat_cmp sizes now place None → AreHeld new now
held_given old new sizes now place held given updates other size is = by (cases_eq other place)
  where
    by : (other ≡ place) ⊎ (other ≡ place → ⊥) → HasUsed new other
    by (inl e) = absurd (none-some size (sym updates.1 ∙ ap (get nat_cmp now) (sym e) ∙ is))
    by (inr ne) = used_after_give old new place other given (λ e. ne (sym e)) (held other size (sym (updates.2 other (is_other place other ne)) ∙ is))
