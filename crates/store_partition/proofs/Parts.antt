-- The parts of a partition: what is only said to hold of them holds, those over words as made, and those of an owner that has met a reader.
use Rattle.std.proofs.lemmas.Grind.{common_steps}
use Rattle.partition_model.specs.Store as store
use Rattle.chained_index.specs.ChainEntries.{buckets_from, buckets_of, entries_in, entries_of}
use Rattle.store_partition.proofs.Words.{AreParts, Block, Bool, CacheMode, Cell, Contains, Decides, Decides-eqb, Has, Index}
use Rattle.store_partition.proofs.Words.{IsIndexOf, IsMain, IsPossibleShape, Kept, List, Met, Mode, OwnerState, Shape, StoreMode, [], ap}
use Rattle.store_partition.proofs.Words.{arith, as_made, cells_of, chained, cond, dense_on, dite, empty, entry_offset, flat_map, free_block}
use Rattle.store_partition.proofs.Words.{get-empty, if◌then◌else◌, is_member-Decides, kept_as_made, keys_in, len, len-empty, length, link_in, listed}
use Rattle.store_partition.proofs.Words.{nat_cmp, no_keys, no_rooms, not, props, refl, room_in, rooms, slice_cmp, slice_index, start, subst, suc, sym}
use Rattle.store_partition.proofs.Words.{used_block, used_blocks, zero, ℕ, ℕ_discrete, ∥∥₁_elim, ◌&&◌, ◌<◌, ◌==◌, ◌∙◌, ◌∷◌, ◌≡◌}
use Rattle.store_partition.proofs.Words.{AreBytes, IsOwnerStep, Some, Spot, Write, coalesced_once, fills_once, worn_step, ◌≤◌}
use Rattle.store_partition.proofs.Held.{Held, Known, known}
use Rattle.partition_model.specs.declared.write.Outcome.TheVariants.{Worn}
use Rattle.store_partition.specs.Sought.{IsSought}

-- What is only said to hold of the parts holds of them, since each fact has one proof or can be found

-- what a list is said to contain it does, where a test tells its elements apart
found : {X : Type 0} (same : X → X → Bool) → ((x y : X) → Decides (same x y) (x ≡ y)) → (xs : List X) (x : X) → ∥ Contains xs x ∥₁ → Contains xs x
found same tells xs x has = let is = is_member-Decides tells xs x in is.0 (∥∥₁_elim has (hlevel props) (λ at. is.1 at))

same_block : Block → Block → Bool
same_block x y = (x.place == y.place) && ((x.size == y.size) && cond x.used y.used (not y.used))

block_tells : (x y : Block) → Decides (same_block x y) (x ≡ y)
unfolding same_block
block_tells x y = grind (arith, common_steps)

pub whole : {index : Index} {blocks : List Block} {o : OwnerState} → ∥ AreParts index blocks o ∥₁ → AreParts index blocks o
whole {index} {blocks} {o} has = record {
  mode = ∥∥₁_elim has (hlevel props) (λ p. p.mode);
  idle = ∥∥₁_elim has (hlevel props) (λ p. p.idle);
  known = record {
    shape = ∥∥₁_elim has (hlevel props) (λ p. p.known.shape);
    dense = ∥∥₁_elim has (hlevel props) (λ p. p.known.dense);
    free = λ c. (
      (λ among. ∥∥₁_elim has (hlevel props) (λ p. (p.known.free c).0 among)),
      λ f. found (λ x y. x == y) Decides-eqb index.free c (∥∥₁_elim has (hlevel props) (λ p. ∣ (p.known.free c).1 f ∣₁)),
    );
    once = ∥∥₁_elim has (hlevel props) (λ p. p.known.once);
    blank = ∥∥₁_elim has (hlevel props) (λ p. p.known.blank);
  };
  entries = ∥∥₁_elim has (hlevel props) (λ p. p.entries);
  list = record {
    fills = ∥∥₁_elim has (fills_once 0 o.shape.words blocks) (λ p. p.list.fills);
    merged = ∥∥₁_elim has (coalesced_once blocks) (λ p. p.list.merged);
  };
  used = λ b l i less. found same_block block_tells (used_blocks blocks) _
      (∥∥₁_elim has (hlevel props) (λ p. ∣ p.used b l i less ∣₁));
  count = ∥∥₁_elim has (hlevel props) (λ p. p.count);
  words = ∥∥₁_elim has (hlevel props) (λ p. p.words);
}

module _ {o : OwnerState} {index : Index} {blocks : List Block} where
  abbrev pub held : Kept o → ∥ AreParts index blocks o ∥₁ → Held
  held kept parts = record { o = o; kept = kept; index = index; blocks = blocks; parts = whole parts }

  -- a key that was sought has an entry
  pub known_at : (kept : Kept o) (parts : ∥ AreParts index blocks o ∥₁) {key : List ℕ} {b : ℕ} {spot : Spot} → IsSought o key b (Some spot) → AreBytes key → Known (held kept parts) key b spot
  known_at kept parts {key} {b} {spot} sought bytes = known (held kept parts) key b sought.bucket bytes spot sought.found

  pub worn : ∥ AreParts index blocks o ∥₁ → o.shape.wear ≤ length o.history → (w : Write) → IsOwnerStep o o w Worn
  worn parts reached w = worn_step o (whole parts).idle reached w

-- The parts of a partition over words as made

cells_start : (mode : Mode) → cells_of (start mode) ≡ empty
unfolding store.start
cells_start CacheMode = refl
cells_start StoreMode = refl

nothing_at_start : (mode : Mode) → mode ≡ StoreMode → (key : List ℕ) (cell : Cell) (q : ℕ) → Has (start mode) key cell q → ⊥
unfolding store.start
nothing_at_start CacheMode is key cell q h = cc is
nothing_at_start StoreMode is key cell q h = let none = get-empty {X = Cell} (slice_cmp nat_cmp) key in cc (sym none ∙ h)

module _ (shape : Shape) (valid : IsPossibleShape shape) (mode : shape.mode ≡ StoreMode) (index : Index) (known : IsIndexOf index (as_made shape)) where
  no_entry : (b : ℕ) → IsMain shape b → length (entries_of (as_made shape) b) ≡ 0
  no_entry b l = dite (ℕ_discrete (length (entries_of (as_made shape) b)) 0) (λ none. none) (λ some.
      let kept = kept_as_made shape valid in
      let list = listed (as_made shape) (chained (as_made shape) kept) mode index known b l (kept.state b l refl) in
      let first = list.nothing_else 0 (omega arith) in
      absurd (nothing_at_start shape.mode mode first.0 first.1 _ first.2.has))

  pub fresh : AreParts index (free_block 0 shape.words ∷ []) (as_made shape)
  fresh = record {
    mode = mode;
    idle = refl;
    known = known;
    entries = λ b l. no_entry b l ∙ (sym (no_keys shape.hashing shape.buckets b) ∙ ap (keys_in shape.hashing shape.buckets b) (sym (cells_start shape.mode)));
    list = record { fills = (refl, (let range = valid.ranges.words in omega arith), omega arith); merged = (λ both. both.1, tt) };
    used = λ b l i less. absurd (let none = no_entry b l in omega arith);
    count = sym (len-empty (slice_cmp nat_cmp) Cell) ∙ ap len (sym (cells_start shape.mode));
    words = sym no_rooms ∙ ap rooms (sym (cells_start shape.mode));
  }

-- What an owner has met changes nothing of how the index and the heap go with its words

module _ (o : OwnerState) (met : Met) (closed : ℕ) where
  abbrev p : OwnerState
  p = record o { met = met; closed = closed }

  buckets_same : (n b : ℕ) → buckets_from p n b ≡ buckets_from o n b
  unfolding buckets_from
  buckets_same zero b = refl
  buckets_same (suc n) b = ap (λ z. b ∷ (if link_in o b == 0 then [] else z)) (buckets_same n (link_in o b))

  entries_same : (b : ℕ) → entries_of p b ≡ entries_of o b
  unfolding entries_of buckets_of entries_in
  entries_same b = ap (flat_map (entries_in o)) (buckets_same (suc o.shape.spares) b)

  pub parts_met : (index : Index) (blocks : List Block) → AreParts index blocks o → AreParts index blocks p
  parts_met index blocks k = record {
    mode = k.mode;
    idle = k.idle;
    known = record {
      shape = k.known.shape;
      dense = λ b main. dense_on o met closed b (k.known.dense b main);
      free = λ c. (λ has. assumption ((k.known.free c).0 has), λ f. (k.known.free c).1 (assumption));
      once = k.known.once;
      blank = λ c f. assumption (k.known.blank c (assumption));
    };
    entries = λ b main. ap (length {A = ℕ}) (entries_same b) ∙ k.entries b main;
    list = k.list;
    used = λ b main.
        subst (λ z. (i : ℕ) → i < length z → Contains (used_blocks blocks) (used_block (entry_offset (slice_index z i)) (room_in o (slice_index z i))))
        (sym (entries_same b)) (k.used b main);
    count = k.count;
    words = k.words;
  }
