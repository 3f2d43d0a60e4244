-- Writes that give no value: a delete of a key that has an item, which gives its block back, and a write that has its events alone.
use Rattle.std.proofs.lemmas.Grind.{common_steps}
use Rattle.store_partition.proofs.Words.{Absent, AcceptedWrite, Allows, AreBytes, Block, ChangesChain}
use Rattle.store_partition.proofs.Words.{Contains, Del, Deleted, Has}
use Rattle.store_partition.proofs.Words.{HasNoSpot, HasUsed, Index, IsIndexOf, IsMain, IsPermutation}
use Rattle.store_partition.proofs.Words.{IsPermutation-refl, IsPermutation-remove, IsSome, IsUsed}
use Rattle.store_partition.proofs.Words.{GivesValue, HasValueOf, Keeps, Kept, KeyFits, IsSpotOf, List, MatchOption, None, Op, Option, Outcome, OwnerState, Some, Spells}
use Rattle.store_partition.proofs.Words.{Spot, Touch, Touched, Write, [], ap, arith, at, bucket_in}
use Rattle.store_partition.proofs.Words.{entries_of, entry_offset}
use Rattle.store_partition.proofs.Words.{get, is_accepted, item_in}
use Rattle.store_partition.proofs.Words.{length, list_remove}
use Rattle.store_partition.proofs.Words.{marked_in, marked_in_bucket, marked_item, place_in_chain, options_in}
use Rattle.store_partition.proofs.Words.{refl, room_of, room_same}
use Rattle.store_partition.proofs.Words.{spells_on, spot_entry, store_state, subst, subst₂, swap_remove, sym}
use Rattle.store_partition.proofs.Words.{true, used_block, used_blocks, words_of, write_of, written, ℕ}
use Rattle.store_partition.proofs.Words.{◌+◌, ◌<◌, ◌^◌, ◌∙◌, ◌∷◌, ◌≡◌}
use Rattle.store_partition.proofs.Lists.{Gave, Heap, heap_gives, heap_kept, nothing, single}
use Rattle.store_partition.proofs.Lists.{swap_moved}
use Rattle.store_partition.proofs.Cells.{left, none_left, one_or_none}
use Rattle.store_partition.proofs.Held.{AreOwn, Held, Known, Split, has_none, known, m, not_worn, split_none}
use Rattle.store_partition.proofs.Events.{Closes, Opens, accepts, main, marked_at, marked_base, may_open, now, number_in, number_is}
use Rattle.store_partition.proofs.Events.{finished, later, same_chain}
use Rattle.store_partition.proofs.Puts.{its_own}

-- Of a delete once the item's block is given back,
pub record DelKnown (o : OwnerState) (index : Index) (blocks : List Block) (w : Write) (b t : ℕ) (spot : Spot) (old : ℕ) : Type 0 where
  pub opens : Opens o w b t
  pub removes : (o2 : OwnerState) → o2 ≡ marked_in_bucket o b w t
      → record { index : IsIndexOf index o2; marked : marked_in o2.phase b ≡ 1; bucket : IsMain o2.shape b; spot : IsUsed o2 b spot }
  pub closes : (o2 o4 : OwnerState) (index' : Index) → o2 ≡ marked_in_bucket o b w t → Kept o4 → IsIndexOf index' o4
      → ChangesChain o2 o4 b (swap_remove (entries_of o2 b) (place_in_chain o2 b spot) 0) → Closes o w Deleted b t index' (Gave blocks old) o4
  pub small : old < 2 ^ 32
  pub gives : HasUsed blocks old

-- and of a write that has its events alone.
pub record MarkOnly (o : OwnerState) (index : Index) (blocks : List Block) (w : Write) (b t : ℕ) (outcome : Outcome) : Type 0 where
  pub opens : Opens o w b t
  pub closes : (o2 : OwnerState) → o2 ≡ marked_in_bucket o b w t → Closes o w outcome b t index (λ bs. bs ≡ blocks) o2

-- the reply to one that has its events alone, by the key's spot
abbrev pub reply_left : Option Spot → Outcome
reply_left None = Absent
reply_left (Some spot) = Touched

pub no_value : (op : Op) → ¬ (GivesValue op) → HasValueOf op []
no_value op other = grind (arith, common_steps)

module _ (h : Held) (key : List ℕ) (fits : KeyFits key) (bytes : AreBytes key) (unworn : length h.o.history < h.o.shape.wear)
    (n : ℕ) (counted : n ≡ length h.o.history) (b : ℕ) (here : b ≡ bucket_in h.o key) where
  abbrev kept_list : Heap h.o.shape.words h.blocks h.blocks [] [] [] (λ bs. bs ≡ h.blocks)
  kept_list = heap_kept h.o.shape.words h.blocks h.blocks [] [] h.parts.list (IsPermutation-refl (used_blocks h.blocks))

  module _ (op : Op) (other : ¬ (GivesValue op)) (outcome : Outcome) (accepted : is_accepted outcome ≡ true)
      (allowed : Allows (options_in h.o) (store_state (m h)) (write_of op key []) outcome) where
    abbrev d : AcceptedWrite h.o
    d = accepts h (write_of op key []) (record { key = fits; key_bytes = bytes; value = no_value op other; value_bytes = λ k. omega arith }) unworn n counted outcome accepted allowed

    -- leaves nothing of the key, where the machine has nothing of it then
    none_closes : get (later h d) key ≡ None → (o2 o4 : OwnerState) → o2 ≡ marked_in_bucket h.o b d.w d.t → (ys : List ℕ) → ChangesChain o2 o4 b ys → Kept o4 → (index : Index) → IsIndexOf index o4
        → (own rest : List ℕ) → Split h key b own rest → IsPermutation ys rest → (given : List Block) (Becomes : List Block → Type 0)
        → Heap h.o.shape.words h.blocks h.blocks [] [] given Becomes → AreOwn h key given
        → length own ≡ length given → room_of (get (m h).cells key) ≡ words_of given → Closes h.o d.w outcome b d.t index Becomes o4
    none_closes gone o2 o4 at ys change kept index known own rest split lists given Becomes heap freed count total =
        finished h d b here o2 o4 (marked_base h d b here o2 at) ys change kept index known h.blocks Becomes (λ words change kept. record {
          own = own;
          rest = rest;
          news = [];
          taken = [];
          lost = [];
          given = given;
          split = split;
          lists = lists;
          few = omega arith;
          long = sym (ap one_or_none gone);
          spells = λ x has. nothing x has;
          heap = heap;
          housed = λ x has. nothing x has;
          parted = λ y gone. nothing y gone;
          freed = freed;
          apart = λ y gone x has. nothing x has;
          count = omega (arith, count);
          total = let none = ap room_of gone in omega (arith, total);
        })

    -- leaves the key's item, where the machine has of it what it had
    module _ (spot : Spot) (k : Known h key b spot) (has : get (later h d) key ≡ Some k.cell) (o2 : OwnerState) (at : o2 ≡ marked_in_bucket h.o b d.w d.t) where
      abbrev e : ℕ
      e = spot_entry h.o spot

      abbrev beside : List ℕ
      beside = list_remove (entries_of h.o b) k.among.0

      moved : IsPermutation (entries_of h.o b) (e ∷ beside)
      moved = IsPermutation-remove (entries_of h.o b) k.among.0 e k.among.1 (sym k.among.2)

      own_words : (words : List ℕ) → ChangesChain o2 (written h.o d words) b (entries_of o2 b) → Keeps h.o d words e
      own_words words change i less =
          change.rest.items (entry_offset e + i) ∙ (ap (λ (z : OwnerState). item_in z (entry_offset e + i)) (marked_at h d b here o2 at) ∙ marked_item h.o d (entry_offset e + i))

      pub item_closes : Closes h.o d.w outcome b d.t h.index (λ bs. bs ≡ h.blocks) o2
      item_closes =
          let z = marked_base h d b here o2 at in
          finished h d b here o2 o2 z (entries_of o2 b) (same_chain o2 b) z.kept h.index z.index h.blocks (λ bs. bs ≡ h.blocks) (λ words change kept. record {
            own = e ∷ [];
            rest = beside;
            news = e ∷ [];
            taken = [];
            lost = [];
            given = [];
            split = k.split beside moved;
            lists = subst (λ xs. IsPermutation xs (e ∷ beside)) (sym (z.entries b (main h d b here))) moved;
            few = omega arith;
            long = sym (ap one_or_none has);
            spells = λ x new. (
              k.cell,
              subst (λ y. Spells (written h.o d words) b y key k.cell) (single e x new)
                  (spells_on h.o d words b e (own_words words change) key k.cell (subst (λ s. Has s key k.cell (entry_offset e)) (sym (now h d words)) has) k.spells),
            );
            heap = kept_list;
            housed = λ x new.
                grind (arith, common_steps, written h.o d words, single e x new, new, room_same h.o d words e (own_words words change) (let some = k.some in let same = k.room in omega arith), own_words words change);
            parted = λ y gone. nothing y gone;
            freed = λ y gone. nothing y gone;
            apart = λ y gone. nothing y gone;
            count = refl;
            total = let same = ap room_of (k.has ∙ sym has) in omega (arith, same);
          })

  pub known_gone : (spot : Spot) → Known h key b spot → (old : ℕ) → old ≡ entry_offset (spot_entry h.o spot) → DelKnown h.o h.index h.blocks (write_of Del key []) b (n + 1) spot old
  known_gone spot k old old_is =
      let none : ¬ (GivesValue Del) = λ gives. gives in
      let allowed : Allows (options_in h.o) (store_state (m h)) (write_of Del key []) Deleted = (not_worn h unworn, (refl, subst IsSome (sym k.has) refl)) in
      let a = d Del none Deleted refl allowed in
      let its = subst₂ (λ p n. Contains (used_blocks h.blocks) (used_block p n)) (sym old_is) k.room k.block in record {
        opens = may_open h a b here;
        removes = λ o2 events.
            let z = marked_base h a b here o2 events in
            record { index = z.index; marked = z.bit; bucket = z.mains b (main h a b here); spot = (z.spots spot k.found.used).0 };
        closes = λ o2 o4 index events kept known change.
            let z = marked_base h a b here o2 events in
            let xs = entries_of o2 b in
            let i = place_in_chain o2 b spot in
            let e = spot_entry h.o spot in
            let rest = swap_remove xs i 0 in
            let moved = swap_moved xs i e (number_in h a b here o2 z spot k.found.used) (number_is h a b here o2 z spot k.found.used) in
            none_closes Del none Deleted refl allowed (left (m h) a.w) o2 o4 events rest change kept index known (e ∷ []) rest
            (k.split rest (subst (λ ys. IsPermutation ys (e ∷ rest)) (z.entries b (main h a b here)) moved)) (IsPermutation-refl rest)
            (used_block old k.cell.room ∷ []) (Gave h.blocks old)
            (heap_gives h.o.shape.words h.blocks h.blocks [] [] h.parts.list (IsPermutation-refl (used_blocks h.blocks)) old k.cell.room k.some its)
            (its_own h key b spot k old k.cell.room old_is) refl (let had = ap room_of k.has in omega arith);
        small = let low = k.small in omega (arith, old_is);
        gives = record { size = k.cell.room; among = its };
      }

  -- a touch or a delete of a key that has none, and a touch of one that has an item

  pub absent : (op : Op) → ¬ (GivesValue op) → HasNoSpot h.o b key → MarkOnly h.o h.index h.blocks (write_of op key []) b (n + 1) Absent
  absent op other none =
      let allowed : Allows (options_in h.o) (store_state (m h)) (write_of op key []) Absent = (not_worn h unworn, (other, has_none h key b here none)) in
      let a = d op other Absent refl allowed in record {
        opens = may_open h a b here;
        closes = λ o2 events.
            let z = marked_base h a b here o2 events in
            none_closes op other Absent refl allowed (left (m h) a.w ∙ none_left op (m h) a.w other (has_none h key b here none)) o2 o2 events (entries_of o2 b) (same_chain o2 b) z.kept h.index z.index
            [] (entries_of h.o b) (split_none h key b here none)
            (subst (λ ys. IsPermutation ys (entries_of h.o b)) (sym (z.entries b (main h a b here))) (IsPermutation-refl (entries_of h.o b)))
            [] (λ bs. bs ≡ h.blocks) kept_list (λ y gone. nothing y gone) refl (ap room_of (has_none h key b here none));
      }

  pub touched : (spot : Spot) → Known h key b spot → MarkOnly h.o h.index h.blocks (write_of Touch key []) b (n + 1) Touched
  touched spot k =
      let none : ¬ (GivesValue Touch) = λ gives. gives in
      let allowed : Allows (options_in h.o) (store_state (m h)) (write_of Touch key []) Touched = (not_worn h unworn, (refl, subst IsSome (sym k.has) refl)) in
      let a = d Touch none Touched refl allowed in record {
        opens = may_open h a b here;
        closes = item_closes Touch none Touched refl allowed spot k (left (m h) a.w ∙ k.has);
      }

  -- by whether the key has one
  pub marks_only : (op : Op) (spot : Option Spot) → MatchOption spot (¬ (GivesValue op)) (λ found. op ≡ Touch)
      → MatchOption spot (HasNoSpot h.o b key) (IsSpotOf h.o b key) → MarkOnly h.o h.index h.blocks (write_of op key []) b (n + 1) (reply_left spot)
  marks_only op None other none = absent op other none
  marks_only op (Some spot) is found = grind (arith, common_steps, touched spot (known h key b here bytes spot found), known h key b here bytes spot found)
