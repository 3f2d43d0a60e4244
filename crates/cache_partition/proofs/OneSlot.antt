-- Where a write changes one slot of its bucket, the words stand for the machine's state after it.
use Rattle.partition_model.specs.CacheStep as cs
use Rattle.cache_partition.proofs.Words.{AcceptedWrite, Cache, Cell, GivesWay, Has, HasLiveEntry, HasNoSlot, HoldsOfNone, IsOffset, IsPassed}
use Rattle.cache_partition.proofs.Words.{Keeps, Kept, List, Mode, None, Option, OwnerState, PutsEntry, Record, SLOTS, Some, Spells, StandsFor, State, []}
use Rattle.cache_partition.proofs.Words.{after, alone, ap, arith, bucket_in, cache_state, cell_at, count_by, dite, empty, entry_in, entry_offset}
use Rattle.cache_partition.proofs.Words.{entry_puts, entry_puts_other, entry_tag, find, fits_kept, found_key, get_or, here_of, inl, inr, item_at, item_in}
use Rattle.cache_partition.proofs.Words.{item_put, item_puts_entry, item_size, item_words, length, length-item_words, main, oldest, only_key}
use Rattle.cache_partition.proofs.Words.{options_in, other_rooms, passed, put_entry, put_long, put_others, put_words, record_of, refl}
use Rattle.cache_partition.proofs.Words.{room_in, room_is, same_Some, same_cell, same_or_other, spells_item, spells_on, stamp_in, stamp_rises}
use Rattle.cache_partition.proofs.Words.{stands_cached, state_after, state_in, stood, subst, sym, tag_of, tail_of, window_kept, written, written_same}
use Rattle.cache_partition.proofs.Words.{written_state, ℕ, ℕ_discrete, ◌+◌, ◌<◌, ◌∙◌, ◌≡◌, ◌≢◌, ◌≤◌, ◌⊎◌}
use Rattle.cache_partition.proofs.Held.{HasSlot, Held, has_in, in_main, live_entry, live_is, machine, of_others, one_slot, record_in, slot_key}
use Rattle.cache_partition.proofs.Held.{slot_of, slot_record, stamp_is}
use Rattle.cache_partition.proofs.Leaves.{Leaves, made, some_found, step_stamp}
use Rattle.cache_partition.proofs.Leaves as leaves

module _ (h : Held) (a : AcceptedWrite h.o) where
  abbrev b : ℕ
  b = bucket_in h.o a.w.key

  -- what the machine has after the step
  abbrev new : Cache
  new = cs.after (options_in h.o) h.m a.w

  -- What the slots spelt before: the slot what is of the written key, or lost, and the others what is of other keys that the machine leaves.
  pub record Before (slot : ℕ) : Type 1 where
    pub IsLost : List ℕ → Type 0
    pub leaves : Leaves h a.w IsLost
    pub own : ¬ (IsLost a.w.key)
    pub others : (i : ℕ) (key : List ℕ) (r : Record) → i ≢ slot → HasSlot h b key r i → (key ≢ a.w.key) × ¬ (IsLost key)
    pub gone : (key : List ℕ) (r : Record) → HasSlot h b key r slot → tail_of (made h a.w).stamp ≤ r.offset + h.o.shape.words
        → (key ≡ a.w.key) ⊎ IsLost key

  -- the partition before the write's end, with these words
  module _ (words : List ℕ) where
    abbrev q : OwnerState
    q = written h.o a words

    pub state_is : state_in q ≡ cache_state new
    state_is = written_state h.o a words ∙ ap (λ (z : State). state_after (options_in h.o) z a.w) h.before

    abbrev pub later : Kept (written h.o a words) → Held
    later t = record { o = written h.o a words; kept = t; mode = h.mode; m = new; before = state_is }

    -- The words from the offset on are these, and no other item word has changed. The slot has the entry x, and no other
    -- entry of the bucket has changed.
    pub record Effect (slot x p : ℕ) (xs : List ℕ) : Type 0 where
      pub here : entry_in q b slot ≡ x
      pub entries : (i : ℕ) → i < SLOTS → i ≢ slot → entry_in q b i ≡ entry_in h.o b i
      pub items : (i : ℕ) → i < length xs → item_in q (p + i) ≡ get_or xs i 0
      pub others : (z : ℕ) → ((i : ℕ) → i < length xs → item_at h.o.shape z ≢ item_at h.o.shape (p + i)) → item_in q z ≡ item_in h.o z

    module _ (t : Kept q) where
      abbrev n : Held
      n = later t

      -- the put words are the write's own, and the slot's live entry spells the written key: it has one where the key has a record
      module _ (slot entry p : ℕ) (xs : List ℕ) (before : Before slot) (effect : Effect slot entry p xs) (belongs : (j : ℕ) → j < length xs → cs.IsOfItem (options_in h.o) h.m a.w (p + j))
          (own : (x : ℕ) → HasLiveEntry q b b slot x → (r : Record) × Spells q b x a.w.key (cell_at r).0)
          (entered : (r : Record) → record_of (made h a.w) a.w.key ≡ Some r → HasLiveEntry q b b slot (entry_in q b slot)) where
        was : StandsFor h.o b
        was = stood h.o a

        stamp_now : stamp_in q ≡ (made h a.w).stamp
        stamp_now = stamp_is n ∙ step_stamp h a.w

        -- what a live entry spells: the written key in the slot, and in another one the key that it spelt
        record Now (i x : ℕ) : Type 0 where
          pub key : List ℕ
          pub r : Record
          pub now : Spells q b x key (cell_at r).0
          pub whose : ((i ≡ slot) × (key ≡ a.w.key)) ⊎ ((i ≢ slot) × (key ≢ a.w.key) × HasSlot h b key r i)

        -- an entry of another key that the machine leaves spells what it spelt
        stays : (i : ℕ) (key : List ℕ) (r : Record) → HasSlot h b key r i → key ≢ a.w.key → tail_of (stamp_in q) ≤ r.offset + h.o.shape.words
            → ¬ (before.IsLost key) → Spells q b (entry_in h.o b i) key (cell_at r).0
        stays i key r at other live kept =
            let x = entry_in h.o b i in
            let left = before.leaves.on key r (written_same (options_in h.o) h.m a.w key other ∙ at.is) (omega (arith, stamp_now, live)) kept in
            let room : room_in h.o x ≡ r.room = room_is h.o h.kept b x key (cell_at r).0 at.spelt in
            let keeps : Keeps h.o a words x = λ k l.
            subst (λ (z : ℕ). item_in q (z + k) ≡ item_in h.o (z + k)) at.offset (effect.others (r.offset + k) (λ j less same.
            other_rooms (options_in h.o) h.o.history h.kept.history.writes a.w a.is (a.outcome, a.accepted, a.may) h.m h.before (p + j) (belongs j less) key other r left k (omega arith) (omega arith))) in
            let has = subst (λ (z : ℕ). Has (state_in q) key (cell_at r).0 z) at.offset (has_in n key r left) in
            spells_on h.o a words b x keeps key (cell_at r).0 has at.spelt

        now_other : (i x : ℕ) → HasLiveEntry q b b i x → i ≢ slot → Now i x
        now_other i x e other =
            let live = live_is n b b i x e in
            let was_live : tail_of (stamp_in h.o) ≤ entry_offset x + h.o.shape.words =
            omega (arith, live, h.kept.stamp, t.stamp, stamp_rises (options_in h.o) h.o.history a.w) in
            let same = sym (effect.entries i e.in_bucket other) ∙ e.found in
            let at = slot_record h b was i x (live_entry h b i x e.in_bucket same e.live.0 was_live) in
            let offset = at.2.offset ∙ ap entry_offset same in
            let differs = before.others i at.0 at.1 other at.2 in
            let now = subst (λ (z : ℕ). Spells q b z at.0 (cell_at at.1).0) same (stays i at.0 at.1 at.2 differs.0 (omega arith) differs.1) in
            record { key = at.0; r = at.1; now = now; whose = inr (other, differs.0, at.2) }

        now : (c i x : ℕ) → HasLiveEntry q b c i x → Now i x
        now c i x e =
            let main = in_main n b c i x e in
            dite (ℕ_discrete i slot)
            (λ is.
            let its = own x (subst (λ (z : ℕ). HasLiveEntry q b b z x) is main) in
            record { key = a.w.key; r = its.0; now = its.1; whose = inl (is, refl) })
            (now_other i x main)

        -- a key is spelt once

        one : (i x i' x' : ℕ) (z : Now i x) (z' : Now i' x') → z.key ≡ z'.key → i ≡ i'
        one i x i' x' z z' same = grind (arith, z.whose, z'.whose, same, one_slot h b was i i' z.key z'.key z.r z'.r)

        -- and each that has a record is

        each_mine : (key : List ℕ) (cell : Cell) (from : ℕ) → Has (state_in q) key cell from → key ≡ a.w.key
            → (c : ℕ) × (i : ℕ) × (x : ℕ) × HasLiveEntry q b c i x × Spells q b x key cell
        each_mine key cell from has is =
            let found = record_in n key cell from has in
            let e = entered found.0 (ap (record_of (made h a.w)) (sym is) ∙ (before.leaves.back key found.0 found.1).0) in
            let its = own (entry_in q b slot) e in
            let sp = subst (λ (z : List ℕ). Spells q b (entry_in q b slot) z (cell_at its.0).0) (sym is) its.1 in
            let same = same_cell (state_in q) key (cell_at its.0).0 cell (entry_offset (entry_in q b slot)) from sp.has has in
            (b, slot, entry_in q b slot, e, subst (λ (z : Cell). Spells q b (entry_in q b slot) key z) same sp)

        each_other : (key : List ℕ) (cell : Cell) (from : ℕ) → bucket_in h.o key ≡ b → Has (state_in q) key cell from → key ≢ a.w.key
            → (c : ℕ) × (i : ℕ) × (x : ℕ) × HasLiveEntry q b c i x × Spells q b x key cell
        each_other key cell from here has other =
            let found = record_in n key cell from has in
            let was_left = before.leaves.back key found.0 found.1 in
            let at = slot_of h b was key found.0 here (sym (written_same (options_in h.o) h.m a.w key other) ∙ was_left.0) in
            let live : tail_of (stamp_in q) ≤ found.0.offset + h.o.shape.words =
            omega (arith, stamp_is n, (window_kept (options_in h.o) new (machine n) key found.0 found.1).0) in
            let not_slot : at.0 ≢ slot = λ is. elim (before.gone key found.0 (subst (HasSlot h b key found.0) is at.1) (omega (arith, stamp_now))) [ inl mine ↦ other mine | inr lost ↦ was_left.1 lost ] in
            let x = entry_in h.o b at.0 in
            let same = effect.entries at.0 at.1.entry.in_bucket not_slot in
            let e = live_entry n b at.0 x at.1.entry.in_bucket same at.1.entry.live.0 (omega (arith, at.1.offset)) in
            (b, at.0, x, e, subst (λ (z : Cell). Spells q b x key z) (sym found.3) (stays at.0 key found.0 at.1 other live was_left.1))

        pub stands : StandsFor q b
        stands = stands_cached q t h.mode b (main h.o a)
            (λ c i x e. let z = now c i x e in (z.key, (cell_at z.r).0, z.now))
            (λ key cell from here has. elim (same_or_other key a.w.key) [ inl is ↦ each_mine key cell from has is | inr other ↦ each_other key cell from here has other ])
            (λ c i x c' i' x' key cell e e' sp sp'.
            let z = now c i x e in
            let z' = now c' i' x' e' in
            let keys = only_key q t b b x x z.key key (cell_at z.r).0 cell z.now sp refl in
            let keys' = only_key q t b b x' x' z'.key key (cell_at z'.r).0 cell z'.now sp' refl in
            (sym (alone q t h.mode b c e.in_chain) ∙ alone q t h.mode b c' e'.in_chain, one i x i' x' z z' (keys ∙ sym keys')))

      -- a write that leaves its key no record
      pub emptied : record_of (made h a.w) a.w.key ≡ None → (slot x : ℕ) → Before slot → Effect slot x 0 [] → ((y : ℕ) → ¬ (HasLiveEntry q b b slot y)) → StandsFor q b
      emptied gone slot x before effect none =
          stands slot x 0 [] before effect (λ j less. absurd (omega arith)) (λ y e. absurd (none y e)) (λ r is. cc (sym gone ∙ is))

      -- a write that leaves its key this record: the slot's entry and item spell it
      pub stored : (slot x : ℕ) → Before slot → slot < SLOTS → (r : Record) → record_of (made h a.w) a.w.key ≡ Some r
          → tail_of (made h a.w).stamp ≤ r.offset + h.o.shape.words → x ≢ 0 → entry_offset x ≡ r.offset → entry_tag x ≡ tag_of h.o.shape.hashing a.w.key
          → Effect slot x r.offset (item_words h.o.shape.hashing r.room a.w.key r.value) → StandsFor q b
      stored slot x before below r found live some offset tag effect =
          let stamp = stamp_is n ∙ step_stamp h a.w in
          let its_offset : entry_offset (entry_in q b slot) ≡ r.offset = ap entry_offset effect.here ∙ offset in
          let long = length-item_words h.o.shape.hashing r.room a.w.key r.value in
          let key : r.key ≡ a.w.key = found_key a.w.key (made h a.w).records r found in
          let spelt = spells_item q t b (entry_in q b slot) a.w.key (cell_at r).0 refl
          (subst (λ (z : ℕ). Has (state_in q) a.w.key (cell_at r).0 z) (sym its_offset) (has_in n a.w.key r (before.leaves.on a.w.key r found live before.own)))
          (subst (λ (z : Mode). IsOffset z h.o.shape.words (entry_offset (entry_in q b slot))) (sym h.mode) tt)
          (ap entry_tag effect.here ∙ tag) (λ i l. ap (λ (z : ℕ). item_in q (z + i)) its_offset ∙ effect.items i (omega arith)) in
          stands slot x r.offset (item_words h.o.shape.hashing r.room a.w.key r.value) before effect
          (λ j less. subst (λ (found : Option Record). cs.IsInItem found (r.offset + j)) (sym found)
          (omega arith, subst (λ (k : List ℕ). r.offset + j < r.offset + item_size k r.value) (sym key) (omega arith)))
          (λ y e. (r, subst (λ (z : ℕ). Spells q b z a.w.key (cell_at r).0) e.found spelt))
          (λ r' is. live_entry n b slot (entry_in q b slot) below refl (λ none. some (sym effect.here ∙ none)) (omega arith))

  -- where words alone were put, and where an entry was put after them
  module _ (p : ℕ) (xs : List ℕ) (few : length xs ≤ h.o.shape.words) (slot x : ℕ) where
    pub put_effect : entry_in (written h.o a (put_words h.o a p xs few)) b slot ≡ x → Effect (put_words h.o a p xs few) slot x p xs
    put_effect here = record {
      here = here;
      entries = λ i l other. put_entry h.o a p xs few b i (let main = main h.o a in omega arith) l;
      items = item_put h.o a p xs few;
      others = put_others h.o a p xs few;
    }

    pub entry_effect : slot < SLOTS → Effect (after (PutsEntry b slot x) (written h.o a (put_words h.o a p xs few))).words slot x p xs
    entry_effect below =
        let q = written h.o a (put_words h.o a p xs few) in
        let main = main h.o a in
        let long = put_long h.o a p xs few in record {
          here = entry_puts q long b slot x (omega arith) below;
          entries = λ i l other. entry_puts_other q long b slot x b i below l (inr other) ∙ put_entry h.o a p xs few b i (omega arith) l;
          items = λ i l. item_puts_entry q long b slot x (p + i) (omega arith) below ∙ item_put h.o a p xs few i l;
          others = λ z none. item_puts_entry q long b slot x z (omega arith) below ∙ put_others h.o a p xs few z none;
        }

  -- What the slots spelt, by the slot that the write changes

  abbrev lives : List Record
  lives = leaves.lives h a.w a.is

  -- a slot whose entry, where it stays live, spells the written key, which no other slot spells, or none of them where the write leaves
  -- the key no record
  free_slot : (slot : ℕ) → slot < SLOTS + 1 → (slot ≡ SLOTS → record_of (made h a.w) a.w.key ≡ None)
      → ((i : ℕ) (key : List ℕ) (r : Record) → i ≢ slot → HasSlot h b key r i → key ≢ a.w.key)
      → ((key : List ℕ) (r : Record) → HasSlot h b key r slot → tail_of (made h a.w).stamp ≤ r.offset + h.o.shape.words → key ≡ a.w.key) → Before slot
  free_slot slot low no_record others its = record {
    IsLost = λ key. ⊥;
    leaves = leaves.none_lost h a.w a.is (leaves.few h a.w a.is (stood h.o a) slot low (λ r found live is. elim is [
      | inl mine ↦ cc (sym (no_record mine.1) ∙ (ap (record_of (made h a.w)) (sym mine.0) ∙ found))
      | inr at ↦ at.0 (its r.key r at.1 live)
    ]));
    own = λ lost. lost;
    others = λ i key r other at. (others i key r other at, λ lost. lost);
    gone = λ key r at live. inl (its key r at live);
  }

  -- the key's own slot
  pub own_slot : (slot : ℕ) (r : Record) → HasSlot h b a.w.key r slot → Before slot
  own_slot slot r at =
      let below = at.entry.in_bucket in
      free_slot slot (omega arith) (λ last. absurd (omega arith))
      (λ i key r' other at' same. other (one_slot h b (stood h.o a) i slot key a.w.key r' r at' at same))
      (λ key r' at' live. slot_key h b slot key a.w.key r' r at' at)

  -- Where the key has no slot, all live entries spell other keys.

  module _ (none : HasNoSlot h.o b a.w.key) where
    -- a slot without an entry that stays live, or none of them where the write leaves the key no record
    pub dead_slot : (slot : ℕ) → slot < SLOTS + 1 → (slot ≡ SLOTS → record_of (made h a.w) a.w.key ≡ None)
        → ((key : List ℕ) (r : Record) → HasSlot h b key r slot → tail_of (made h a.w).stamp ≤ r.offset + h.o.shape.words → ⊥) → Before slot
    dead_slot slot low no_record dead =
        free_slot slot low no_record (λ i key r other. of_others h b a.w.key none i key r) (λ key r at live. absurd (dead key r at live))

    -- where a record is appended for the key
    module _ (own : Record) (its_own : record_of (made h a.w) a.w.key ≡ Some own) (at_tail : own.offset ≡ tail_of h.m.stamp) (own_live : tail_of (made h a.w).stamp ≤ own.offset + h.o.shape.words) where
      -- the one of least offset, where all are live: its item is the bucket's oldest, which is displaced
      module _ (slot : ℕ) (below : slot < SLOTS) (live : (i : ℕ) → i < SLOTS → (entry_in h.o b i ≢ 0) × (tail_of (made h a.w).stamp ≤ entry_offset (entry_in h.o b i) + h.o.shape.words))
          (least : (i : ℕ) → i < SLOTS → entry_offset (entry_in h.o b slot) ≤ entry_offset (entry_in h.o b i)) where
        many : count_by (here_of (options_in h.o) a.w) lives ≡ SLOTS + 1
        many = leaves.many h a.w a.is (stood h.o a) own its_own own_live none live

        first : (f : Record) × (find (here_of (options_in h.o) a.w) lives ≡ Some f)
        first = let all = many in some_found (here_of (options_in h.o) a.w) lives (omega arith)

        its : (key : List ℕ) × (r : Record) × HasSlot h b key r slot
        its = leaves.record_at h a.w a.is (stood h.o a) slot below (live slot below)

        first_begins : first.0.offset ≤ its.1.offset
        first_begins =
            leaves.first_begins h a.w a.is first.0 first.1 its.0 its.1
            (written_same (options_in h.o) h.m a.w its.0 (of_others h b a.w.key none slot its.0 its.1 its.2) ∙ its.2.is)
            (omega (arith, its.2.offset, (live slot below).1)) its.2.spelt.bucket

        -- the written key's record begins behind the others
        first_other : first.0.key ≢ a.w.key
        first_other same =
            let found = (leaves.first_is h a.w a.is first.0 first.1).0 in
            let is = ap (λ (r : Record). r.offset) (same_Some first.0 own (sym found ∙ (ap (record_of (made h a.w)) same ∙ its_own))) in
            let end = (window_kept (options_in h.o) h.m (machine h) its.0 its.1 its.2.is).1 in
            omega (arith, is, end, at_tail, first_begins, (fits_kept (options_in h.o) h.m (machine h) its.0 its.1 its.2.is).4)

        names_first : its.0 ≡ first.0.key
        names_first =
            let facts = leaves.first_is h a.w a.is first.0 first.1 in
            let there = slot_of h b (stood h.o a) first.0.key first.0 facts.1 (sym (written_same (options_in h.o) h.m a.w first.0.key first_other) ∙ facts.0) in
            only_key h.o h.kept b b (entry_in h.o b slot) (entry_in h.o b there.0) its.0 first.0.key (cell_at its.1).0 (cell_at first.0).0 its.2.spelt there.1.spelt
            (omega (arith, least there.0 there.1.entry.in_bucket, first_begins, its.2.offset, there.1.offset))

        oldest_slot : Before slot
        oldest_slot = record {
          IsLost = λ key. key ≡ first.0.key;
          leaves = leaves.first_lost h a.w a.is first.0 first.1 many;
          own = λ same. first_other (sym same);
          others = λ i key r other at. (
            of_others h b a.w.key none i key r at,
            λ same. other (one_slot h b (stood h.o a) i slot key its.0 r its.1 at its.2 (same ∙ sym names_first)),
          );
          gone = λ key r at alive. inr (slot_key h b slot key its.0 r its.1 at its.2 ∙ names_first);
        }

      -- the one that gives way, in a state with the same entries and the new stamp
      module _ (p : OwnerState) (words_are : p.shape.words ≡ h.o.shape.words) (same : (i : ℕ) → i < SLOTS → entry_in p b i ≡ entry_in h.o b i) (stamp : tail_of (stamp_in p) ≡ tail_of (made h a.w).stamp) where
        live_in : HoldsOfNone (IsPassed p b) → (i : ℕ) → i < SLOTS → tail_of (made h a.w).stamp ≤ entry_offset (entry_in h.o b i) + h.o.shape.words
        live_in all i l = let offset = ap entry_offset (same i l) in let there = all i l in omega arith

        pub slot_that_gives_way : (slot : ℕ) → GivesWay p b slot → (slot < SLOTS) × Before slot
        slot_that_gives_way slot (empty is) =
            let low = is.in_bucket in
            (low, dead_slot slot (omega arith) (λ last. absurd (omega arith)) (λ key r at live. at.entry.live.0 (sym (same slot low) ∙ is.holds)))
        slot_that_gives_way slot (passed full is) =
            let low = is.in_bucket in
            let offset = ap entry_offset (same slot low) in
            (low, dead_slot slot (omega arith) (λ last. absurd (omega arith)) (λ key r at live. omega (arith, at.offset, offset, is.holds)))
        slot_that_gives_way slot (oldest full all is) = (
          is.in_bucket,
          oldest_slot slot is.in_bucket (λ i l. (λ zero. full i l (same i l ∙ zero), live_in all i l))
              (λ i l. omega (arith, is.least i l, ap entry_offset (same slot is.in_bucket), ap entry_offset (same i l))),
        )
