-- A partition in cache mode: what the slots of a bucket tell of the log's records.
use Rattle.cache_partition.proofs.Words.{AreBytes, Cache, CacheMode, Cell, Has, HasLiveEntry, HasNoSlot, Idle, IsKept, IsLiveItem, IsMain, IsSlotOf}
use Rattle.cache_partition.proofs.Words.{Kept, List, MatchOption, Mode, None, Option, OwnerState, Record, SLOTS, Some, Spells, StandsFor, State}
use Rattle.cache_partition.proofs.Words.{alone, answer_of, ap, arith, bucket_in, cache_state, cached_in, cell_at, entry_in, entry_offset, entry_tag}
use Rattle.cache_partition.proofs.Words.{found_record, had_record, had_record_by, has_its_key, inl, is_some, kept_in, main_of, only_key, option_map}
use Rattle.cache_partition.proofs.Words.{options_in, record_of, refl, same_Some, spelt_key, stamp_in, stamp_of_state, stands_idle, state_in, subst}
use Rattle.cache_partition.proofs.Words.{sym, tag_of-range, tail_of, value_in, ℕ, ◌+◌, ◌<◌, ◌∙◌, ◌≡◌, ◌≢◌, ◌≤◌}

-- an owner's state in cache mode, with its machine
pub record Held : Type 0 where
  pub o : OwnerState
  pub kept : Kept o
  pub mode : o.shape.mode ≡ CacheMode
  pub m : Cache
  pub before : state_in o ≡ cache_state m

abbrev pub held : (o : OwnerState) → Kept o → o.shape.mode ≡ CacheMode → Held
held o s mode = let at = cached_in (options_in o) mode o.history in record { o = o; kept = s; mode = mode; m = at.0; before = at.1 }

-- the slot has a live entry, which spells the key's record
pub record HasSlot (h : Held) (b : ℕ) (key : List ℕ) (r : Record) (slot : ℕ) : Type 0 where
  pub entry : HasLiveEntry h.o b b slot (entry_in h.o b slot)
  pub spelt : Spells h.o b (entry_in h.o b slot) key (cell_at r).0
  pub is : record_of h.m key ≡ Some r
  pub offset : r.offset ≡ entry_offset (entry_in h.o b slot)

module _ (h : Held) where
  pub machine : IsKept (options_in h.o) h.m
  machine = kept_in (options_in h.o) h.o.history h.kept.history.writes h.m h.before

  pub stamp_is : stamp_in h.o ≡ h.m.stamp
  stamp_is = h.kept.stamp ∙ ap stamp_of_state h.before

  pub stands_at : h.o.phase ≡ Idle → (key : List ℕ) (b : ℕ) → b ≡ bucket_in h.o key → StandsFor h.o b
  stands_at idle key b here = stands_idle h.o h.kept idle b (subst (IsMain h.o.shape) (sym here) (main_of h.o h.kept key))

  -- the key's record, with this cell at this offset
  pub record_in : (key : List ℕ) (cell : Cell) (p : ℕ) → Has (state_in h.o) key cell p
      → (r : Record) × (record_of h.m key ≡ Some r) × (r.offset ≡ p) × (cell ≡ record { value = r.value; room = r.room })
  record_in key cell p has = found_record (record_of h.m key) cell p (subst (λ (z : State). Has z key cell p) h.before has)

  pub has_in : (key : List ℕ) (r : Record) → record_of h.m key ≡ Some r → Has (state_in h.o) key (cell_at r).0 r.offset
  has_in key r is = subst (λ (z : State). Has z key (cell_at r).0 r.offset) (sym h.before) (ap (option_map cell_at) is)

  -- Live entries

  pub live_is : (b c slot x : ℕ) → HasLiveEntry h.o b c slot x → tail_of (stamp_in h.o) ≤ entry_offset x + h.o.shape.words
  live_is b c slot x e = subst (λ (z : Mode). IsLiveItem z h.o.shape.words (stamp_in h.o) (entry_offset x)) h.mode e.live.1

  pub live_entry : (b slot x : ℕ) → slot < SLOTS → entry_in h.o b slot ≡ x → x ≢ 0 → tail_of (stamp_in h.o) ≤ entry_offset x + h.o.shape.words
      → HasLiveEntry h.o b b slot x
  live_entry b slot x below found some live = record {
    in_chain = inl refl;
    in_bucket = below;
    found = found;
    live = (some, subst (λ (z : Mode). IsLiveItem z h.o.shape.words (stamp_in h.o) (entry_offset x)) (sym h.mode) live);
  }

  -- the chain is the bucket alone
  pub in_main : (b c slot x : ℕ) → HasLiveEntry h.o b c slot x → HasLiveEntry h.o b b slot x
  in_main b c slot x e = subst (λ (z : ℕ). HasLiveEntry h.o b z slot x) (sym (alone h.o h.kept h.mode b c e.in_chain)) e

  -- The slots of keys

  pub slot_is : (b slot : ℕ) (key : List ℕ) (r : Record) → HasSlot h b key r slot → IsSlotOf h.o b key slot
  slot_is b slot key r at = record {
    in_bucket = at.entry.in_bucket;
    tag = at.spelt.tag;
    live = live_is b b slot (entry_in h.o b slot) at.entry;
    item = has_its_key h.o h.kept b (entry_in h.o b slot) key (cell_at r).0 at.spelt;
  }

  -- where a key has no slot, each has another key's entry
  pub of_others : (b : ℕ) (key : List ℕ) → HasNoSlot h.o b key → (slot : ℕ) (key' : List ℕ) (r : Record) → HasSlot h b key' r slot → key' ≢ key
  of_others b key none slot key' r at same = none slot (subst (λ (k : List ℕ). IsSlotOf h.o b k slot) same (slot_is b slot key' r at))

  pub slot_entry : (b slot : ℕ) (key : List ℕ) → IsSlotOf h.o b key slot → HasLiveEntry h.o b b slot (entry_in h.o b slot)
  slot_entry b slot key is =
      let tag = is.tag in
      let some = (tag_of-range h.o.shape.hashing key).0 in
      live_entry b slot (entry_in h.o b slot) is.in_bucket refl (λ empty. let zero : entry_tag (entry_in h.o b slot) ≡ 0 = ap entry_tag empty in omega arith) is.live

  -- the entry of a slot spells one key
  pub slot_key : (b slot : ℕ) (key key' : List ℕ) (r r' : Record) → HasSlot h b key r slot → HasSlot h b key' r' slot → key ≡ key'
  slot_key b slot key key' r r' at at' = only_key h.o h.kept b b _ _ key key' _ _ at.spelt at'.spelt refl

  -- a live entry's key has a record
  pub has_slot : (b slot x : ℕ) (key : List ℕ) (cell : Cell) → HasLiveEntry h.o b b slot x → Spells h.o b x key cell
      → (r : Record) × HasSlot h b key r slot
  has_slot b slot x key cell e sp =
      let spelt = subst (λ (z : ℕ). Spells h.o b z key cell) (sym e.found) sp in
      let entry = subst (HasLiveEntry h.o b b slot) (sym e.found) e in
      let named = record_in key cell (entry_offset (entry_in h.o b slot)) spelt.has in
      (named.0, record { entry = entry; spelt = subst (Spells h.o b (entry_in h.o b slot) key) named.3 spelt; is = named.1; offset = named.2 })

  module _ (b : ℕ) (stood : StandsFor h.o b) where
    -- each record of the bucket has one
    pub slot_of : (key : List ℕ) (r : Record) → bucket_in h.o key ≡ b → record_of h.m key ≡ Some r → (slot : ℕ) × HasSlot h b key r slot
    slot_of key r here is =
        let there = stood.each key (cell_at r).0 r.offset here (has_in key r is) in
        let at = has_slot b there.1 there.2 key (cell_at r).0 (in_main b there.0 there.1 there.2 there.3) there.4 in
        (there.1, subst (λ (z : Record). HasSlot h b key z there.1) (same_Some at.0 r (sym at.1.is ∙ is)) at.1)

    -- and no other
    pub one_slot : (i i' : ℕ) (key key' : List ℕ) (r r' : Record) → HasSlot h b key r i → HasSlot h b key' r' i' → key ≡ key' → i ≡ i'
    one_slot i i' key key' r r' at at' same =
        let its = subst (λ (k : List ℕ). HasSlot h b k r' i') (sym same) at' in
        let spelt = subst (λ (z : Record). Spells h.o b (entry_in h.o b i') key (cell_at z).0) (same_Some r' r (sym its.is ∙ at.is)) its.spelt in
        (stood.once b i _ b i' _ key (cell_at r).0 at.entry its.entry at.spelt spelt).1

    -- a live entry has a key's record
    pub slot_record : (slot x : ℕ) → HasLiveEntry h.o b b slot x → (key : List ℕ) × (r : Record) × HasSlot h b key r slot
    slot_record slot x e =
        let some = stood.nothing_else b slot x e in
        let at = has_slot b slot x some.0 some.1 e some.2 in
        (some.0, at.0, at.1)

    module _ (key : List ℕ) (here : bucket_in h.o key ≡ b) where
      -- a key without a slot has no record
      pub no_record : HasNoSlot h.o b key → record_of h.m key ≡ None
      no_record none = elim (record_of h.m key) as (λ (found : Option Record). record_of h.m key ≡ found → found ≡ None) [
        | None ↦ λ is. refl
        | Some r ↦ λ is. let at = slot_of key r here is in absurd (none at.0 (slot_is b at.0 key r at.1))
      ] refl

      pub missed : HasNoSlot h.o b key → answer_of (options_in h.o) h.o.history key ≡ None
      missed none = ap (λ (z : State). value_in z key) h.before ∙ ap (option_map (λ (r : Record). r.value)) (no_record none)

      module _ (bytes : AreBytes key) where
        -- and one with a slot has one
        pub found_slot : (slot : ℕ) → IsSlotOf h.o b key slot → (r : Record) × HasSlot h b key r slot
        found_slot slot found =
            let entry = slot_entry b slot key found in
            let own = spelt_key h.o h.kept b (entry_in h.o b slot) key bytes found.item (stood.nothing_else b slot (entry_in h.o b slot) entry) in
            has_slot b slot (entry_in h.o b slot) key own.0 entry own.1

        pub hit : (slot : ℕ) (found : IsSlotOf h.o b key slot) → answer_of (options_in h.o) h.o.history key ≡ Some (found_slot slot found).0.value
        hit slot found = ap (λ (z : State). value_in z key) h.before ∙ ap (option_map (λ (r : Record). r.value)) (found_slot slot found).1.is

        -- whether a slot was found is whether there was a record
        pub found_had : (slot : Option ℕ) → MatchOption slot (HasNoSlot h.o b key) (IsSlotOf h.o b key) → is_some slot ≡ had_record h.o key
        found_had None none = ap is_some (sym (no_record none)) ∙ ap (λ (z : State). had_record_by z key) (sym h.before)
        found_had (Some slot) found = ap is_some (sym (found_slot slot found).1.is) ∙ ap (λ (z : State). had_record_by z key) (sym h.before)
