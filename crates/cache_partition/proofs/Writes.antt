-- A write from its begin to its end: when its events may happen, and what it has made of the partition.
use Rattle.partition_model.specs.CacheStep as cs
use Rattle.std.proofs.lemmas.Grind.{common_steps}
use Rattle.cache_partition.proofs.Words.{AcceptedWrite, Add, Allows, AppendsBy, AppendsValue, Carries, FullBlock, IsItem, IsAcceptable, IsTouchOf, Stored, Touch, appended_own, found_key, offset_in, refused_step, spelt_item, tail_past, touched_is, window_kept}
use Rattle.cache_partition.proofs.Words.{Allows, AreBytes, Begins, Bool, Cache, CacheMode, Del, Ends, Gains, HasNoSlot, Idle, IsMain}
use Rattle.cache_partition.proofs.Words.{IsOwnerStep, IsSlotOf, IsWrite, Kept, KeyFits, LeavesItem, List, MatchOption, MayAppend, MayBegin, MayEnd}
use Rattle.cache_partition.proofs.Words.{MayGive, MayMark, MayRewrite, MayWrite, None, Op, Option, Outcome, OwnerState, Put, PutsEntry}
use Rattle.cache_partition.proofs.Words.{Record, SLOTS, Some, SpellsItem, StandsFor, State, TakesSlot, Worn, Write, [], accepted_in, accepted_is_length}
use Rattle.cache_partition.proofs.Words.{accepted_step, after, ap, arith, bucket_in, cached_in, cell_at, cond, ended_gains, entry_in}
use Rattle.cache_partition.proofs.Words.{entry_not_empty, entry_of, entry_offset, entry_offset-entry_of, entry_tag-entry_of, false, fits_kept}
use Rattle.cache_partition.proofs.Words.{had_record, had_record_by, is_accepted, is_live, is_some, is_at_end, is_worn, item_in, item_room, item_size, item_words}
use Rattle.cache_partition.proofs.Words.{keeps, keeps_put, kept_offset, kept_offset_by, kept_record, last_tail, length, length-item_words, main}
use Rattle.cache_partition.proofs.Words.{marked, marked_in, marked_item, marked_with, may_begin, may_end, may_mark, most_added, nat_le, nat_tests}
use Rattle.cache_partition.proofs.Words.{new_record, option_map, options_in, put_entry, put_same, put_stamp, put_words, record_of, refl, room_at}
use Rattle.cache_partition.proofs.Words.{room_in, room_is, size_of, stamp_in, stamp_of, stamp_of_state, state_after}
use Rattle.cache_partition.proofs.Words.{state_snoc, stood, subst, sym, tag_of, tag_of-range, tail_of, then_some, true, with_item, write_of, written}
use Rattle.cache_partition.proofs.Words.{written_marked, written_record, ℕ, ◌&&◌, ◌||◌, ◌*◌, ◌++◌, ◌+◌, ◌<◌, ◌^◌, ◌∙◌, ◌∷◌, ◌≡◌, ◌≤◌, ◌⊎◌}
use Rattle.cache_partition.proofs.Leaves as leaves
use Rattle.cache_partition.proofs.Held.{Held, found_slot, held, machine, no_record, slot_of, stamp_is, stands_at}
use Rattle.cache_partition.proofs.OneSlot.{Before, dead_slot, emptied, entry_effect, own_slot, put_effect, slot_that_gives_way, stored}
use Rattle.cache_partition.proofs.Leaves.{made}

-- Replies

-- a put is stored where its item is not longer than the log
pub put_stored : (o : OwnerState) (w : Write) → nat_le (size_of w) o.shape.words ≡ true → (found : Bool) → cs.reply_of Put (options_in o) w found ≡ Stored
put_stored o w fits found = ap (λ b. cond b Stored FullBlock) fits

pub put_refused : (o : OwnerState) (w : Write) → nat_le (size_of w) o.shape.words ≡ false → (found : Bool) → cs.reply_of Put (options_in o) w found ≡ FullBlock
put_refused o w fits found = ap (λ b. cond b Stored FullBlock) fits

-- and so is an add of a key without a record
pub add_reply : (o : OwnerState) (w : Write) (found : Bool) → found ≡ false → cs.reply_of Add (options_in o) w found ≡ cs.reply_to_item (options_in o) w
add_reply o w found none = ap (cs.reply_of Add (options_in o) w) none

-- a delete and a touch are accepted

pub delete_taken : (o : OwnerState) (key value : List ℕ) → IsAcceptable o (write_of Del key value)
delete_taken o key value = elim (had_record o key) as (λ b. is_accepted (cs.reply_of Del (options_in o) (write_of Del key value) b) ≡ true) [ true ↦ refl | false ↦ refl ]

pub touch_taken : (o : OwnerState) (key value : List ℕ) → IsAcceptable o (write_of Touch key value)
touch_taken o key value = elim (had_record o key) as (λ b. is_accepted (cs.reply_of Touch (options_in o) (write_of Touch key value) b) ≡ true) [ true ↦ refl | false ↦ refl ]

-- the machine is worn where its partition is
machine_worn : (o : OwnerState) (mode : o.shape.mode ≡ CacheMode) → is_worn o ≡ cs.is_worn (options_in o) (cached_in (options_in o) mode o.history).0
machine_worn o mode =
    let there = cached_in (options_in o) mode o.history in
    let count : length o.history ≡ there.0.accepted = sym (accepted_is_length (options_in o) o.history) ∙ ap accepted_in there.1 in
    λ i. nat_le o.shape.wear (count i) || is_at_end (stamp_of_state (there.1 i))

-- then it refuses each write
pub worn_step : (o : OwnerState) → o.phase ≡ Idle → o.shape.mode ≡ CacheMode → is_worn o ≡ true → (w : Write) → IsOwnerStep o o w Worn
unfolding cs.reply
worn_step o idle mode worn w =
    let there = cached_in (options_in o) mode o.history in
    refused_step o idle w Worn refl (subst (λ (z : State). Allows (options_in o) z w Worn) (sym there.1)
    (ap (λ b. cond b Worn (cs.reply_of w.op (options_in o) w (is_some (record_of there.0 w.key)))) (sym worn ∙ machine_worn o mode)))

-- where the state is not worn
pub may_write : (o : OwnerState) → o.phase ≡ Idle → o.shape.mode ≡ CacheMode → is_worn o ≡ false → MayWrite o
may_write o idle mode few =
    let both : (length o.history < o.shape.wear) × (tail_of (stamp_of (options_in o) o.history) < last_tail) = grind (arith, nat_tests, common_steps) in
    record { idle = idle; cached = mode; not_worn = both.0; has_room = both.1 }

not_worn : (o : OwnerState) → MayWrite o → is_worn o ≡ false
not_worn o may = grind (arith, nat_tests, common_steps, may.not_worn, may.has_room)

-- before the partition is worn the machine gives this reply
may_give : (o : OwnerState) → MayWrite o → (w : Write) → MayGive (options_in o) o.history w (cs.reply_of w.op (options_in o) w (had_record o w.key))
unfolding cs.reply
may_give o may w =
    let there = cached_in (options_in o) may.cached o.history in
    subst (λ (z : State). Allows (options_in o) z w (cs.reply_of w.op (options_in o) w (had_record_by z w.key))) (sym there.1)
    (ap (λ b. cond b Worn (cs.reply_of w.op (options_in o) w (is_some (record_of there.0 w.key)))) (sym (not_worn o may) ∙ machine_worn o may.cached))

-- a step that gains the write
pub gained_step : (o new : OwnerState) → MayWrite o → (w : Write) (outcome : Outcome) → is_accepted outcome ≡ true → Gains o new w → outcome ≡ cs.reply_of w.op (options_in o) w (had_record o w.key)
    → IsOwnerStep o new w outcome
gained_step o new may w outcome accepted gained is =
    accepted_step o new may.idle w outcome accepted (subst (MayGive (options_in o) o.history w) (sym is) (may_give o may w)) gained

-- and one that refuses it
pub left_step : (o : OwnerState) → MayWrite o → (w : Write) (outcome : Outcome) → is_accepted outcome ≡ false → outcome ≡ cs.reply_of w.op (options_in o) w (had_record o w.key) → IsOwnerStep o o w outcome
left_step o may w outcome refused is = refused_step o may.idle w outcome refused (subst (MayGive (options_in o) o.history w) (sym is) (may_give o may w))

pub delete_is : (key : List ℕ) → KeyFits key → AreBytes key → IsWrite (write_of Del key [])
delete_is key key_fits key_bytes = record { key = key_fits; key_bytes = key_bytes; value = refl; value_bytes = λ k. omega arith }

pub touch_is : (key : List ℕ) → KeyFits key → AreBytes key → IsWrite (write_of Touch key [])
touch_is key key_fits key_bytes = record { key = key_fits; key_bytes = key_bytes; value = refl; value_bytes = λ k. omega arith }

-- with the largest item the stamp is still a word
pub stamp_limit : (o : OwnerState) → Kept o → MayWrite o → (stamp : ℕ) → stamp ≡ stamp_in o → stamp + most_added < 2 ^ 64
stamp_limit o s may stamp is = omega (arith, s.stamp, is, may.has_room)

-- What a write ends with

pub record Closes (o : OwnerState) (w : Write) (b t : ℕ) (q : OwnerState) : Type 0 where
  pub end : MayEnd q b
  pub gains : (new : OwnerState) → new ≡ after (Ends b) q → Gains o new w
  pub stamp : (new : OwnerState) → new ≡ after (Ends b) q → t ≡ stamp_of (options_in new) new.history

-- Each event of a delete may happen.
pub record Deletes (o : OwnerState) (w : Write) (b t : ℕ) : Type 0 where
  pub cleared : (slot : ℕ) → IsSlotOf o b w.key slot → (q : OwnerState) → q ≡ after (PutsEntry b slot 0) (marked_with o b w t) → Kept q → Closes o w b t q
  pub absent : HasNoSlot o b w.key → (q : OwnerState) → q ≡ marked_with o b w t → Kept q → Closes o w b t q

-- and of a put into the room at the offset
pub record Rewrites (o : OwnerState) (w : Write) (b t p : ℕ) : Type 0 where
  pub may : MayRewrite (marked_with o b w t) p w.key w.value
  pub closes : (q : OwnerState) → q ≡ with_item (marked_with o b w t) p (room_at (marked_with o b w t) p) w.key w.value → Kept q → Closes o w b t q

-- the item of a write that appends one with this value is stored at the tail of the log
abbrev pub HasStored : OwnerState → Write → ℕ → ℕ → ℕ → List ℕ → OwnerState → Type 0
HasStored o w b t p value q = q ≡ with_item (marked_with o b w t) p (item_size w.key value) w.key value

-- and of such a write
pub record Appends (o : OwnerState) (w : Write) (b t p : ℕ) (value : List ℕ) : Type 0 where
  pub may : MayAppend (marked_with o b w t) p w.key value
  pub ready : (q : OwnerState) → HasStored o w b t p value q → (marked_in q.phase b ≡ 1) × IsMain q.shape b
  pub closes : (old : Option ℕ) → MatchOption old (HasNoSlot o b w.key) (IsSlotOf o b w.key) → (q q' : OwnerState) (slot tag : ℕ) → HasStored o w b t p value q
      → TakesSlot q b old slot → tag ≡ tag_of o.shape.hashing w.key → q' ≡ after (PutsEntry b slot (entry_of tag p)) q → Kept q' → Closes o w b t q'

-- the record that keeps a put, by its offset
abbrev KeptAt : Option Record → Option ℕ → Type 0
KeptAt found offset = MatchOption offset (found ≡ None) (λ p. (r : Record) × (found ≡ Some r) × (r.offset ≡ p))

module _ (o : OwnerState) (s : Kept o) (may : MayWrite o) (w : Write) (is : IsWrite w) where
  abbrev b : ℕ
  b = bucket_in o w.key

  abbrev h : Held
  h = held o s may.cached

  kept_is : kept_offset o w ≡ option_map (λ (r : Record). r.offset) (kept_record (options_in o) h.m w)
  kept_is = ap (λ (z : State). kept_offset_by (options_in o) z w) h.before

  held_by : (offset : Option ℕ) → kept_offset o w ≡ offset → KeptAt (kept_record (options_in o) h.m w) offset
  held_by offset is = subst (KeptAt (kept_record (options_in o) h.m w)) (sym kept_is ∙ is)
      (elim (kept_record (options_in o) h.m w) as (λ z. KeptAt z (option_map (λ (r : Record). r.offset) z))
      [ None ↦ refl | Some r ↦ (r, refl, refl) ])

  -- The stamp after it

  stamp_after : (t : Cache) → made h w ≡ t → stamp_of (options_in o) (o.history ++ w ∷ []) ≡ t.stamp
  stamp_after t written =
      ap stamp_of_state (state_snoc (options_in o) o.history w ∙ ap (λ (z : State). state_after (options_in o) z w) h.before)
      ∙ (leaves.step_stamp h w ∙ ap (λ (z : Cache). z.stamp) written)

  pub stamp_deleted : w.op ≡ Del → stamp_in o + 1 ≡ stamp_of (options_in o) (o.history ++ w ∷ [])
  stamp_deleted op = ap (λ (n : ℕ). n + 1) (stamp_is h) ∙ sym (stamp_after _ (leaves.is_deleted h w op))

  pub stamp_rewritten : (p : ℕ) → w.op ≡ Put → kept_offset o w ≡ Some p → stamp_in o + 1 ≡ stamp_of (options_in o) (o.history ++ w ∷ [])
  stamp_rewritten p op keeps =
      let r = held_by (Some p) keeps in
      ap (λ (n : ℕ). n + 1) (stamp_is h) ∙ sym (stamp_after _ (leaves.is_rewritten h w r.0 op r.1))

  appends_made : (value : List ℕ) → AppendsValue o w value → made h w ≡ cs.after_append h.m (new_record h.m w.key value)
  appends_made value adds = subst (λ (z : State). AppendsBy (options_in o) z w value) h.before adds

  pub stamp_appended : (value : List ℕ) → AppendsValue o w value → stamp_in o + 65536 * item_size w.key value ≡ stamp_of (options_in o) (o.history ++ w ∷ [])
  stamp_appended value adds =
      ap (λ (n : ℕ). n + 65536 * item_size w.key value) (stamp_is h) ∙ sym (stamp_after _ (appends_made value adds))

  pub stamp_untouched : w.op ≡ Touch → record_of h.m w.key ≡ None → stamp_in o + 1 ≡ stamp_of (options_in o) (o.history ++ w ∷ [])
  stamp_untouched op none = ap (λ (n : ℕ). n + 1) (stamp_is h) ∙ sym (stamp_after _ (leaves.is_untouched h w op none))

  -- Which writes append

  adds_by : (value : List ℕ) → made h w ≡ cs.after_append h.m (new_record h.m w.key value) → AppendsValue o w value
  adds_by value is = subst (λ (z : State). AppendsBy (options_in o) z w value) (sym h.before) is

  -- a put that is not kept
  pub put_appends : w.op ≡ Put → kept_offset o w ≡ None → AppendsValue o w w.value
  put_appends op keeps = adds_by w.value (leaves.is_appended h w op (held_by None keeps))

  -- an add
  pub add_appends : w.op ≡ Add → AppendsValue o w w.value
  add_appends op = adds_by w.value (ap (λ (z : Op). cs.after_op z (options_in o) h.m w) op)

  -- a touch of a key that has a record
  pub touch_appends : w.op ≡ Touch → (r : Record) → record_of h.m w.key ≡ Some r → AppendsValue o w r.value
  touch_appends op r at = adds_by r.value (touched_is (options_in o) h.m w r op at)

  -- The write is marked by this stamp

  module _ (taken : IsAcceptable o w) (t : ℕ) (stamp : t ≡ stamp_of (options_in o) (o.history ++ w ∷ [])) where
    abbrev accepted : AcceptedWrite o
    accepted = record {
      kept = s;
      idle = may.idle;
      unworn = may.not_worn;
      w = w;
      is = is;
      outcome = cs.reply_of w.op (options_in o) w (had_record o w.key);
      accepted = taken;
      may = may_give o may w;
      t = t;
      stamp = stamp;
    }

    pub begins : (c : ℕ) → c ≡ b → MayBegin o c × MayMark (after (Begins c) o) w t
    begins c here = subst (λ (z : ℕ). MayBegin o z × MayMark (after (Begins z) o) w t) (sym here) (may_begin o accepted, may_mark o accepted)

    closes : (words : List ℕ) → StandsFor (written o accepted words) b → (q : OwnerState) → q ≡ written o accepted words → Closes o w b t q
    closes words stands q at = subst (Closes o w b t) (sym at) record {
      end = may_end o accepted words stands;
      gains = λ new e. subst (λ (z : OwnerState). Gains o z w) (sym e) (ended_gains o accepted words);
      stamp = λ new e. stamp ∙ ap (λ (z : OwnerState). stamp_of (options_in z) z.history) (sym e);
    }

    -- a write that leaves its key no record, as before
    leaves_none : record_of (made h w) w.key ≡ None → HasNoSlot o b w.key → (q : OwnerState) → q ≡ marked_with o b w t → Kept q → Closes o w b t q
    leaves_none gone lacks q at k =
        let none : length {A = ℕ} [] ≤ o.shape.words = omega arith in
        closes (marked o accepted).words
        (emptied h accepted (marked o accepted).words (subst Kept at k) gone SLOTS _ (dead_slot h accepted lacks SLOTS (omega arith) (λ last. gone) (λ key r at live. let below = at.entry.in_bucket in absurd (omega arith)))
        (put_effect h accepted 0 [] none SLOTS _ refl) (λ y e. let below = e.in_bucket in absurd (omega arith))) q at

    -- A delete

    pub deletes : w.op ≡ Del → (c : ℕ) → c ≡ b → Deletes o w c t
    deletes op c here =
        let none : length {A = ℕ} [] ≤ o.shape.words = omega arith in
        subst (λ (z : ℕ). Deletes o w z t) (sym here) record {
          cleared = λ slot found q at k.
              let own = found_slot h b (stood o accepted) w.key refl is.key_bytes slot found in
              let effect = entry_effect h accepted 0 [] none slot 0 found.in_bucket in
              closes (after (PutsEntry b slot 0) (marked o accepted)).words
              (emptied h accepted (after (PutsEntry b slot 0) (marked o accepted)).words (subst Kept at k) (leaves.deleted_none h w op) slot 0 (own_slot h accepted slot own.0 own.1) effect
              (λ y e. e.live.0 (sym e.found ∙ effect.here))) q at;
          absent = λ lacks q at k. leaves_none (leaves.deleted_none h w op) lacks q at k;
        }

    -- A touch of a key without a record

    pub untouched : w.op ≡ Touch → (c : ℕ) → c ≡ b → HasNoSlot o c w.key → (q : OwnerState) → q ≡ marked_with o c w t → Kept q → Closes o w c t q
    untouched op c here lacks q at k =
        let none = no_record h c (stands_at h may.idle w.key c here) w.key (sym here) lacks in
        subst (λ (z : ℕ). Closes o w z t q) (sym here)
        (leaves_none (leaves.untouched_none h w op none) (subst (λ (z : ℕ). HasNoSlot o z w.key) here lacks) q (at ∙ ap (λ (z : ℕ). marked_with o z w t) here) k)

    -- A put

    few_words : (room : ℕ) (value : List ℕ) → item_size w.key value ≤ o.shape.words → length (item_words o.shape.hashing room w.key value) ≤ o.shape.words
    few_words room value short = omega (arith, length-item_words o.shape.hashing room w.key value, short)

    -- it leaves its key this record
    leaves_item : (p room : ℕ) (value : List ℕ) → record_of (made h w) w.key ≡ Some (record { key = w.key; value = value; offset = p; room = room })
        → LeavesItem (marked o accepted) p room w.key value
    leaves_item p room value found =
        subst (λ (z : State). written_record (options_in o) z w ≡ Some (record { key = w.key; value = value; offset = p; room = room })) (sym h.before) found

    pub rewrites : w.op ≡ Put → (c p : ℕ) → c ≡ b → kept_offset o w ≡ Some p → Rewrites o w c t p
    rewrites op c p here keeps =
        let r = held_by (Some p) keeps in
        let kept = keeps_put (options_in o) h.m w r.0 r.1 in
        let at = slot_of h b (stood o accepted) w.key r.0 refl kept.is in
        let xs = item_words o.shape.hashing r.0.room w.key w.value in
        let there : SpellsItem (marked o accepted) r.0.offset w.key (cell_at r.0).0 = λ i l.
        marked_item o accepted (r.0.offset + i) ∙ (ap (λ (z : ℕ). item_in o (z + i)) at.1.offset ∙ at.1.spelt.item i l) in
        let fits = fits_kept (options_in o) h.m (machine h) w.key r.0 kept.is in
        let room = item_room (marked o accepted) r.0.offset w.key (cell_at r.0).0 fits.5 (omega (arith, fits.0)) there in
        let window = window_kept (options_in o) h.m (machine h) w.key r.0 kept.is in
        let few = few_words r.0.room w.value (omega (arith, kept.fits, window.0, window.1)) in
        let words = put_words o accepted r.0.offset xs few in
        subst (λ (z : ℕ). Rewrites o w z t p) (sym here) (subst (Rewrites o w b t) r.2 record {
          may = record {
            cell = (cell_at r.0).0;
            there = there;
            leaves = leaves_item r.0.offset r.0.room w.value (leaves.rewritten_own h w r.0 op r.1);
          };
          closes = λ q at_q k.
              let is = at_q ∙ (ap (λ (n : ℕ). with_item (marked o accepted) r.0.offset n w.key w.value) room ∙ put_same o accepted r.0.offset xs few) in
              let live : tail_of (made h w).stamp ≤ r.0.offset + o.shape.words =
              omega (arith, kept.live, ap (λ (z : Cache). tail_of z.stamp) (leaves.is_rewritten h w r.0 op r.1)) in
              closes words (stored h accepted words (subst Kept is k) at.0 (entry_in o b at.0) (own_slot h accepted at.0 r.0 at.1) at.1.entry.in_bucket (record r.0 { key = w.key; value = w.value })
              (leaves.rewritten_own h w r.0 op r.1) live at.1.entry.live.0 (sym at.1.offset) at.1.spelt.tag
              (put_effect h accepted r.0.offset xs few at.0 (entry_in o b at.0)
              (put_entry o accepted r.0.offset xs few b at.0 (let main = main o accepted in omega arith) at.1.entry.in_bucket))) q is;
        })

    -- A write that appends

    module _ (value : List ℕ) (short : item_size w.key value ≤ o.shape.words) (adds : AppendsValue o w value) where
      abbrev p : ℕ
      p = tail_of h.m.stamp

      abbrev xs : List ℕ
      xs = item_words o.shape.hashing (item_size w.key value) w.key value

      few : length xs ≤ o.shape.words
      few = few_words (item_size w.key value) value short

      abbrev filled : OwnerState
      filled = written o accepted (put_words o accepted p xs few)

      filled_stamp : tail_of (stamp_in filled) ≡ tail_of (made h w).stamp
      filled_stamp = ap tail_of (put_stamp o accepted p xs few ∙ (stamp ∙ stamp_after (made h w) refl))

      its_own : record_of (made h w) w.key ≡ Some (new_record h.m w.key value)
      its_own = ap (λ (z : Cache). record_of z w.key) (appends_made value adds) ∙ appended_own (options_in o) h.m w value

      own_live : tail_of (made h w).stamp ≤ p + o.shape.words
      own_live = omega (arith, short, tail_past h.m.stamp (item_size w.key value), ap (λ (z : Cache). tail_of z.stamp) (appends_made value adds))

      before : (old : Option ℕ) (slot : ℕ) → MatchOption old (HasNoSlot o b w.key) (IsSlotOf o b w.key) → TakesSlot filled b old slot → (slot < SLOTS) × Before h accepted slot
      before None slot none gives = slot_that_gives_way h accepted none (new_record h.m w.key value) its_own refl own_live filled refl
          (λ i l. put_entry o accepted p xs few b i (let main = main o accepted in omega arith) l) filled_stamp slot gives
      before (Some old) slot found same =
          let its : IsSlotOf o b w.key slot = subst (IsSlotOf o b w.key) (sym same) found in
          let own = found_slot h b (stood o accepted) w.key refl is.key_bytes slot its in
          (its.in_bucket, own_slot h accepted slot own.0 own.1)

      stands : (slot : ℕ) → (slot < SLOTS) × Before h accepted slot → Kept (after (PutsEntry b slot (entry_of (tag_of o.shape.hashing w.key) p)) filled)
          → StandsFor (after (PutsEntry b slot (entry_of (tag_of o.shape.hashing w.key) p)) filled) b
      stands slot spelt k =
          let low : p < 2 ^ 48 = omega (arith, stamp_limit o s may h.m.stamp (sym (stamp_is h))) in
          stored h accepted (after (PutsEntry b slot (entry_of (tag_of o.shape.hashing w.key) p)) filled).words k slot (entry_of (tag_of o.shape.hashing w.key) p) spelt.1 spelt.0 (new_record h.m w.key value)
          its_own own_live (entry_not_empty (tag_of o.shape.hashing w.key) p (tag_of-range o.shape.hashing w.key).0)
          (entry_offset-entry_of (tag_of o.shape.hashing w.key) p low) (entry_tag-entry_of (tag_of o.shape.hashing w.key) p low) (entry_effect h accepted p xs few slot (entry_of (tag_of o.shape.hashing w.key) p) spelt.0)

      appends_here : Appends o w b t p value
      appends_here = record {
        may = leaves_item p (item_size w.key value) value its_own;
        ready = λ q at. subst (λ (z : OwnerState). (marked_in z.phase b ≡ 1) × IsMain z.shape b) (sym (at ∙ put_same o accepted p xs few))
            (written_marked o accepted (put_words o accepted p xs few), main o accepted);
        closes = λ old found q q' slot tag at takes tag_is entry k.
            let is = at ∙ put_same o accepted p xs few in
            let entry_is = entry ∙ (λ j. after (PutsEntry b slot (entry_of (tag_is j) p)) (is j)) in
            closes (after (PutsEntry b slot (entry_of (tag_of o.shape.hashing w.key) p)) filled).words
            (stands slot (before old slot found (subst (λ (z : OwnerState). TakesSlot z b old slot) is takes)) (subst Kept entry_is k)) q' entry_is;
      }

      pub appends : (c at : ℕ) → c ≡ b → at ≡ tail_of (stamp_in o) → Appends o w c t at value
      appends c at here tail = subst (λ (z : ℕ). Appends o w z t at value) (sym here)
          (subst (λ (z : ℕ). Appends o w b t z value) (sym (tail ∙ ap tail_of (stamp_is h))) appends_here)

    -- A touch of a key that has a record: its item may be carried from where it stands to the tail

    pub may_carry : w.op ≡ Touch → (c from at : ℕ) → c ≡ b → (r : Record) → record_of h.m w.key ≡ Some r → r.offset ≡ from → SpellsItem o from w.key (cell_at r).0 → at ≡ tail_of (stamp_in o)
        → Carries (marked_with o c w t) from at r
    may_carry op c from at here r found offset item tail =
        let key : r.key ≡ w.key = found_key w.key h.m.records r found in
        subst (λ (z : ℕ). Carries (marked_with o z w t) from at r) (sym here) record {
          touched = subst (λ (z : State). IsTouchOf z w from at r) (sym h.before) (op, found, offset, tail ∙ ap tail_of (stamp_is h));
          there = subst (λ (k : List ℕ). SpellsItem (marked o accepted) from k (cell_at r).0) (sym key) (λ i l. marked_item o accepted (from + i) ∙ item i l);
        }

  -- Where a put is kept, by its key's slot

  pub no_slot_keeps : (c : ℕ) → c ≡ b → HasNoSlot o c w.key → kept_offset o w ≡ None
  no_slot_keeps c here none = kept_is ∙ ap (λ (z : Option Record). option_map (λ (r : Record). r.offset) (cs.kept_if (options_in o) h.m w z))
      (no_record h c (stands_at h may.idle w.key c here) w.key (sym here) none)

  pub slot_keeps : (c slot : ℕ) → c ≡ b → IsSlotOf o c w.key slot → (stamp offset room : ℕ) → stamp ≡ stamp_in o → offset ≡ entry_offset (entry_in o c slot)
      → room ≡ room_in o (entry_in o c slot) → (fits : Bool)
      → ((keeps (size_of w) room ≡ true) × (fits ≡ is_live o.shape.words (stamp + 1) offset)) ⊎ ((keeps (size_of w) room ≡ false) × (fits ≡ false)) → then_some fits offset ≡ kept_offset o w
  slot_keeps c slot here found stamp offset room stamp_now offset_is room_now fits fits_is =
      let own = found_slot h c (stands_at h may.idle w.key c here) w.key (sym here) is.key_bytes slot found in
      let offset_held = offset_is ∙ sym own.1.offset in
      let room_held = room_now ∙ room_is o s c (entry_in o c slot) w.key (cell_at own.0).0 own.1.spelt in
      let stamp_held = stamp_now ∙ stamp_is h in
      let may_keep : fits ≡ (keeps (size_of w) room && is_live o.shape.words (stamp + 1) offset) = grind (arith, nat_tests, common_steps, fits_is) in
      let offset_of_kept = λ (z : Option Record). option_map (λ (r : Record). r.offset) z in
      (λ j. then_some ((may_keep ∙ (λ j. keeps (size_of w) (room_held j) && is_live o.shape.words (stamp_held j + 1) (offset_held j))) j) (offset_held j))
      ∙ (elim (cs.may_keep (options_in o) h.m w own.0) as (λ b. then_some b own.0.offset ≡ offset_of_kept (cond b (Some own.0) None)) [ true ↦ refl | false ↦ refl ]
      ∙ (ap (λ (z : Option Record). offset_of_kept (cs.kept_if (options_in o) h.m w z)) (sym own.1.is) ∙ sym kept_is))

-- A key's slot, and the item that its entry names, before a touch
pub record HasItemAt (o : OwnerState) (s : Kept o) (may : MayWrite o) (key : List ℕ) (offset : ℕ) : Type 0 where
  pub r : Record
  pub is : record_of (held o s may.cached).m key ≡ Some r
  pub offset_is : r.offset ≡ offset
  pub item : IsItem o offset key (cell_at r).0
  pub short : item_size key r.value ≤ o.shape.words

pub item_of_slot : (o : OwnerState) (s : Kept o) (may : MayWrite o) (key : List ℕ) → AreBytes key → (b slot offset : ℕ) → b ≡ bucket_in o key → IsSlotOf o b key slot → offset ≡ offset_in o b slot
    → HasItemAt o s may key offset
item_of_slot o s may key bytes b slot offset here found is =
    let h = held o s may.cached in
    let own = found_slot h b (stands_at h may.idle key b here) key (sym here) bytes slot found in
    let window = window_kept (options_in o) h.m (machine h) key own.0 own.1.is in
    let fits = fits_kept (options_in o) h.m (machine h) key own.0 own.1.is in
    record {
      r = own.0;
      is = own.1.is;
      offset_is = own.1.offset ∙ sym is;
      item = subst (λ (p : ℕ). IsItem o p key (cell_at own.0).0) (sym is) (spelt_item o s b _ key (cell_at own.0).0 own.1.spelt);
      short = omega (arith, window.0, window.1, fits.4);
    }
