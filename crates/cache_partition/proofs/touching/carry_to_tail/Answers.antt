use Rattle.cache_partition.proofs.Words.{AppendsValue, Carries, HasNoSlot, IfSome, IsSlotOf, MatchOption, Option, OwnerState, Some, Touch, Write, []}
use Rattle.cache_partition.proofs.Words.{ap, arith, cell_at, found_key, hash_tag, item_size, item_size-most, marked_with, offset_in, options_in, refl, stamp_of, subst, sym, tag_of_hash, tail_of}
use Rattle.cache_partition.proofs.Words.{with_item, write_of, List, ℕ, ◌*◌, ◌++◌, ◌+◌, ◌∙◌, ◌∷◌, ◌≡◌}
use Rattle.cache_partition.proofs.Held.{held}
use Rattle.cache_partition.proofs.Writes.{Appends, Closes, HasItemAt, HasStored, appends, item_of_slot, may_carry, stamp_appended, stamp_limit, touch_appends, touch_taken}
use Rattle.cache_partition.proofs.touching.carry_to_tail.Given.{Over}
use Rattle.cache_partition.proofs.touching.carry_to_tail.Goals as goal
use Rattle.cache_partition.proofs.touching.carry_to_tail.Goals.{Start, After-from, After-begin, After-carry, After-place}

slot_is : (g : Over) (c : Start g) → IsSlotOf (g.W.OwnerWords.owner c.args.words.now) c.args.sought.now.bucket c.args.key.now c.args.slot
slot_is g c =
    let o = g.W.OwnerWords.owner c.args.words.now in
    subst (λ (z : Option ℕ). MatchOption z (HasNoSlot o c.args.sought.now.bucket c.args.key.now) (IsSlotOf o c.args.sought.now.bucket c.args.key.now)) c.requires.slot c.requires.sought.found

offset_is : (g : Over) (c : Start g) → c.args.sought.now.offset ≡ offset_in (g.W.OwnerWords.owner c.args.words.now) c.args.sought.now.bucket c.args.slot
offset_is g c =
    let o = g.W.OwnerWords.owner c.args.words.now in
    subst (λ (z : Option ℕ). IfSome z (λ slot. c.args.sought.now.offset ≡ offset_in o c.args.sought.now.bucket slot)) c.requires.slot c.requires.sought.offset

its : (g : Over) (c : Start g) → HasItemAt (g.W.OwnerWords.owner c.args.words.now) c.requires.kept c.requires.may c.args.key.now c.args.sought.now.offset
its g c = item_of_slot (g.W.OwnerWords.owner c.args.words.now) c.requires.kept c.requires.may c.args.key.now c.requires.write.key_bytes c.args.sought.now.bucket c.args.slot c.args.sought.now.offset
    c.requires.sought.bucket (slot_is g c) (offset_is g c)

module _ (g : Over) (c : After-from g) (i : HasItemAt (g.W.OwnerWords.owner c.args.words.now) c.requires.kept c.requires.may c.args.key.now c.args.sought.now.offset) where
  abbrev o : OwnerState
  o = g.W.OwnerWords.owner c.args.words.now

  abbrev w : Write
  w = write_of Touch c.args.key.now []

  abbrev t : ℕ
  t = c.args.sought.now.stamp + 65536 * c.from.result

  size_is : c.from.result ≡ item_size c.args.key.now i.r.value
  size_is = c.from.ensures ∙ c.size_at-size.ensures.size c.args.key.now (cell_at i.r).0 i.item

  adds : AppendsValue o w i.r.value
  adds = touch_appends o c.requires.kept c.requires.may w c.requires.write refl i.r i.is

  stamp : t ≡ stamp_of (options_in o) (o.history ++ w ∷ [])
  stamp = (λ j. c.requires.sought.stamp j + 65536 * size_is j) ∙ stamp_appended o c.requires.kept c.requires.may w c.requires.write i.r.value adds

  steps : Appends o w c.args.sought.now.bucket t c.tail_of-tail.result i.r.value
  steps = appends o c.requires.kept c.requires.may w c.requires.write (touch_taken o c.args.key.now []) t stamp i.r.value i.short adds c.args.sought.now.bucket c.tail_of-tail.result
      c.requires.sought.bucket (c.tail_of-tail.ensures ∙ ap tail_of c.requires.sought.stamp)

  carries : Carries (marked_with o c.args.sought.now.bucket w t) c.args.sought.now.offset c.tail_of-tail.result i.r
  carries = may_carry o c.requires.kept c.requires.may w c.requires.write (touch_taken o c.args.key.now []) t stamp refl c.args.sought.now.bucket c.args.sought.now.offset c.tail_of-tail.result
      c.requires.sought.bucket i.r i.is i.offset_is i.item.spelt (c.tail_of-tail.ensures ∙ ap tail_of c.requires.sought.stamp)

marked_is : (g : Over) (c : After-begin g) → g.W.OwnerWords.owner c.begin.new.words
    ≡ marked_with (g.W.OwnerWords.owner c.args.words.now) c.args.sought.now.bucket (write_of Touch c.args.key.now []) (c.args.sought.now.stamp + 65536 * c.from.result)
marked_is g c = c.begin.ensures.marked
    ∙ ap (λ (z : OwnerState). marked_with z c.args.sought.now.bucket (write_of Touch c.args.key.now []) (c.args.sought.now.stamp + 65536 * c.from.result)) c.size_at-size.ensures.same

-- the item is stored
stored : (g : Over) (c : After-carry g) (i : HasItemAt (g.W.OwnerWords.owner c.args.words.now) c.requires.kept c.requires.may c.args.key.now c.args.sought.now.offset)
    → Carries (marked_with (g.W.OwnerWords.owner c.args.words.now) c.args.sought.now.bucket (write_of Touch c.args.key.now []) (c.args.sought.now.stamp + 65536 * c.from.result)) c.args.sought.now.offset c.tail_of-tail.result i.r
    → g.W.OwnerWords.owner c.begin.new.words ≡ marked_with (g.W.OwnerWords.owner c.args.words.now) c.args.sought.now.bucket (write_of Touch c.args.key.now []) (c.args.sought.now.stamp + 65536 * c.from.result)
    → HasStored (g.W.OwnerWords.owner c.args.words.now) (write_of Touch c.args.key.now []) c.args.sought.now.bucket
    (c.args.sought.now.stamp + 65536 * c.from.result) c.tail_of-tail.result i.r.value (g.W.OwnerWords.owner c.carry.new.words)
stored g c i carries marked =
    let key : i.r.key ≡ c.args.key.now = found_key c.args.key.now (held (g.W.OwnerWords.owner c.args.words.now) c.requires.kept c.requires.may.cached).m.records i.r i.is in
    c.carry.ensures.item i.r (subst (λ (z : OwnerState). Carries z c.args.sought.now.offset c.tail_of-tail.result i.r) (sym marked) carries)
    ∙ (λ j. with_item (marked j) c.tail_of-tail.result (item_size (key j) i.r.value) (key j) i.r.value)

-- and its slot names it
closes : (g : Over) (c : After-place g) (value : List ℕ) → IsSlotOf (g.W.OwnerWords.owner c.args.words.now) c.args.sought.now.bucket c.args.key.now c.args.slot
    → Appends (g.W.OwnerWords.owner c.args.words.now) (write_of Touch c.args.key.now []) c.args.sought.now.bucket (c.args.sought.now.stamp + 65536 * c.from.result) c.tail_of-tail.result value
    → HasStored (g.W.OwnerWords.owner c.args.words.now) (write_of Touch c.args.key.now []) c.args.sought.now.bucket
    (c.args.sought.now.stamp + 65536 * c.from.result) c.tail_of-tail.result value (g.W.OwnerWords.owner c.carry.new.words)
    → Closes (g.W.OwnerWords.owner c.args.words.now) (write_of Touch c.args.key.now []) c.args.sought.now.bucket (c.args.sought.now.stamp + 65536 * c.from.result)
    (g.W.OwnerWords.owner c.place.new.words)
closes g c value slot steps stored = steps.closes (Some c.args.slot) slot _ _ c.place.result c.tag_of.result stored c.place.ensures.slot
    (c.tag_of.ensures ∙ (ap hash_tag c.requires.sought.hash ∙ sym (tag_of_hash (g.W.OwnerWords.owner c.args.words.now).shape.hashing c.args.key.now))) c.place.ensures.entry c.place.ensures.kept

pub size_at-size-requires-clause-offset : goal.size_at-size-requires-clause-offset
size_at-size-requires-clause-offset g c = let is = offset_is g (goal.at.size_at-size-requires-clause-offset g c).Start in omega arith

pub size_at-size-requires-clause-item : goal.size_at-size-requires-clause-item
size_at-size-requires-clause-item g c = let i = its g (goal.at.size_at-size-requires-clause-item g c).Start in (c.args.key.now, (cell_at i.r).0, i.item)

pub overflow_add-stamp : goal.overflow_add-stamp
overflow_add-stamp g c =
    let z = goal.at.overflow_add-stamp g c in
    let i = its g z.Start in
    let small = stamp_limit (g.W.OwnerWords.owner c.args.words.now) c.requires.kept c.requires.may c.args.sought.now.stamp c.requires.sought.stamp in
    omega (arith, small, item_size-most c.args.key.now i.r.value i.item.key_fits i.item.value_fits, c.from.ensures, c.size_at-size.ensures.size c.args.key.now (cell_at i.r).0 i.item)

pub begin-requires-clause-taken : goal.begin-requires-clause-taken
begin-requires-clause-taken g c = touch_taken (g.W.OwnerWords.owner c.size_at-size.new.words) c.args.key.now []

pub begin-requires-clause-stamp : goal.begin-requires-clause-stamp
begin-requires-clause-stamp g c =
    let z = goal.at.begin-requires-clause-stamp g c in
    subst (λ (o : OwnerState). c.args.sought.now.stamp + 65536 * c.from.result ≡ stamp_of (options_in o) (o.history ++ write_of Touch c.args.key.now [] ∷ [])) (sym c.size_at-size.ensures.same)
    (stamp g z.After-from (its g z.Start))

pub carry-requires : goal.carry-requires
carry-requires g c =
    let z = goal.at.carry-requires g c in
    let i = its g z.Start in
    record { marked = (i.r, subst (λ (o : OwnerState). Carries o c.args.sought.now.offset c.tail_of-tail.result i.r) (sym (marked_is g z.After-begin)) (carries g z.After-from i)) }

pub place-requires-clause-marked : goal.place-requires-clause-marked
place-requires-clause-marked g c =
    let z = goal.at.place-requires-clause-marked g c in
    let i = its g z.Start in
    ((steps g z.After-from i).ready _ (stored g z.After-carry i (carries g z.After-from i) (marked_is g z.After-begin))).0

pub place-requires-clause-bucket : goal.place-requires-clause-bucket
place-requires-clause-bucket g c =
    let z = goal.at.place-requires-clause-bucket g c in
    let i = its g z.Start in
    ((steps g z.After-from i).ready _ (stored g z.After-carry i (carries g z.After-from i) (marked_is g z.After-begin))).1

pub place-requires-clause-old : goal.place-requires-clause-old
place-requires-clause-old g c = (slot_is g (goal.at.place-requires-clause-old g c).Start).in_bucket

pub end_write-requires : goal.end_write-requires
end_write-requires g c =
    let z = goal.at.end_write-requires g c in
    let i = its g z.Start in
    (closes g z.After-place i.r.value (slot_is g z.Start) (steps g z.After-from i) (stored g z.After-carry i (carries g z.After-from i) (marked_is g z.After-begin))).end

pub returns-clause-gains : goal.returns-clause-gains
returns-clause-gains g c =
    let z = goal.at.returns-clause-gains g c in
    let i = its g z.Start in
    (closes g z.After-place i.r.value (slot_is g z.Start) (steps g z.After-from i) (stored g z.After-carry i (carries g z.After-from i) (marked_is g z.After-begin))).gains _ c.end_write.ensures.event

pub returns-clause-stamp : goal.returns-clause-stamp
returns-clause-stamp g c =
    let z = goal.at.returns-clause-stamp g c in
    let i = its g z.Start in
    (closes g z.After-place i.r.value (slot_is g z.Start) (steps g z.After-from i) (stored g z.After-carry i (carries g z.After-from i) (marked_is g z.After-begin))).stamp _ c.end_write.ensures.event
