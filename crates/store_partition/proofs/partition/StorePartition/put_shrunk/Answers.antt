use Rattle.store_partition.proofs.Words.{AreBytes, CanPlay, HasLonger, IsParted, IsWrite, Put, arith, has_rest, item_events, item_size, plays}
use Rattle.store_partition.proofs.Words.{refl, subst, sym, write_of, ◌+◌, ◌<◌, ◌^◌, ◌∙◌}
use Rattle.store_partition.proofs.Lists.{Gave}
use Rattle.store_partition.proofs.Puts.{HasPut, PutInRoom, ends_low, may_part, shrunk}
use Rattle.store_partition.proofs.Held.{Held, Known}
use Rattle.store_partition.proofs.Parts.{held, known_at}
use Rattle.store_partition.proofs.partition.StorePartition.put_shrunk.Given.{Over}
use Rattle.store_partition.proofs.partition.StorePartition.put_shrunk.Goals.{After-part, After-rewrite_item, Start}
use Rattle.store_partition.proofs.partition.StorePartition.put_shrunk.Goals as goal

-- before the room is parted
module _ (g : Over) (c : Start g) (key_bytes : AreBytes c.args.key.now) (value_bytes : AreBytes c.args.value.now) where
  abbrev h : Held
  h = held c.requires.kept c.args.self.now.parts

  known : Known h c.args.key.now c.args.bucket c.args.spot
  known = known_at c.requires.kept c.args.self.now.parts c.requires.sought key_bytes

  is : IsWrite (write_of Put c.args.key.now c.args.value.now)
  is = record { key = c.requires.key; key_bytes = key_bytes; value = c.requires.value; value_bytes = value_bytes }

  low : c.args.block.offset + c.args.block.room < 2 ^ 32
  low = ends_low h Put tt c.args.key.now c.args.value.now is c.requires.unworn c.args.self.now.accepted c.args.self.now.counted c.args.bucket c.requires.sought.bucket tt c.args.spot known
      c.args.block.offset c.args.block.room c.requires.offset c.requires.room c.requires.fits

  longer : HasLonger c.args.self.now.heap c.args.block.offset (item_size c.args.key.now c.args.value.now)
  longer = may_part h Put tt c.args.key.now c.args.value.now is c.requires.unworn c.args.self.now.accepted c.args.self.now.counted c.args.bucket c.requires.sought.bucket tt c.args.spot known
      c.args.block.offset c.args.block.room c.requires.offset c.requires.room c.requires.fits c.requires.cut

-- and once it was
steps : (g : Over) (c : After-part g)
    → PutInRoom (g.W.OwnerWords.owner c.args.self.now.words) c.args.self.now.index (Gave c.part.new.self (c.args.block.offset + item_size c.args.key.now c.args.value.now))
    (write_of Put c.args.key.now c.args.value.now) c.args.bucket (c.args.self.now.accepted + 1) c.args.block.offset (item_size c.args.key.now c.args.value.now)
steps g c =
    let s = c.args.self.now in
    let r = c.requires in
    let key_bytes : AreBytes c.args.key.now = λ k. omega (arith, c.type_inv.key k) in
    shrunk (held r.kept s.parts) Put tt c.args.key.now c.args.value.now (record { key = r.key; key_bytes = key_bytes; value = r.value; value_bytes = λ k. omega (arith, c.type_inv.value k) }) r.unworn s.accepted s.counted
    c.args.bucket r.sought.bucket tt c.args.spot (known_at r.kept s.parts r.sought key_bytes) c.args.block.offset c.args.block.room r.offset r.room r.fits r.cut c.part.new.self
    (subst (IsParted s.heap c.part.new.self c.args.block.offset) c.item_size-size.ensures c.part.ensures.parted) c.part.ensures.blocks

-- its first words are put
put : (g : Over) (c : After-rewrite_item g) → HasPut (g.W.OwnerWords.owner c.args.self.now.words) (write_of Put c.args.key.now c.args.value.now) c.args.bucket
    (c.args.self.now.accepted + 1) c.args.block.offset (item_size c.args.key.now c.args.value.now) (g.W.OwnerWords.owner c.rewrite_item.new.words)
put g c = c.rewrite_item.ensures.events
    ∙ (λ i. plays (item_events (c.begin_marked.ensures.events i).shape.hashing c.args.block.offset (c.item_size-size.ensures i) c.args.key.now c.args.value.now) (c.begin_marked.ensures.events i))

pub overflow_cast-place : goal.overflow_cast-place
overflow_cast-place g c =
    omega (arith, low g (goal.at.overflow_cast-place g c).Start (λ k. omega (arith, c.type_inv.key k)) (λ k. omega (arith, c.type_inv.value k)))

pub part-requires : goal.part-requires
part-requires g c = subst (HasLonger c.args.self.now.heap c.args.block.offset) (sym c.item_size-size.ensures)
    (longer g (goal.at.part-requires g c).Start (λ k. omega (arith, c.type_inv.key k)) (λ k. omega (arith, c.type_inv.value k)))

pub begin_marked-requires : goal.begin_marked-requires
begin_marked-requires g c = (steps g (goal.at.begin_marked-requires g c).After-part).opens _ refl

pub rewrite_item-requires-clause-allowed : goal.rewrite_item-requires-clause-allowed
rewrite_item-requires-clause-allowed g c =
    subst (λ n. CanPlay (item_events (g.W.OwnerWords.owner c.begin_marked.new.words).shape.hashing c.args.block.offset n c.args.key.now c.args.value.now) (g.W.OwnerWords.owner c.begin_marked.new.words)) (sym c.item_size-size.ensures)
    ((steps g (goal.at.rewrite_item-requires-clause-allowed g c).After-part).item _ c.begin_marked.ensures.events)

pub rewrite_item-requires-clause-there : goal.rewrite_item-requires-clause-there
rewrite_item-requires-clause-there g c = (steps g (goal.at.rewrite_item-requires-clause-there g c).After-part).there _ c.begin_marked.ensures.events

pub end_write-requires : goal.end_write-requires
end_write-requires g c = let z = goal.at.end_write-requires g c in ((steps g z.After-part).closes _ (put g z.After-rewrite_item)).end

pub overflow_add-place : goal.overflow_add-place
overflow_add-place g c =
    omega (arith, low g (goal.at.overflow_add-place g c).Start (λ k. omega (arith, c.type_inv.key k)) (λ k. omega (arith, c.type_inv.value k)), c.requires.fits, c.item_size-size.ensures)

pub give-requires : goal.give-requires
give-requires g c = has_rest c.args.self.now.heap c.part.new.self c.args.block.offset c.item_size-size.result c.part.ensures.parted

pub invariant_of-self : goal.invariant_of-self
invariant_of-self g c =
    let z = goal.at.invariant_of-self g c in
    let closed = (steps g z.After-part).closes _ (put g z.After-rewrite_item) in
    (closed.ended _ c.give.new.self c.end_write.ensures.event
    (subst (λ n. Gave c.part.new.self (c.args.block.offset + n) c.give.new.self) c.item_size-size.ensures (c.give.ensures.given, c.give.ensures.blocks))).invariant

pub returns-clause-step : goal.returns-clause-step
returns-clause-step g c =
    let z = goal.at.returns-clause-step g c in
    let closed = (steps g z.After-part).closes _ (put g z.After-rewrite_item) in
    (closed.ended _ c.give.new.self c.end_write.ensures.event
    (subst (λ n. Gave c.part.new.self (c.args.block.offset + n) c.give.new.self) c.item_size-size.ensures (c.give.ensures.given, c.give.ensures.blocks))).step
