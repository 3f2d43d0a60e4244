use Rattle.store_partition.proofs.Words.{AreBytes, Put, ap, arith, item_events, item_size, plays, refl, write_of, ◌+◌, ◌∙◌, ◌≡◌}
use Rattle.store_partition.proofs.Held.{fits_kept}
use Rattle.store_partition.proofs.Puts.{HasPut, PutInRoom, in_room}
use Rattle.store_partition.proofs.Parts.{held, known_at}
use Rattle.store_partition.proofs.partition.StorePartition.put_in_room.Given.{Over}
use Rattle.store_partition.proofs.partition.StorePartition.put_in_room.Goals.{After-rewrite_item, Start}
use Rattle.store_partition.proofs.partition.StorePartition.put_in_room.Goals as goal

steps : (g : Over) (c : Start g) → AreBytes c.args.key.now → AreBytes c.args.value.now
    → PutInRoom (g.W.OwnerWords.owner c.args.self.now.words) c.args.self.now.index (λ bs. bs ≡ c.args.self.now.heap) (write_of Put c.args.key.now c.args.value.now)
    c.args.bucket (c.args.self.now.accepted + 1) c.args.block.offset c.args.block.room
steps g c key_bytes value_bytes =
    let s = c.args.self.now in
    let r = c.requires in
    in_room (held r.kept s.parts) Put tt c.args.key.now c.args.value.now (record { key = r.key; key_bytes = key_bytes; value = r.value; value_bytes = value_bytes }) r.unworn s.accepted s.counted
    c.args.bucket r.sought.bucket tt c.args.spot (known_at r.kept s.parts r.sought key_bytes) c.args.block.offset c.args.block.room r.offset r.room
    (fits_kept (item_size c.args.key.now c.args.value.now) c.args.block.room r.stays) r.stays

put : (g : Over) (c : After-rewrite_item g) → HasPut (g.W.OwnerWords.owner c.args.self.now.words) (write_of Put c.args.key.now c.args.value.now) c.args.bucket
    (c.args.self.now.accepted + 1) c.args.block.offset c.args.block.room (g.W.OwnerWords.owner c.rewrite_item.new.words)
put g c = c.rewrite_item.ensures.events ∙ ap (λ z. plays (item_events z.shape.hashing c.args.block.offset c.args.block.room c.args.key.now c.args.value.now) z) c.begin_marked.ensures.events

pub begin_marked-requires : goal.begin_marked-requires
begin_marked-requires g c =
    (steps g (goal.at.begin_marked-requires g c).Start (λ k. omega (arith, c.type_inv.key k)) (λ k. omega (arith, c.type_inv.value k))).opens _ refl

pub rewrite_item-requires-clause-allowed : goal.rewrite_item-requires-clause-allowed
rewrite_item-requires-clause-allowed g c =
    let z = goal.at.rewrite_item-requires-clause-allowed g c in
    (steps g z.Start (λ k. omega (arith, c.type_inv.key k)) (λ k. omega (arith, c.type_inv.value k))).item _ c.begin_marked.ensures.events

pub rewrite_item-requires-clause-there : goal.rewrite_item-requires-clause-there
rewrite_item-requires-clause-there g c =
    let z = goal.at.rewrite_item-requires-clause-there g c in
    (steps g z.Start (λ k. omega (arith, c.type_inv.key k)) (λ k. omega (arith, c.type_inv.value k))).there _ c.begin_marked.ensures.events

pub end_write-requires : goal.end_write-requires
end_write-requires g c =
    let z = goal.at.end_write-requires g c in
    ((steps g z.Start (λ k. omega (arith, c.type_inv.key k)) (λ k. omega (arith, c.type_inv.value k))).closes _ (put g z.After-rewrite_item)).end

pub invariant_of-self : goal.invariant_of-self
invariant_of-self g c =
    let z = goal.at.invariant_of-self g c in
    let closed = (steps g z.Start (λ k. omega (arith, c.type_inv.key k)) (λ k. omega (arith, c.type_inv.value k))).closes _ (put g z.After-rewrite_item) in
    (closed.ended _ _ c.end_write.ensures.event refl).invariant

pub returns-clause-step : goal.returns-clause-step
returns-clause-step g c =
    let z = goal.at.returns-clause-step g c in
    let closed = (steps g z.Start (λ k. omega (arith, c.type_inv.key k)) (λ k. omega (arith, c.type_inv.value k))).closes _ (put g z.After-rewrite_item) in
    (closed.ended _ _ c.end_write.ensures.event refl).step
