use Rattle.store_partition.proofs.Words.{AreBytes, IsOwnerStep, [], arith, refl, subst, write_of, ◌+◌}
use Rattle.store_partition.proofs.Marks.{MarkOnly, marks_only, reply_left}
use Rattle.store_partition.proofs.Parts.{held}
use Rattle.store_partition.proofs.partition.StorePartition.mark_only.Given.{Over}
use Rattle.store_partition.proofs.partition.StorePartition.mark_only.Goals.{Start}
use Rattle.store_partition.proofs.partition.StorePartition.mark_only.Goals as goal

steps : (g : Over) (c : Start g) → AreBytes c.args.key.now → MarkOnly (g.W.OwnerWords.owner c.args.self.now.words) c.args.self.now.index c.args.self.now.heap
    (write_of c.args.op c.args.key.now []) c.args.bucket (c.args.self.now.accepted + 1) (reply_left c.args.spot)
steps g c bytes =
    marks_only (held c.requires.kept c.args.self.now.parts) c.args.key.now c.requires.key bytes c.requires.unworn c.args.self.now.accepted c.args.self.now.counted
    c.args.bucket c.requires.sought.bucket c.args.op c.args.spot c.requires.op c.requires.sought.found

pub begin_marked-requires : goal.begin_marked-requires
begin_marked-requires g c = (steps g (goal.at.begin_marked-requires g c).Start (λ k. omega (arith, c.type_inv.key k))).opens _ refl

pub end_write-requires : goal.end_write-requires
end_write-requires g c = ((steps g (goal.at.end_write-requires g c).Start (λ k. omega (arith, c.type_inv.key k))).closes _ c.begin_marked.ensures.events).end

pub invariant_of-self : goal.invariant_of-self
invariant_of-self g c =
    let closed = (steps g (goal.at.invariant_of-self g c).Start (λ k. omega (arith, c.type_inv.key k))).closes _ c.begin_marked.ensures.events in
    (closed.ended _ _ c.end_write.ensures.event refl).invariant

pub returns-in-Some-clause-step : goal.returns-in-Some-clause-step
returns-in-Some-clause-step g c =
    let closed = (steps g (goal.at.returns-in-Some-clause-step g c).Start (λ k. omega (arith, c.type_inv.key k))).closes _ c.begin_marked.ensures.events in
    subst (λ o. IsOwnerStep (g.W.OwnerWords.owner c.args.self.now.words) (g.W.OwnerWords.owner c.end_write.new.self) (write_of c.args.op c.args.key.now []) (reply_left o)) c.in-Some.is
    (closed.ended _ _ c.end_write.ensures.event refl).step

pub returns-in-None-clause-step : goal.returns-in-None-clause-step
returns-in-None-clause-step g c =
    let closed = (steps g (goal.at.returns-in-None-clause-step g c).Start (λ k. omega (arith, c.type_inv.key k))).closes _ c.begin_marked.ensures.events in
    subst (λ o. IsOwnerStep (g.W.OwnerWords.owner c.args.self.now.words) (g.W.OwnerWords.owner c.end_write.new.self) (write_of c.args.op c.args.key.now []) (reply_left o)) c.in-None.is
    (closed.ended _ _ c.end_write.ensures.event refl).step
