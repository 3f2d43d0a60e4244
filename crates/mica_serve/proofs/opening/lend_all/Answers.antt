use Rattle.std.proofs.Common.{arith, ap, refl, slice_set, length, ◌<◌}
use Rattle.std.specs.Vec.Iter.{into_iter_items}
use Rattle.std.proofs.lemmas.List.{length-map}
use Rattle.std.proofs.lemmas.Option.{slice_get_read}
use Rattle.mica_serve.specs.Tasks.{owner_end}
use Rattle.mica_serve.specs.declared.worker.OwnerTask.{OwnerTask}
use Rattle.mica_serve.proofs.Opened.{rows, lends_first, lends_next, lends_last}
use Rattle.mica_serve.proofs.opening.lend_all.Goals as goal

pub loop-sender-init : goal.loop-sender-init
loop-sender-init g c =
    let end = λ (t : OwnerTask g.row.P.Denot). owner_end g.P.Partition.owner g.P.Partition.home t in
    let hands = c.args.hands.now.items in
    lends_first (end c.args.owner.now) c.args.senders.items (into_iter_items c.into_iter-sender-iterator.result) (rows hands) c.requires.none c.requires.senders
    (omega (arith, c.requires.many, length-map hands (λ own. own.items))) c.into_iter-sender-iterator.ensures.into_iter_gives.0

pub loop-sender-preserved : goal.loop-sender-preserved
loop-sender-preserved g c =
    let end = λ (t : OwnerTask g.row.P.Denot). owner_end g.P.Partition.owner g.P.Partition.home t in
    let i = c.loop-sender.invariant in
    let hands = c.loop-sender.hands in
    let k = c.loop-sender.at in
    let head = c.in-Some.ensures.steps.0 in
    let hand = c.index_mut-hand.result.now in
    let low : k < length hands.items = omega (arith, i.left_many, ap length head, i.lends.many, length-map hands.items (λ own. own.items), length-map c.args.hands.now.items (λ own. own.items)) in
    lends_next (end c.args.owner.now) (end c.loop-sender.owner) (end c.lend.new.self) k (into_iter_items c.loop-sender.sender-iterator) (into_iter_items c.next.new.self)
    (rows c.args.hands.now.items) hands.items (slice_set hands.items k c.push.new.self) c.in-Some.sender c.in_ok-part.part hand c.push.new.self i head c.in_ok-part.ensures
    (slice_get_read hands.items (length hands.items) k hand refl low c.index_mut-hand.ensures.value) c.in_ok-push.ensures.items refl

pub returns : goal.returns
returns g c =
    let end = λ (t : OwnerTask g.row.P.Denot). owner_end g.P.Partition.owner g.P.Partition.home t in
    let left = c.loop-sender.sender-iterator in
    lends_last (end c.args.owner.now) (end c.loop-sender.owner) c.loop-sender.at (into_iter_items left) (rows c.args.hands.now.items) (rows c.loop-sender.hands.items)
    (omega (arith, c.in-None.ensures.steps.0, left.rest.ok)) c.loop-sender.invariant

pub index_mut-hand-requires : goal.index_mut-hand-requires
index_mut-hand-requires g c =
    let i = c.loop-sender.invariant in
    let hands = c.loop-sender.hands in
    omega (arith, i.left_many, ap length c.in-Some.ensures.steps.0, i.lends.many, hands.ok, length-map hands.items (λ own. own.items), length-map c.args.hands.now.items (λ own. own.items))

pub overflow_add-at : goal.overflow_add-at
overflow_add-at g c =
    let i = c.loop-sender.invariant in
    let hands = c.args.hands.now in
    omega (arith, i.left_many, ap length c.in-Some.ensures.steps.0, hands.ok, c.requires.few, length-map hands.items (λ own. own.items))
