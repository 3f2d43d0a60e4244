use Rattle.std.proofs.Common.{◌+◌, ◌*◌, ◌++◌, List, length, map, sym, ap, ◌∙◌, subst, arith, append-nil}
use Rattle.std.specs.Vec.Iter.{into_iter_items}
use Rattle.std.proofs.lemmas.List.{length-map, length_push}
use Rattle.std.proofs.lemmas.Option.{slice_get_within}
use Rattle.mica_serve.specs.declared.worker.OwnerTask.{OwnerTask}
use Rattle.mica_serve.specs.Hands.{AreLent}
use Rattle.queue_front.specs.QueueFront.{QueueView, queue_view}
use Rattle.mica_serve.specs.Tasks.{owner_end}
use Rattle.queue_front.specs.declared.queue_front.FrontPart.{FrontPart}
use Rattle.served.proofs.MadeOf.{nil_of}
use Rattle.mica_serve.proofs.Opened.{rows, parts_of, next_long, next_new, next_lent, fronts_pushed}
use Rattle.mica_serve.proofs.opening.open_all.Goals as goal

pub new-requires-clause-many : goal.new-requires-clause-many
new-requires-clause-many g c =
    let i = c.loop-hand.invariant in
    let f = λ (t : OwnerTask g.row.P.Denot). owner_end g.P.Partition.owner g.P.Partition.home t in
    let owners = c.in_ok-owners.owners.items in
    let hand = c.in-Some.hand in
    let rest = into_iter_items c.next.new.self in
    let left = into_iter_items c.loop-hand.hand-iterator in
    let long = next_long c.args.options.now c.args.ports.now.fronts (255 * c.args.ports.now.batches) (map f owners) c.loop-hand.fronts.items c.loop-hand.number i.number
    (rows left) hand.items (rows rest) (ap rows c.in-Some.ensures.steps.0) i.lent in
    omega (arith, long, hand.ok, length-map owners f, c.in_ok-owners.ensures.many)

pub new-requires-clause-each : goal.new-requires-clause-each
new-requires-clause-each g c =
    let i = c.loop-hand.invariant in
    let f = λ (t : OwnerTask g.row.P.Denot). owner_end g.P.Partition.owner g.P.Partition.home t in
    let rest = into_iter_items c.next.new.self in
    let left = into_iter_items c.loop-hand.hand-iterator in
    next_new c.args.options.now c.args.ports.now.fronts (255 * c.args.ports.now.batches) (map f c.in_ok-owners.owners.items) c.loop-hand.fronts.items c.loop-hand.number i.number
    (rows left) c.in-Some.hand.items (rows rest) (ap rows c.in-Some.ensures.steps.0) i.lent

pub loop-hand-init : goal.loop-hand-init
loop-hand-init g c =
    let f = λ (t : OwnerTask g.row.P.Denot). owner_end g.P.Partition.owner g.P.Partition.home t in
    let left = into_iter_items c.into_iter-hand-iterator.result in
    let none = c.requires.none in
    record {
      lent = subst (λ (l : List (List FrontPart)). AreLent c.args.options.now c.args.ports.now.fronts (255 * c.args.ports.now.batches) (map f c.in_ok-owners.owners.items) l)
          (sym (ap (λ (l : List QueueView). parts_of l ++ rows left) none ∙ ap rows c.into_iter-hand-iterator.ensures.into_iter_gives.0)) c.in_ok-owners.ensures.lent;
      number = sym (ap length none);
      each = λ n front at. absurd (let low = slice_get_within c.args.fronts.now.items n front at in let long = ap length none in omega arith);
    }

pub loop-hand-preserved : goal.loop-hand-preserved
loop-hand-preserved g c =
    let i = c.loop-hand.invariant in
    let f = λ (t : OwnerTask g.row.P.Denot). owner_end g.P.Partition.owner g.P.Partition.home t in
    let options = c.args.options.now in
    let fronts = c.args.ports.now.fronts in
    let most = 255 * c.args.ports.now.batches in
    let owners = map f c.in_ok-owners.owners.items in
    let hand = c.in-Some.hand in
    let rest = into_iter_items c.next.new.self in
    let left = into_iter_items c.loop-hand.hand-iterator in
    let made = c.loop-hand.fronts.items in
    let n = c.loop-hand.number in
    let new = c.new.result in
    let pushed = c.in_ok-push.ensures.items in
    record {
      lent = next_lent options fronts most owners made n i.number (rows left) hand.items (rows rest) (ap rows c.in-Some.ensures.steps.0) i.lent c.push.new.self.items new pushed
          (ap (λ (v : QueueView). v.parts) c.new.ensures);
      number = ap (λ m. m + 1) i.number ∙ sym (ap length pushed ∙ length_push made new);
      each = fronts_pushed options fronts most owners made n i.number c.push.new.self.items new pushed
          (c.new.ensures ∙ ap (λ (v : QueueView). queue_view options n 0 most v.parts) (sym c.new.ensures)) i.each;
    }

pub returns : goal.returns
returns g c =
    let i = c.loop-hand.invariant in
    let f = λ (t : OwnerTask g.row.P.Denot). owner_end g.P.Partition.owner g.P.Partition.home t in
    let made = c.loop-hand.fronts.items in
    let owners = c.in_ok-owners.owners.items in
    let none = nil_of (into_iter_items c.loop-hand.hand-iterator) (omega (arith, c.in-None.ensures.steps.0, c.loop-hand.hand-iterator.rest.ok)) in
    record {
      lent = subst (λ (l : List (List FrontPart)). AreLent c.args.options.now c.args.ports.now.fronts (255 * c.args.ports.now.batches) (map f owners) l)
          (ap (λ l. parts_of made ++ rows l) none ∙ append-nil (parts_of made)) i.lent;
      partitions = length-map owners f ∙ c.in_ok-owners.ensures.many;
      each = i.each;
    }
