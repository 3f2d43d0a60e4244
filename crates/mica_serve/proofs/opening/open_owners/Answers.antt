use Rattle.std.proofs.Common.{◌≡◌, ◌+◌, ◌*◌, [], List, length, map, sym, ap, ◌∙◌, subst, arith}
use Rattle.std.proofs.lemmas.List.{length-map, length_push}
use Rattle.mica_serve.specs.declared.worker.OwnerTask.{OwnerTask}
use Rattle.mica_serve.specs.Hands.{AreLent}
use Rattle.mica_serve.specs.Tasks.{owner_end}
use Rattle.mica_serve.proofs.LentParts.{hands_none}
use Rattle.mica_serve.proofs.Opened.{rows, none_pushed, owners_pushed}
use Rattle.mica_serve.proofs.opening.open_owners.Goals as goal

pub loop-preserved : goal.loop-preserved
loop-preserved g c =
    let i = c.loop.invariant in
    let new = c.in_ok-with_capacity.field-0 in
    let pushed = c.in_ok-push.ensures.items in
    record {
      many = ap length pushed ∙ length_push c.loop.hands.items new ∙ ap (λ n. n + 1) i.many;
      none = none_pushed c.loop.hands.items c.push.new.self.items new pushed c.in_ok-with_capacity.ensures.items i.none;
    }

pub loop-p-init : goal.loop-p-init
loop-p-init g c =
    let i = c.loop.invariant in
    let f = λ (t : OwnerTask g.row.P.Denot). owner_end g.P.Partition.owner g.P.Partition.home t in
    let options = c.args.options.now in
    let fronts = c.args.ports.now.fronts in
    let most = 255 * c.args.ports.now.batches in
    let hands = c.loop.hands.items in
    let none : c.in_ok-owners.owners.items ≡ [] = c.in_ok-owners.ensures.items in
    record {
      lent = subst (λ (l : List (OwnerTask g.row.P.Denot)). AreLent options fronts most (map f l) (rows hands)) (sym none)
          (hands_none options fronts most (rows hands) (omega (arith, length-map hands (λ own. own.items), i.many, c.loop-test.false, c.loop.auto.counter-end)) i.none);
      many = ap length none;
    }

pub loop-p-preserved : goal.loop-p-preserved
loop-p-preserved g c =
    let i = c.loop-p.invariant in
    let f = λ (t : OwnerTask g.row.P.Denot). owner_end g.P.Partition.owner g.P.Partition.home t in
    let owner = c.in_ok-owner.owner in
    let pushed = c.in_ok-push-2.ensures.items in
    record {
      lent = owners_pushed c.args.options.now c.args.ports.now.fronts (255 * c.args.ports.now.batches) f c.loop-p.owners.items c.push-in-loop-p.new.self.items owner
          (rows c.loop-p.hands.items) (rows c.open_owner.new.hands.items) pushed i.lent c.in_ok-owner.ensures;
      many = ap length pushed ∙ length_push c.loop-p.owners.items owner ∙ ap (λ n. n + 1) i.many;
    }
