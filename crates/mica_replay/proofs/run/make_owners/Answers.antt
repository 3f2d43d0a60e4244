use Rattle.std.proofs.Common.{◌≡◌, ℕ, ◌∷◌, Some, Option, All, IfSome, List, arith, map, length, slice_get, sym, ap, ◌∙◌, subst}
use Rattle.std.specs.Vec.Iter.{into_iter_items}
use Rattle.std.proofs.lemmas.List.{length_push}
use Rattle.std.proofs.lemmas.List.Elements.{All-head, All-tail}
use Rattle.partition_words.specs.Shape.{shape_of}
use Rattle.partition_words.specs.OwnerState.{as_made}
use Rattle.mica_replay.specs.declared.worker.OwnerWork.{OwnerWork}
use Rattle.mica_replay.specs.Lending.{OwnerPart, owner_part}
use Rattle.mica_replay.proofs.RoundSteps.{each_more}
use Rattle.mica_replay.proofs.run.make_owners.Goals as goal

pub loop-made-preserved : goal.loop-made-preserved
loop-made-preserved g c =
    let f = λ (w : OwnerWork g.row.P.Denot). owner_part g.P.Partition.owner g.P.Partition.home w in
    let made = as_made (shape_of c.args.options.now) in
    let IsMade = λ (part : Option g.row.P.Denot). IfSome part (λ p. g.P.OnTable.state p ≡ made) in
    let next = c.in-Some.ensures.steps.0 in
    let left : All IsMade (c.in-Some.made ∷ into_iter_items c.next.new.self) = subst (All IsMade) next c.loop-made.invariant.left in
    record {
      many = let long = ap length c.in_ok-push.ensures.items ∙ length_push c.loop-made.owners.items _ in omega (arith, long, c.loop-made.invariant.many, ap length next);
      left = All-tail IsMade c.in-Some.made (into_iter_items c.next.new.self) left;
      made = subst (λ (items : List (OwnerWork g.row.P.Denot)). (i : ℕ) (w : OwnerPart) → slice_get (map f items) i ≡ Some w → w.state ≡ made) (sym c.in_ok-push.ensures.items)
          (each_more f (λ (w : OwnerPart). w.state ≡ made) c.loop-made.owners.items _ c.loop-made.invariant.made
          (sym (c.requires.same c.in-Some-made.part) ∙ subst IsMade c.in-Some-made.is (All-head IsMade c.in-Some.made (into_iter_items c.next.new.self) left)));
    }
