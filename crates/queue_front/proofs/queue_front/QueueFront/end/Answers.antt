use Rattle.std.proofs.Common.{◌∙◌, sym, ap, arith, slice_set}
use Rattle.std.proofs.lemmas.List.Edits.{map_over_more}
use Rattle.queue_front.specs.QueueFront.{ended_part}
use Rattle.queue_front.proofs.queue_front.QueueFront.end.Goals as goal

pub loop-part-preserved : goal.loop-part-preserved
loop-part-preserved g c =
    let all = c.deref_mut-part-items.result.now in
    let now = c.loop-part.part-items in
    let x = c.part-item.result in
    ap (slice_set now c.loop-part.part-index) c.end.ensures
    ∙ ap (λ y. slice_set now c.loop-part.part-index (ended_part c.self.inside.number y)) (sym c.part-item.is)
    ∙ map_over_more (ended_part c.self.inside.number) all now c.loop-part.part-index x (omega arith) c.loop-part.invariant c.part-item.is
