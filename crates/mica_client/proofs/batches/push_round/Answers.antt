use Rattle.std.proofs.Common.{[], ◌++◌, List, sym, ap, ◌∙◌, append_assoc}
use Rattle.std.specs.Prelude.{flat_map}
use Rattle.std.specs.Vec.Iter.{into_iter_items}
use Rattle.mica_client.specs.declared.share.Share.{Share}
use Rattle.mica_client.specs.Batches.{Group}
use Rattle.mica_client.specs.Cutting.{share_with}
use Rattle.mica_client.proofs.batches.push_round.Goals as goal

pub loop-share-preserved : goal.loop-share-preserved
loop-share-preserved c =
    let batches = λ (share : Share). share_with c.args.per share [] in
    let rest = flat_map batches (into_iter_items c.next.new.self) in
    ap (λ (l : List Group). l ++ rest) (c.in_ok-finish.ensures c.args.per)
    ∙ append_assoc c.loop-share.groups.items (batches c.in-Some.share) rest
    ∙ ap (λ (l : List Share). c.loop-share.groups.items ++ flat_map batches l) (sym c.in-Some.ensures.steps.0)
    ∙ c.loop-share.invariant
