use Rattle.std.proofs.Common.{◌≡◌, ◌++◌, []}
use Rattle.std.specs.Prelude.{flat_map}
use Rattle.std.specs.Vec.Iter.{into_iter_items}
use Rattle.mica_client.specs.Cutting.{share_with}
use Rattle.mica_client.proofs.batches.push_round.Given as goal

abbrev pub invariant-loop-share : goal.invariant-loop-share
invariant-loop-share l =
    l.groups.items ++ flat_map (λ share. share_with l.per share []) (into_iter_items l.share-iterator)
    ≡ l.fn.groups.items ++ flat_map (λ share. share_with l.per share []) l.fn.shares.items
