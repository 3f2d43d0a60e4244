use Rattle.std.proofs.Common.{◌≡◌, [], length}
use Rattle.mica_client.specs.Cutting.{AllHold}
use Rattle.mica_client.proofs.batches.shares_of.Given as goal

abbrev pub invariant-loop-partition : goal.invariant-loop-partition
invariant-loop-partition l = record {
  many : length l.shares.items ≡ l.partition;
  none : AllHold l.options [] 0 l.shares.items;
}
