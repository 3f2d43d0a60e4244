use Rattle.std.proofs.Common.{◌≡◌, length, drop}
use Rattle.mica_client.specs.Batches.{groups_of}
use Rattle.mica_client.specs.Cutting.{IsCutting}
use Rattle.mica_client.proofs.batches.groups_of.Given as goal

abbrev pub invariant-loop-number : goal.invariant-loop-number
invariant-loop-number l = record {
  many : length l.shares.items ≡ l.options.partitions;
  cut : IsCutting l.options l.number (drop l.number l.lines) l.groups.items l.shares.items (groups_of l.options l.lines);
}
