use Rattle.std.proofs.Common.{◌≡◌, take, replicate, length}
use Rattle.std.specs.List.{fold, zip}
use Rattle.mica_commands.specs.Summary.{stamps_by}
use Rattle.mica_commands.proofs.summary.last_stamps.Given as goal

abbrev pub invariant-loop-place : goal.invariant-loop-place
invariant-loop-place l = record {
  stamps : l.stamps.items ≡ fold (λ stamps pair. stamps_by l.options stamps pair.0 pair.1) (replicate l.options.partitions 0) (take l.place (zip l.trace l.report));
  all : length l.stamps.items ≡ l.options.partitions;
}
