use Rattle.std.proofs.Common.{take}
use Rattle.fronts.specs.Flushes.{AreKept}
use Rattle.locked_server.proofs.Fills.{FilledBy}
use Rattle.locked_server.proofs.filling.fill.Given as goal

abbrev pub invariant-loop-write : goal.invariant-loop-write
invariant-loop-write g l = record {
  filled : FilledBy l.options l.number (take l.write-index l.filling) (g.P.Partition.owner l.part);
  flushes : AreKept (g.P.Partition.owner l.part).shape.hashing (g.P.Partition.owner l.part).shape.buckets (g.P.Partition.owner l.part).history l.flushes;
}
