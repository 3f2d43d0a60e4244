use Rattle.std.proofs.Common.{◌≡◌, take}
use Rattle.batch_packets.proofs.batch.Batch.lend.Given as goal

abbrev pub invariant-loop-request : goal.invariant-loop-request
invariant-loop-request l = l.lent.items ≡ take l.request-index l.requests
