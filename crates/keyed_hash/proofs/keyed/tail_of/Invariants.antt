use Rattle.std.proofs.Common.{◌≤◌, length, take}
use Rattle.keyed_hash.specs.SipHash.{IsTail}
use Rattle.keyed_hash.proofs.keyed.tail_of.Given as goal

abbrev pub invariant-loop-place : goal.invariant-loop-place
invariant-loop-place l = (l.place ≤ length l.rest) × IsTail (take l.place l.rest) l.tail
