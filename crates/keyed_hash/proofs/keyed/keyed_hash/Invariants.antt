use Rattle.std.proofs.Common.{length}
use Rattle.keyed_hash.proofs.Left.{IsLeft}
use Rattle.keyed_hash.proofs.keyed.keyed_hash.Given as goal

abbrev pub invariant-loop-word : goal.invariant-loop-word
invariant-loop-word l = IsLeft l.secret.k0 l.secret.k1 l.key l.mixed l.rest

abbrev pub decreases-loop-word : goal.decreases-loop-word
decreases-loop-word l = length l.rest
