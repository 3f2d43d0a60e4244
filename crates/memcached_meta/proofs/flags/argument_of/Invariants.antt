use Rattle.std.proofs.Common.{◌≡◌, length}
use Rattle.memcached_meta.specs.Flags.{argument_of}
use Rattle.memcached_meta.proofs.flags.argument_of.Given as goal

abbrev pub invariant-loop-word : goal.invariant-loop-word
invariant-loop-word l = (argument_of l.fn.letter l.fn.words ≡ argument_of l.letter l.words) × (length l.letter ≡ 1)

abbrev pub decreases-loop-word : goal.decreases-loop-word
decreases-loop-word l = length l.words
