use Rattle.std.proofs.Common.{◌≡◌, length}
use Rattle.memcached_meta.specs.Flags.{is_late}
use Rattle.memcached_meta.proofs.flags.is_late.Given as goal

abbrev pub invariant-loop-word : goal.invariant-loop-word
invariant-loop-word l = is_late l.fn.words ≡ is_late l.words

abbrev pub decreases-loop-word : goal.decreases-loop-word
decreases-loop-word l = length l.words
