use Rattle.std.proofs.Common.{◌≡◌, None, length}
use Rattle.memcached_meta.specs.Flags.{last_lifetime}
use Rattle.memcached_meta.proofs.flags.last_lifetime.Given as goal

abbrev pub invariant-loop-word : goal.invariant-loop-word
invariant-loop-word l = last_lifetime None l.fn.words ≡ last_lifetime l.last l.words

abbrev pub decreases-loop-word : goal.decreases-loop-word
decreases-loop-word l = length l.words
