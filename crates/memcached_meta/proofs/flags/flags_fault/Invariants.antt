use Rattle.std.proofs.Common.{◌≡◌, length}
use Rattle.memcached_meta.specs.Flags.{flags_fault}
use Rattle.memcached_meta.proofs.FlagLaws.{fault_marked}
use Rattle.memcached_meta.proofs.flags.flags_fault.Given as goal

abbrev pub invariant-loop-word : goal.invariant-loop-word
invariant-loop-word l = (flags_fault l.fn.words ≡ fault_marked l.seen l.words) × (length l.seen ≡ 127)

abbrev pub decreases-loop-word : goal.decreases-loop-word
decreases-loop-word l = length l.words
