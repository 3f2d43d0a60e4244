use Rattle.std.proofs.Common.{◌≡◌, ◌≤◌, length}
use Rattle.memcached_commands.specs.Counting.{after_digits}
use Rattle.memcached_commands.proofs.counting.after_digits.Given as goal

abbrev pub invariant-loop-byte : goal.invariant-loop-byte
invariant-loop-byte l = (after_digits l.rest ≡ after_digits l.value) × (length l.rest ≤ length l.value)

abbrev pub decreases-loop-byte : goal.decreases-loop-byte
decreases-loop-byte l = length l.rest
