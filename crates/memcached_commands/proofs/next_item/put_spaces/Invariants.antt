use Rattle.std.proofs.Common.{◌≡◌, ◌+◌, ◌≤◌, ◌++◌, length, replicate}
use Rattle.mica_words.specs.declared.item.TheConstants.{MAX_STORED_LEN}
use Rattle.memcached_commands.proofs.next_item.put_spaces.Given as goal

abbrev pub invariant-loop-left : goal.invariant-loop-left
invariant-loop-left l = (l.next ++ replicate l.left 32 ≡ l.fn.next ++ replicate l.count 32) × (length l.next + l.left ≤ MAX_STORED_LEN)

abbrev pub decreases-loop-left : goal.decreases-loop-left
decreases-loop-left l = l.left
