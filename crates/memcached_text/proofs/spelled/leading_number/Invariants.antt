use Rattle.std.proofs.Common.{◌≤◌, ◌-◌, length, take}
use Rattle.memcached_text.proofs.SpelledLaws.{IsRead}
use Rattle.memcached_text.proofs.spelled.leading_number.Given as goal

abbrev pub invariant-loop-len : goal.invariant-loop-len
invariant-loop-len l = (l.len ≤ length l.text) × (l.number ≤ 4294967295) × IsRead (take l.len l.text) l.number

abbrev pub decreases-loop-len : goal.decreases-loop-len
decreases-loop-len l = length l.text - l.len
