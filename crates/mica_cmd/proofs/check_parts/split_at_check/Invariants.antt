use Rattle.std.proofs.Common.{◌≤◌, ◌-◌, length, take}
use Rattle.mica_cmd.specs.CheckParts.{EndsLine, HasNoCheck}
use Rattle.mica_cmd.proofs.check_parts.split_at_check.Given as goal

abbrev pub invariant-loop-start : goal.invariant-loop-start
invariant-loop-start l = record {
  high : l.start ≤ length l.bytes;
  whole : EndsLine (take l.start l.bytes);
  first : HasNoCheck (take l.start l.bytes);
}

abbrev pub decreases-loop-start : goal.decreases-loop-start
decreases-loop-start l = length l.bytes - l.start
