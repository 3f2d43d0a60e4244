use Rattle.std.proofs.Common.{◌≡◌, ◌++◌, take}
use Rattle.mica_commands.specs.Summary.{stamps_text}
use Rattle.mica_commands.proofs.summary.put_stamps.Given as goal

abbrev pub invariant-loop-partition : goal.invariant-loop-partition
invariant-loop-partition l = l.text.items ≡ l.initial.text.items ++ stamps_text 0 (take l.partition l.stamps)
