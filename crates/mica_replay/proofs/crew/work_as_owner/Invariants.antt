use Rattle.std.proofs.Common.{◌≡◌, None}
use Rattle.work_desk.specs.Desk.{doer}
use Rattle.mica_replay.proofs.crew.work_as_owner.Given as goal

abbrev pub invariant-loop : goal.invariant-loop
invariant-loop g l = (l.desk ≡ doer tt None)
