use Rattle.std.proofs.Common.{◌≡◌, None}
use Rattle.work_desk.specs.Desk.{doer}
use Rattle.mica_replay.specs.Crew.{read_terms}
use Rattle.mica_replay.proofs.crew.work_as_reader.Given as goal

abbrev pub invariant-loop : goal.invariant-loop
invariant-loop g l = (l.desk ≡ doer (read_terms l.trace l.options) None)
