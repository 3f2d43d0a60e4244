use Rattle.std.proofs.Common.{arith}
use Rattle.std.proofs.iter.Serving.{serving}
use Rattle.locked_server.proofs.worker.run_workers.Goals as goal

pub join_mut-requires-after_bounds : goal.join_mut-requires-after_bounds
join_mut-requires-after_bounds g c κs within = (
  (
    (grind serving, grind serving, grind serving, c.requires.plan, omega (arith, c.requires.first, c.requires.many), c.requires.marks, c.requires.ready_streams),
    (grind serving, grind serving, grind serving, grind serving, grind serving, grind serving),
  ),
  (
    (grind serving, grind serving, grind serving, c.requires.plan, c.requires.many, c.requires.ready),
    (grind serving, grind serving, grind serving, grind serving, grind serving, grind serving),
  ),
)

pub returns-clause-streams : goal.returns-clause-streams
returns-clause-streams g c = grind serving

pub returns-clause-fronts : goal.returns-clause-fronts
returns-clause-fronts g c = grind serving
