use Rattle.queue_front.proofs.SoloSteps.{writes_alone, changes_only}
use Rattle.queue_front.proofs.solo.SoloFrontFront.write.Goals as goal

pub returns-clause-written : goal.returns-clause-written
returns-clause-written c = writes_alone _ _ _ _ c.write.ensures

pub returns-clause-others : goal.returns-clause-others
returns-clause-others c = changes_only _ _ _ _ c.write.ensures
