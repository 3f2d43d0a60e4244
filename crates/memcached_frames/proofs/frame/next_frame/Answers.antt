use Rattle.std.proofs.Common.{sym, subst}
use Rattle.memcached_frames.specs.Fit.{IsFitNext}
use Rattle.memcached_frames.proofs.FitLaws.{at_fits}
use Rattle.memcached_frames.proofs.frame.next_frame.Goals as goal

pub returns-in-Some-clause-fit : goal.returns-in-Some-clause-fit
returns-in-Some-clause-fit c = subst (IsFitNext c.args.most) (sym c.frame_at.ensures) (at_fits _ _ _)
