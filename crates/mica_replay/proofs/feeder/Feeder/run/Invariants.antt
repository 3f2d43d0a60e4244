use Rattle.std.specs.Vec.Iter.{into_iter_len}
use Rattle.list_laws.proofs.UpTo.{UpTo}
use Rattle.mica_replay.proofs.Feeders.{IsFeeding, HasEnded}
use Rattle.mica_replay.proofs.feeder.Feeder.run.Given as goal

abbrev pub invariant-loop-feed : goal.invariant-loop-feed
invariant-loop-feed g l = IsFeeding l.initial.self l.self

abbrev pub decreases-loop-feed : goal.decreases-loop-feed
decreases-loop-feed g l = into_iter_len l.self.feeds

abbrev pub invariant-loop-p : goal.invariant-loop-p
invariant-loop-p g l = UpTo HasEnded l.p l.initial.self.senders.items l.self.senders.items
