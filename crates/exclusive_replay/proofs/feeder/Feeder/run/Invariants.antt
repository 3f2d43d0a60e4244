use Rattle.list_laws.proofs.UpTo.{UpTo}
use Rattle.exclusive_replay.proofs.Fed.{IsFeeding, HasEnded}
use Rattle.exclusive_replay.proofs.feeder.Feeder.run.Given as goal

abbrev pub invariant-loop-number : goal.invariant-loop-number
invariant-loop-number g l = IsFeeding l.options l.trace l.number l.initial.self.senders.items l.self.senders.items

abbrev pub invariant-loop-p : goal.invariant-loop-p
invariant-loop-p g l = UpTo HasEnded l.p l.initial.self.senders.items l.self.senders.items
