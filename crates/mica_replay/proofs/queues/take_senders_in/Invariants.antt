use Rattle.std.proofs.Common.{◌≡◌, ◌++◌, length}
use Rattle.std.specs.Vec.Iter.{into_iter_items}
use Rattle.mica_replay.specs.Queues.{HaveTakenIn}
use Rattle.mica_replay.proofs.queues.take_senders_in.Given as goal

abbrev pub invariant-loop-sender : goal.invariant-loop-sender
invariant-loop-sender g l = record {
  at : l.at ≡ length l.yielded;
  left : l.fn.senders.items ≡ l.yielded ++ into_iter_items l.sender-iterator;
  taken : HaveTakenIn l.initial.owners.items l.owners.items l.yielded;
}
