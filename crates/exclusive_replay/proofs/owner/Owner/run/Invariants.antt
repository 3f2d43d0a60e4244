use Rattle.std.proofs.Common.{◌≡◌, false, length, IfSome}
use Rattle.line_replies.specs.Replied.{HasReplied}
use Rattle.exclusive_replay.specs.Sent.{has_end, numbers_in}
use Rattle.exclusive_replay.specs.LineEnds.{line_box}
use Rattle.any_partition.specs.PlainPartition.{owner_of}
use Rattle.exclusive_replay.specs.Workers.{lines_at}
use Rattle.exclusive_replay.proofs.owner.Owner.run.Given as goal

abbrev pub invariant-loop : goal.invariant-loop
invariant-loop g l = record {
  taken : l.self.queue ≡ line_box l.initial.self.queue.queue l.initial.self.queue.lines l.self.queue.list;
  unended : has_end l.self.queue.list ≡ false;
  lines : l.self.queue.lines ≡ length l.trace;
  answered : IfSome l.self.printed (λ printed. HasReplied (owner_of l.initial.self.part) (owner_of l.self.part) (lines_at l.trace (numbers_in l.self.queue.list)) printed.items);
}
