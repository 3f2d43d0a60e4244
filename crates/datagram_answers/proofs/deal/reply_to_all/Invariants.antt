use Rattle.std.proofs.Common.{◌≡◌, ◌+◌, ◌≤◌, List}
use Rattle.batch_packets.specs.declared.batch.Request.{Request}
use Rattle.datagram_answers.specs.Answering.{AreLeft}
use Rattle.datagram_answers.proofs.RequestsInOrder.{Here}
use Rattle.datagram_answers.proofs.deal.reply_to_all.Given as goal

abbrev pub invariant-loop-number : goal.invariant-loop-number
invariant-loop-number g l = record {
  each : (all : List Request) → AreLeft l.initial.requests l.version l.count all
      → Here (g.F.Front.options l.initial.front) g.F.Front.is_alone (g.F.Front.sessions l.initial.front) (g.F.Front.left l.initial.front) l.initial.replies all
      (g.F.Front.sessions l.front) (g.F.Front.left l.front) l.replies l.requests l.count l.number;
  text : l.replies.version ≡ l.version;
  unread : l.requests.version ≡ l.version;
  few : g.F.Front.left l.initial.front ≤ g.F.Front.left l.front + l.number;
  options : g.F.Front.options l.front ≡ g.F.Front.options l.initial.front;
  number : g.F.Front.number l.front ≡ g.F.Front.number l.initial.front;
  stands : g.F.Front.stands l.front ≡ g.F.Front.stands l.initial.front;
}
