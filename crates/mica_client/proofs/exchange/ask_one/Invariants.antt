use Rattle.std.proofs.Common.{◌≡◌, ◌≤◌, length}
use Rattle.mica_client.specs.Talk.{OnTalk, Passes}
use Rattle.mica_client.specs.Answers.{HasTickets, KeepsAnswers, open_answers}
use Rattle.mica_client.specs.declared.exchange.TheConstants.{ROOM}
use Rattle.mica_client.specs.Exchange.{Asks}
use Rattle.mica_client.proofs.exchange.ask_one.Given as goal

abbrev pub invariant-receiving : goal.invariant-receiving
invariant-receiving g l = record {
  asks : OnTalk (Passes (Asks (record { port = l.port; batch = l.batch }) l.fn.answers l.answers)) (g.L.Link.talk l.fn.link) (g.L.Link.talk l.link);
  keeps : KeepsAnswers l.batch.requests l.fn.answers l.answers;
  tickets : HasTickets (length l.answers) l.batch.requests;
  room : length l.room ≡ ROOM;
  ended : g.L.Link.has_ended l.link ≡ g.L.Link.has_ended l.fn.link;
  silence : g.L.Link.silence l.link ≡ g.L.Link.silence l.fn.link;
  faults : g.L.Link.faults l.fn.link ≤ g.L.Link.faults l.link;
}

abbrev pub decreases-receiving : goal.decreases-receiving
decreases-receiving g l = open_answers l.answers
