use Rattle.std.proofs.Common.{◌≡◌, ◌<◌, false}
use Rattle.std.specs.Prelude.{All}
use Rattle.std.specs.List.{list_any}
use Rattle.owner_queue.specs.Messages.{is_end, ticket_of}
use Rattle.owner_queue.specs.JobEnds.{outbox}
use Rattle.core_tests.proofs.jobs.send_jobs.Given as goal

abbrev pub invariant-loop-ticket : goal.invariant-loop-ticket
invariant-loop-ticket g l = record {
  ends : l.sender ≡ outbox l.initial.sender.queue l.number 100 l.sender.sent;
  no_end : list_any is_end l.sender.sent ≡ false;
  below : All (λ m. ticket_of m < l.ticket) l.sender.sent;
}
