use Rattle.std.proofs.Common.{◌≡◌, ℕ, ◌<◌, ◌⊎◌, true, false, [], slice_get, Some, vec_len}
use Rattle.crossbeam_channel.specs.Claims.{IsSeatAt}
use Rattle.crossbeam_channel.specs.Ends.{sends_on}
use Rattle.ruled_queue.specs.Ends.{queue_of, known}
use Rattle.owner_queue.specs.JobEnds.{outbox}
use Rattle.owner_queue.proofs.jobs.make.Given as goal

abbrev pub invariant-loop-made : goal.invariant-loop-made
invariant-loop-made g l = record {
  seat : IsSeatAt (sends_on l.first) l.pass;
  queue : queue_of l.pass ≡ queue_of l.initial.pass;
  takes : (known l.pass).takes ≡ true;
  sends : (known l.pass).sends ≡ false;
  number : (known l.pass).number ≡ l._made;
  taken : (known l.pass).taken ≡ [];
  jobs : (l._made ≡ 0) ⊎ ((known l.pass).terms ≡ g.J.Terms.terms);
  count : vec_len l.list ≡ l._made;
  each : (p : ℕ) → p < l._made → slice_get l.list.items p ≡ Some (outbox (queue_of l.pass) p g.J.Terms.terms []);
}
