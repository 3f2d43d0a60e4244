use Rattle.std.proofs.Common.{◌<◌, length, refl, ap, arith}
use Rattle.std.proofs.lemmas.Option.{slice_get_read}
use Rattle.mica_replay.specs.RoundJobs.{Queued}
use Rattle.mica_replay.proofs.RoundJobs.{one_numbered}
use Rattle.mica_replay.proofs.round_jobs.RoundJobs.push.Goals as goal

pub invariant_of-self-2 : goal.invariant_of-self-2
invariant_of-self-2 c =
    let counts = c.self.inside.counts.items in
    let count = c.index-count.result.now in
    let less : c.args.queue < length counts = omega (arith, c.requires.queue, ap (λ (q : Queued). q.queues) c.self.view_is) in
    rw (c.in_ok-push.ensures.items, c.from.ensures)
    (one_numbered c.self.inside.feeds.items counts c.args.queue count c.args.write c.self.invariant (slice_get_read counts (length counts) c.args.queue count refl less c.index-count.ensures) c.requires.write)
