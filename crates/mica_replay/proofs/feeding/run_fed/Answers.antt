use Rattle.std.proofs.Common.{◌≡◌, length, map, sym, subst}
use Rattle.std.specs.Global.{Global}
use Rattle.std.specs.declared.vec.IntoIter.{IntoIter}
use Rattle.std.specs.Vec.Iter.{into_iter_items}
use Rattle.mica_replay.specs.Crew.{IsCrew}
use Rattle.mica_replay.specs.declared.feeder.Feed.{Feed}
use Rattle.mica_replay.specs.declared.worker.OwnerWork.{OwnerWork}
use Rattle.mica_replay.specs.Each.{Each}
use Rattle.mica_replay.specs.Feeds.{writes_for}
use Rattle.mica_replay.specs.Lending.{owner_part}
use Rattle.mica_replay.specs.Queues.{HaveQueues}
use Rattle.mica_replay.specs.RoundJobs.{Queued}
use Rattle.mica_replay.specs.RoundRun.{HasRunWrites}
use Rattle.mica_replay.proofs.FedRound.{Opened, fed_ready, feeder_ready, may_take, owners_ran}
use Rattle.mica_replay.proofs.feeding.run_fed.Given.{Over}
use Rattle.mica_replay.proofs.feeding.run_fed.Goals.{In_ok-senders}
use Rattle.mica_replay.proofs.feeding.run_fed.Goals as goal

abbrev opened : (g : Over) (c : In_ok-senders g) (jobs : IntoIter Feed Global) → into_iter_items jobs ≡ c.jobs.inside.feeds.items
    → Opened c.jobs.inside.feeds.items c.jobs.inside.counts.items c.args.owners.now.items c.open_queues.new.owners.items (record { senders = c.in_ok-senders.senders; feeds = jobs })
opened g c jobs rest = record {
  numbered = c.jobs.invariant;
  queues = subst (λ counts. HaveQueues counts c.args.owners.now.items c.open_queues.new.owners.items c.in_ok-senders.senders.items) c.as_slice.ensures.value c.in_ok-senders.ensures;
  in_hand = rest;
}

pub run_all-requires-clause-owners : goal.run_all-requires-clause-owners
run_all-requires-clause-owners g c = fed_ready (opened g (goal.at.run_all-requires-clause-owners g c).In_ok-senders c.into_iter.result c.into_iter.ensures.rest)

pub run_all-requires-clause-crew : goal.run_all-requires-clause-crew
run_all-requires-clause-crew g c =
    subst (λ n. IsCrew n (length c.args.readers.now.items) c.args.trace.now c.args.options.now c.args.crew.now) (sym c.in_ok-senders.ensures.many) c.requires.crew

pub run_all-requires-clause-feeder : goal.run_all-requires-clause-feeder
run_all-requires-clause-feeder g c = feeder_ready (opened g (goal.at.run_all-requires-clause-feeder g c).In_ok-senders c.into_iter.result c.into_iter.ensures.rest)

pub take_senders_in-requires : goal.take_senders_in-requires
take_senders_in-requires g c =
    may_take (opened g (goal.at.take_senders_in-requires g c).In_ok-senders c.into_iter.result c.into_iter.ensures.rest)
    g.P.Partition.owner g.P.Partition.home c.run_all.new.owners.items c.run_all.new.feeder.senders.items c.run_all.ensures.owners c.run_all.ensures.fed

pub returns-clause-owners : goal.returns-clause-owners
returns-clause-owners g c =
    let part = λ (w : OwnerWork g.row.P.Denot). owner_part g.P.Partition.owner g.P.Partition.home w in
    subst (λ (j : Queued). Each (λ p. HasRunWrites (writes_for p j.feeds)) (map part c.args.owners.now.items) (map part c.take_senders_in.new.owners.items)) c.jobs.view_is
    (owners_ran (opened g (goal.at.returns-clause-owners g c).In_ok-senders c.into_iter.result c.into_iter.ensures.rest)
    g.P.Partition.owner g.P.Partition.home c.run_all.new.owners.items c.run_all.new.feeder.senders.items c.run_all.ensures.owners c.run_all.ensures.fed c.take_senders_in.new.owners.items c.take_senders_in.ensures)
