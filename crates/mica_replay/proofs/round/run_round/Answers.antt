use Rattle.std.proofs.Common.{ℕ, ◌<◌, map, length, sym, ap, ◌∙◌, subst, arith, refl}
use Rattle.mica_replay.specs.declared.worker.ReaderWork.{ReaderWork}
use Rattle.mica_replay.specs.declared.worker.OwnerWork.{OwnerWork}
use Rattle.mica_replay.specs.Feeds.{writes_for}
use Rattle.mica_replay.specs.Crew.{IsCrew}
use Rattle.mica_replay.specs.Lending.{owner_part, lent_part, table_in}
use Rattle.mica_replay.specs.RoundRun.{ReaderPart, reader_part}
use Rattle.mica_replay.proofs.RoundSteps.{seen_many, lends_none, lends_one, readers_ready, homes_same, meets_more, leaves_one, ran_round, Ran}
use Rattle.partition_table.specs.Seats.{reader_state, reader_home}
use Rattle.partition_table.specs.declared.reader.ReaderSeat.{ReaderSeat}
use Rattle.mica_replay.proofs.round.run_round.Given.{Over}
use Rattle.mica_replay.proofs.round.run_round.Goals.{In_ok-run_fed}
use Rattle.mica_replay.proofs.round.run_round.Goals as goal

abbrev part : ReaderWork ReaderSeat → ReaderPart
part r = reader_part reader_state reader_home r

-- once all have run
abbrev ran : (g : Over) (c : In_ok-run_fed g) → Ran g.P.Partition.owner g.P.Partition.home reader_state reader_home c.args.trace.now c.args.options.now (λ p. writes_for p c.args.jobs.feeds)
    (map (λ w. owner_part g.P.Partition.owner g.P.Partition.home w) c.args.owners.now.items) (map part c.args.readers.now.items)
ran g c = record {
  ready = c.requires.ready;
  ran_owners = c.run_fed.new.owners.items;
  lents = c.loop-q.readers.items;
  mids = c.run_fed.new.readers.items;
  count = c.loop-q.q;
  all = omega (arith, c.loop-q-test.false, c.len-q-end.ensures, c.args.readers.now.ok, seen_many part _ _ c.loop-q.invariant.lent.many);
  lent = c.loop-q.invariant.lent;
  owned = rw c.loop-q.invariant.same at c.in_ok-run_fed.ensures.owners;
  reading = c.in_ok-run_fed.ensures.readers;
}

pub lend_all-requires : goal.lend_all-requires
lend_all-requires g c =
    lends_none g.P.Partition.owner g.P.Partition.home reader_state reader_home c.args.trace.now c.args.options.now _ _ c.requires.ready
    c.loop-q.readers.items c.loop-q.q c.index_mut-reader.result.now c.loop-q.invariant.lent
    (omega (arith, c.loop-q-test.true, c.len-q-end.ensures, c.args.readers.now.ok, seen_many part _ _ c.loop-q.invariant.lent.many)) c.index_mut-reader.ensures.value

pub loop-q-preserved : goal.loop-q-preserved
loop-q-preserved g c =
    let old = c.index_mut-reader.result.now in
    record {
      same = c.lend_all.ensures.same ∙ c.loop-q.invariant.same;
      lent = lends_one g.P.Partition.owner g.P.Partition.home reader_state reader_home c.args.trace.now c.args.options.now _ _ c.requires.ready
          c.loop-q.readers.items c.loop-q.q old (record old { seats = c.lend_all.new.seats }) c.loop-q.invariant.lent
          (omega (arith, c.loop-q-test.true, c.len-q-end.ensures, c.args.readers.now.ok, seen_many part _ _ c.loop-q.invariant.lent.many)) c.index_mut-reader.ensures.value
          (record {
            seats = c.in_ok-lend_all.ensures.seats ∙ ap (λ ws. map lent_part ws) c.loop-q.invariant.same;
            tables = c.in_ok-lend_all.ensures.homes ∙ ap (λ ws. map table_in ws) c.loop-q.invariant.same;
            worker = refl;
            gets = refl;
          });
    }

pub run_fed-requires-clause-queues : goal.run_fed-requires-clause-queues
run_fed-requires-clause-queues g c =
    c.requires.queues ∙ sym (seen_many (λ (w : OwnerWork g.row.P.Denot). owner_part g.P.Partition.owner g.P.Partition.home w) _ _ (ap length c.loop-q.invariant.same))

pub run_fed-requires-clause-readers : goal.run_fed-requires-clause-readers
run_fed-requires-clause-readers g c =
    readers_ready g.P.Partition.owner g.P.Partition.home reader_state reader_home c.args.trace.now c.args.options.now _ _ c.requires.ready
    c.loop-q.readers.items c.loop-q.q (omega (arith, c.loop-q-test.false, c.len-q-end.ensures, c.args.readers.now.ok, seen_many part _ _ c.loop-q.invariant.lent.many)) c.loop-q.invariant.lent

pub run_fed-requires-clause-crew : goal.run_fed-requires-clause-crew
run_fed-requires-clause-crew g c =
    let owner = λ (w : OwnerWork g.row.P.Denot). owner_part g.P.Partition.owner g.P.Partition.home w in
    subst (λ (n : ℕ × ℕ). IsCrew n.0 n.1 c.args.trace.now c.args.options.now c.args.crew.now)
    (λ i. (sym (seen_many owner _ _ (ap length c.loop-q.invariant.same)) i, sym (seen_many part _ _ c.loop-q.invariant.lent.many) i)) c.requires.crew

pub meet_all-requires : goal.meet_all-requires
meet_all-requires g c =
    homes_same (ran g (goal.at.meet_all-requires g c).In_ok-run_fed)
    c.loop-q-2.q c.loop-q-2.readers.items c.loop-q-2.owners.items c.index_mut-reader-in-loop-q-2.result.now c.loop-q-2.invariant.left c.loop-q-2.invariant.met
    (omega (arith, c.loop-q-2-test.true, c.len-q-end-2.ensures, c.run_fed.new.readers.ok, seen_many part _ _ c.loop-q-2.invariant.left.many)) c.index_mut-reader-in-loop-q-2.ensures.value

pub loop-q-2-preserved : goal.loop-q-2-preserved
loop-q-2-preserved g c =
    let all = ran g (goal.at.loop-q-2-preserved g c).In_ok-run_fed in
    let old = c.index_mut-reader-in-loop-q-2.result.now in
    let less : c.loop-q-2.q < length c.loop-q-2.readers.items
    = omega (arith, c.loop-q-2-test.true, c.len-q-end-2.ensures, c.run_fed.new.readers.ok, seen_many part _ _ c.loop-q-2.invariant.left.many) in
    record {
      met = meets_more all c.loop-q-2.q c.loop-q-2.readers.items c.loop-q-2.owners.items c.meet_all.new.owners.items old c.loop-q-2.invariant.left c.loop-q-2.invariant.met less
          c.index_mut-reader-in-loop-q-2.ensures.value c.meet_all.ensures.met;
      left = leaves_one all c.loop-q-2.q c.loop-q-2.readers.items old (record old { seats = c.meet_all.new.seats }) c.loop-q-2.invariant.left less c.index_mut-reader-in-loop-q-2.ensures.value
          (record { seats = ap (λ ss. map (λ (s : ReaderSeat). reader_state s) ss) c.meet_all.ensures.empty; worker = refl; gets = refl; found = refl });
    }

pub returns-clause-ran : goal.returns-clause-ran
returns-clause-ran g c =
    let all = ran g (goal.at.returns-clause-ran g c).In_ok-run_fed in
    ran_round all c.loop-q-2.q c.loop-q-2.readers.items c.loop-q-2.owners.items
    (omega (arith, c.loop-q-2-test.false, c.loop-q-2.auto.q-end, c.len-q-end-2.ensures, c.run_fed.new.readers.ok, seen_many part _ _ c.loop-q-2.invariant.left.many))
    c.loop-q-2.invariant.left c.loop-q-2.invariant.met
