use Rattle.std.proofs.Common.{◌≡◌, map, vec_capacity, sym, ap, ◌∙◌, subst, arith}
use Rattle.std.proofs.lemmas.Simd.{map-map}
use Rattle.partition_table.specs.Tabled.{kept_seat_in}
use Rattle.mica_serve.specs.declared.worker.FrontTask.{FrontTask}
use Rattle.served.specs.Others.{alone}
use Rattle.served.specs.Served.{empty_origin}
use Rattle.served.specs.Ends.{EndFacts, end_facts}
use Rattle.served.specs.FrontRuns.{RanAll}
use Rattle.mica_serve.proofs.RunAll.{Paired, Ran, owners_ready, fronts_ready, served_long, meeting, all_came, idle}
use Rattle.mica_serve.proofs.server.run_all.Given as given
use Rattle.mica_serve.proofs.server.run_all.Goals.{After-pair_up, After-run_workers, After-part_fronts}
use Rattle.mica_serve.proofs.server.run_all.Goals as goal

abbrev facts : (g : given.Over) → g.row.D.Denot → EndFacts
facts g = end_facts g.D.Datagrams

-- the owners and fronts as made, and after all of them ran
paired : (g : given.Over) (c : After-pair_up g) → Paired g.P.Partition.owner g.P.Partition.home (facts g) c.args.options.now c.args.ports.now c.args.server.owners.items c.args.server.fronts.items c.pair_up.new.tasks.items c.args.ends.now.items
paired g c = record {
  some = c.requires.options.partitions.0;
  opened = c.requires.server.made;
  fronts = c.pair_up.ensures.fronts;
  own_ends = c.pair_up.ensures.ends ∙ (λ i. (c.replace-ends_before.ensures.value i).items);
}

module _ (g : given.Over) (c : After-run_workers g) where
  ran : Ran g.P.Partition.owner g.P.Partition.home (facts g) c.args.options.now c.args.ports.now c.args.server.owners.items c.args.server.fronts.items c.pair_up.new.tasks.items c.args.ends.now.items
      c.run_workers.new.owners.items c.run_workers.new.fronts.items
  ran = record {
    paired = record {
      some = c.requires.options.partitions.0;
      opened = c.requires.server.made;
      fronts = c.pair_up.ensures.fronts;
      own_ends = c.pair_up.ensures.ends ∙ (λ i. (c.replace-ends_before.ensures.value i).items);
    };
    owners_ran = c.run_workers.ensures.owners;
    fronts_ran = c.run_workers.ensures.fronts;
  }

pub run_workers-requires-clause-owners : goal.run_workers-requires-clause-owners
run_workers-requires-clause-owners g c κs within = owners_ready _ _ (facts g) _ _ (paired g (goal.at.run_workers-requires-clause-owners g c).After-pair_up)

pub run_workers-requires-clause-fronts : goal.run_workers-requires-clause-fronts
run_workers-requires-clause-fronts g c κs within = fronts_ready _ _ (facts g) _ _ c.requires.ports.batches.1 (paired g (goal.at.run_workers-requires-clause-fronts g c).After-pair_up) c.requires.open

pub part_fronts-requires-clause-ends : goal.part_fronts-requires-clause-ends
part_fronts-requires-clause-ends g c =
    omega (arith, served_long _ _ _ _ _ (ran g (goal.at.part_fronts-requires-clause-ends g c).After-run_workers), c.run_workers.new.fronts.ok, c.requires.server.room.ends.1, ap vec_capacity c.replace-ends_before.ensures.after)

pub part_fronts-requires-clause-hands : goal.part_fronts-requires-clause-hands
part_fronts-requires-clause-hands g c = omega (arith, served_long _ _ _ _ _ (ran g (goal.at.part_fronts-requires-clause-hands g c).After-run_workers), c.run_workers.new.fronts.ok, c.requires.server.room.hands.1)

pub part_fronts-requires-clause-answers : goal.part_fronts-requires-clause-answers
part_fronts-requires-clause-answers g c =
    omega (arith, served_long _ _ _ _ _ (ran g (goal.at.part_fronts-requires-clause-answers g c).After-run_workers), c.run_workers.new.fronts.ok, c.requires.server.room.answers.1)

-- what the fronts have in hand
module _ (g : given.Over) (c : After-part_fronts g) where
  hands : map (λ own. own.items) c.part_fronts.new.hands.items ≡ map (λ (t : FrontTask g.row.D.Denot). t.parts.items) c.run_workers.new.fronts.items
  hands = ap (map (λ own. own.items)) c.part_fronts.ensures.hands ∙ map-map (λ own. own.items) (λ (t : FrontTask g.row.D.Denot). t.parts) c.run_workers.new.fronts.items

pub meet_all-requires : goal.meet_all-requires
meet_all-requires g c =
    let z = goal.at.meet_all-requires g c in
    meeting _ _ _ _ _ (ran g z.After-run_workers) (map (λ own. own.items) c.part_fronts.new.hands.items) (hands g z.After-part_fronts)

pub returns-clause-ran : goal.returns-clause-ran
returns-clause-ran g c =
    let z = goal.at.returns-clause-ran g c in
    let owner = g.P.Partition.owner in
    subst (λ a. RanAll alone c.args.options.now empty_origin c.args.ports.now.batches (map (λ task. kept_seat_in (owner task.part)) c.meet_all.new.owners.items) a (map (facts g) c.args.ends.now.items) (map (facts g) c.part_fronts.new.ends.items))
    (sym c.part_fronts.ensures.answers)
    (all_came _ _ _ _ _ (ran g z.After-run_workers) (map (λ own. own.items) c.part_fronts.new.hands.items) (hands g z.After-part_fronts) c.meet_all.new.owners.items c.meet_all.ensures c.part_fronts.new.ends.items c.part_fronts.ensures.ends)

pub returns-clause-idle : goal.returns-clause-idle
returns-clause-idle g c =
    let z = goal.at.returns-clause-idle g c in
    idle _ _ _ _ _ (ran g z.After-run_workers) (map (λ own. own.items) c.part_fronts.new.hands.items) (hands g z.After-part_fronts) c.meet_all.new.owners.items c.meet_all.ensures
