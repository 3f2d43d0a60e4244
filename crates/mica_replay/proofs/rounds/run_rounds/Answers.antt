use Rattle.std.proofs.Common.{[], List, map, refl, sym, ◌∙◌, subst, arith}
use Rattle.std.proofs.lemmas.List.{length-map}
use Rattle.list_laws.proofs.Places.{from_map}
use Rattle.mica_trace.specs.declared.report.Line.{Line}
use Rattle.mica_replay.specs.declared.worker.OwnerWork.{OwnerWork}
use Rattle.mica_replay.specs.Lending.{owner_part}
use Rattle.mica_replay.specs.RoundRun.{state_of_owner}
use Rattle.mica_replay.specs.Between.{IsReplaying}
use Rattle.mica_replay.proofs.NextRound.{starts}
use Rattle.mica_replay.proofs.rounds.run_rounds.Goals as goal

pub loop-sync-init : goal.loop-sync-init
loop-sync-init g c =
    let f = λ (w : OwnerWork g.row.P.Denot). owner_part g.P.Partition.owner g.P.Partition.home w in
    let owner_parts = map f c.args.owners.now.items in
    record {
      below = omega arith;
      gets = refl;
      ended = tt;
      so_far = subst (λ (l : List Line). IsReplaying c.args.options.now [] l (map state_of_owner owner_parts)) (sym c.in_ok-report.ensures)
          (starts c.args.options.now (map state_of_owner owner_parts) (length-map owner_parts state_of_owner ∙ c.requires.made.many)
          (λ p owner is. let back = from_map state_of_owner owner_parts p owner is in sym back.2 ∙ c.requires.made.each p back.0 back.1));
      readers = c.requires.free;
      crew = c.requires.crew;
      same = refl;
    }
