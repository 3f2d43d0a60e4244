use Rattle.std.proofs.Common.{◌≡◌, ◌++◌, List, map, sym, ap, ◌∙◌, subst}
use Rattle.std.specs.Prelude.{option_map}
use Rattle.std.proofs.lemmas.List.{length-map}
use Rattle.std.proofs.lemmas.Option.{slice_get-map}
use Rattle.list_laws.proofs.Places.{from_map}
use Rattle.mica_replay.specs.declared.worker.OwnerWork.{OwnerWork}
use Rattle.partition_table.specs.declared.tables.KeptSeat.{KeptSeat}
use Rattle.mica_replay.specs.Lending.{owner_part}
use Rattle.mica_replay.specs.RoundRun.{state_of_owner, kept_of}
use Rattle.mica_replay.specs.Replayed.{IsReplayed}
use Rattle.mica_replay.proofs.NextRound.{ends}
use Rattle.mica_replay.proofs.run.run_on.Goals as goal

pub keep_all-requires-clause-idle : goal.keep_all-requires-clause-idle
keep_all-requires-clause-idle g c =
    λ p w is. (c.in_ok-report.ensures.report.each p w.state (slice_get-map state_of_owner _ p ∙ ap (option_map state_of_owner) is)).idle

pub returns-clause-ok : goal.returns-clause-ok
returns-clause-ok g c =
    let f = λ (w : OwnerWork g.row.P.Denot). owner_part g.P.Partition.owner g.P.Partition.home w in
    let owner_parts = map f c.run_rounds.new.owners.items in
    let all : c.keep_all.new.tables ≡ map kept_of owner_parts = c.keep_all.ensures ∙ ap (λ (l : List KeptSeat). l ++ map kept_of owner_parts) c.requires.tables in
    subst (IsReplayed c.args.options.now c.args.trace.now c.in_ok-report.report) (sym all)
    (ends c.args.options.now c.args.trace.now c.in_ok-report.report (map state_of_owner owner_parts) (map kept_of owner_parts) c.in_ok-report.ensures.report (length-map owner_parts kept_of ∙ sym (length-map owner_parts state_of_owner))
    (λ p entry is. let back = from_map kept_of owner_parts p entry is in (back.0.state, slice_get-map state_of_owner owner_parts p ∙ ap (option_map state_of_owner) back.1, sym back.2)))
