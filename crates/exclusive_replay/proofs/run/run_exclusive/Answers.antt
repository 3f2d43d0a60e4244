use Rattle.std.proofs.Common.{◌∙◌}
use Rattle.exclusive_replay.specs.declared.feeder.Feeder.{Feeder}
use Rattle.exclusive_replay.proofs.RunParts.{all_ready, feeder_ready, all_run}
use Rattle.exclusive_replay.proofs.run.run_exclusive.Goals as goal

pub run_workers-requires-clause-owners : goal.run_workers-requires-clause-owners
run_workers-requires-clause-owners g c _ _ = all_ready c.args.options.now c.args.trace.now c.in_ok-owners.owners.items c.in_ok-owners.senders.items c.in_ok-owners.ensures

pub run_workers-requires-clause-feeder : goal.run_workers-requires-clause-feeder
run_workers-requires-clause-feeder g c _ _ =
    let feeder : Feeder = record { senders = c.in_ok-owners.senders } in
    feeder_ready c.args.options.now c.args.trace.now c.in_ok-owners.owners.items feeder c.in_ok-owners.ensures

pub report_by-requires-clause-many : goal.report_by-requires-clause-many
report_by-requires-clause-many g c = c.run_workers.ensures.owners.0 ∙ c.in_ok-owners.ensures.many

pub report_by-requires-clause-ran : goal.report_by-requires-clause-ran
report_by-requires-clause-ran g c =
    all_run c.args.options.now c.args.trace.now c.in_ok-owners.owners.items c.run_workers.new.owners.items c.in_ok-owners.senders.items c.run_workers.new.feeder.senders.items
    c.in_ok-owners.ensures c.run_workers.ensures.owners c.run_workers.ensures.fed
