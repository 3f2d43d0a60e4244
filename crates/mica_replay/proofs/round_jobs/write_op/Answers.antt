use Rattle.std.proofs.Common.{◌≡◌, Some, None, sym, ◌∙◌}
use Rattle.mica_replay.proofs.LineShares.{some_op}
use Rattle.mica_replay.proofs.round_jobs.write_op.Goals as goal

pub unreachable-requires : goal.unreachable-requires
unreachable-requires c =
    let some = some_op c.args.op c.requires in
    let e : Some some.0 ≡ None = sym some.1 ∙ sym c.write_op.ensures ∙ c.in-None.is in
    cc
