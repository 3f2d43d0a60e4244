use Rattle.std.proofs.Common.{sym, ◌∙◌}
use Rattle.mica_client.proofs.Fitting.{joins_none}
use Rattle.mica_client.proofs.Cutting.{cut_full}
use Rattle.mica_client.proofs.share.Share.make_room.Goals as goal

pub returns-clause-joins : goal.returns-clause-joins
returns-clause-joins c = rw c.in_ok-close.ensures.last (joins_none c.args.per c.args.request.now c.requires.some c.requires.lawful)

pub returns-clause-same : goal.returns-clause-same
returns-clause-same c = λ later.
    let old = c.args.self.now in
    rw (c.close.ensures.port, c.in_ok-close.ensures.full, c.in_ok-close.ensures.last)
    (cut_full c.args.per old.port old.full.items old.last.items later c.args.request.now c.requires.some c.requires.lawful (sym c.joins.ensures ∙ c.if-joins.false))
