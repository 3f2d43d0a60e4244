use Rattle.datagram_answers.proofs.Replying.{err_anyway, none_dealt}
use Rattle.datagram_answers.proofs.batch.serve_batch.Goals as goal

pub returns-in_err-out-clause-partly : goal.returns-in_err-out-clause-partly
returns-in_err-out-clause-partly g c =
    err_anyway c.from_residual.result (none_dealt (g.F.Front.options c.args.front.now) g.F.Front.is_alone (g.F.Front.sessions c.args.front.now) (g.F.Front.left c.args.front.now) c.args.from.now)
