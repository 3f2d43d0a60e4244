use Rattle.datagram_answers.proofs.RequestsInOrder.{first_all}
use Rattle.datagram_answers.proofs.Replying.{err_anyway}
use Rattle.datagram_answers.proofs.deal.answer.Goals as goal

pub returns-in_err-finish-clause-first : goal.returns-in_err-finish-clause-first
returns-in_err-finish-clause-first g c =
    let F = g.F.Front in
    err_anyway c.from_residual-in_err-finish.result (λ all are. first_all (F.options c.args.front.now) F.is_alone (c.in_ok-reply_to_all.ensures.all all are).answered)
