use Rattle.std.proofs.Common.{[], sym}
use Rattle.std.proofs.lemmas.Bool.{true≢false}
use Rattle.std.proofs.lemmas.Result.{IfOk-weaker}
use Rattle.datagram_answers.proofs.Replying.{err_anyway, refuses, none_dealt}
use Rattle.datagram_answers.proofs.deal.deal.Goals as goal

pub returns-in-Err-clause-dealt : goal.returns-in-Err-clause-dealt
returns-in-Err-clause-dealt g c =
    IfOk-weaker c.refuse.result _ _
    (λ dealt made. (
      [],
      made.0,
      refuses (g.F.Front.options c.args.front.now) g.F.Front.is_alone (g.F.Front.sessions c.args.front.now) (g.F.Front.left c.args.front.now) c.args.from.now dealt.replies.items
          (λ batch spelled. true≢false (sym (c.in-Err.ensures.only batch spelled))) made.1,
    ))
    c.refuse.ensures

pub returns-in-Err-clause-partly : goal.returns-in-Err-clause-partly
returns-in-Err-clause-partly g c =
    err_anyway c.refuse.result (none_dealt (g.F.Front.options c.args.front.now) g.F.Front.is_alone (g.F.Front.sessions c.args.front.now) (g.F.Front.left c.args.front.now) c.args.from.now)
