use Rattle.std.proofs.Common.{◌≡◌, take, arith}
use Rattle.std.proofs.lemmas.List.{take_all}
use Rattle.mica_client.proofs.Known.{none_answered}
use Rattle.mica_client.proofs.answer_list.AnswerList.unanswered.Goals as goal

pub returns : goal.returns
returns c =
    let trace = c.args.trace.now in
    let all : take c.loop-line.line-index trace ≡ trace = take_all c.loop-line.line-index trace (omega (arith, c.loop-line-test.false)) in
    rw (c.loop-line.invariant.known, c.loop-line.invariant.lines, all) (none_answered trace)
