use Rattle.served.proofs.SumsUp.{SumsTo}
use Rattle.served.proofs.answers.sum_up.Given as goal

abbrev pub invariant-loop-answer : goal.invariant-loop-answer
invariant-loop-answer l = SumsTo l.answer-index l.answers l.failed l.totals
