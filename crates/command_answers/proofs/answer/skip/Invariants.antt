use Rattle.std.proofs.Common.{◌≡◌, drop}
use Rattle.command_answers.proofs.answer.skip.Given as goal

abbrev pub invariant-loop : goal.invariant-loop
invariant-loop l = l.asks ≡ drop l.counter l.initial.asks
