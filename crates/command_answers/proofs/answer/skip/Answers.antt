use Rattle.std.proofs.Common.{◌∙◌, ap, drop}
use Rattle.std.proofs.lemmas.List.{drop-drop}
use Rattle.command_answers.proofs.AskLaws.{left_of}
use Rattle.command_answers.proofs.answer.skip.Goals as goal

pub loop-preserved : goal.loop-preserved
loop-preserved c =
    left_of c.loop.asks c.next_asked.new.self c.next_asked.result c.next_asked.ensures ∙ ap (drop 1) c.loop.invariant ∙ drop-drop 1 c.loop.counter c.args.asks.now
