use Rattle.command_answers.proofs.Sweeping.{one_touched}
use Rattle.command_answers.proofs.keeping.touch_key.Goals as goal

pub returns-clause-swept : goal.returns-clause-swept
returns-clause-swept g c = λ base second.
    let F = g.F.Front in
    one_touched (F.options c.args.front.now) F.is_alone base second (F.sessions c.args.front.now) (F.sessions c.touch.new.self) (F.left c.args.front.now) (F.left c.touch.new.self) c.args.key.now
    c.touch.result.0 c.touch.result.1 c.requires.mode c.touch.ensures.written c.touch.ensures.others c.touch.ensures.left
