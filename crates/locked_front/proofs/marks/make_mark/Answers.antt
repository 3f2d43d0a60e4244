use Rattle.std.proofs.Common.{arith}
use Rattle.locked_front.proofs.MarkBytes.{made_says}
use Rattle.locked_front.proofs.marks.make_mark.Goals as goal

pub returns-clause-flush : goal.returns-clause-flush
returns-clause-flush c =
    made_says c.clear.new.self c.extend.new.self c.push_word.new.self c.push_word-2.new.self c.extend-2.new.self _ _ c.args.due c.args.asked
    c.clear.ensures c.extend.ensures c.push_word.ensures c.push_word-2.ensures c.extend-2.ensures (omega (arith, c.ranges.due.fits)) (omega (arith, c.ranges.asked.fits))
