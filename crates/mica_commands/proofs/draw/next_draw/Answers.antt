use Rattle.mica_commands.proofs.Drawing.{draws, draw_is}
use Rattle.mica_commands.proofs.draw.next_draw.Goals as goal

pub returns-clause-draw : goal.returns-clause-draw
returns-clause-draw c =
    let drew = draws c.args.options.now c.args.number c.next_word-kind.result c.next_word-spot.result c.next_word-key.result
    c.args.words.now c.next_word-kind.new.self c.next_word-spot.new.self c.next_word-key.new.self c.requires.place c.next_word-kind.ensures c.next_word-spot.ensures c.next_word-key.ensures in
    draw_is c.args.options.now c.args.number c.next_word-kind.result c.next_word-spot.result c.next_word-key.result c.next_word-key.new.self
    c.kind_of.result c.key_number.result drew c.kind_of.ensures c.key_number.ensures

pub returns-clause-place : goal.returns-clause-place
returns-clause-place c =
    (draws c.args.options.now c.args.number c.next_word-kind.result c.next_word-spot.result c.next_word-key.result
    c.args.words.now c.next_word-kind.new.self c.next_word-spot.new.self c.next_word-key.new.self c.requires.place c.next_word-kind.ensures c.next_word-spot.ensures c.next_word-key.ensures).place
