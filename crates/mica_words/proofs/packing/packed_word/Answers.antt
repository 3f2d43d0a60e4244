use Rattle.std.proofs.Common.{◌*◌, ◌∙◌, drop, length-drop, arith}
use Rattle.std.proofs.lemmas.List.{take_all}
use Rattle.mica_words.proofs.PackedBytes.{whole_word, last_word}
use Rattle.mica_words.proofs.packing.packed_word.Goals as goal

pub returns-then-rest-lt8 : goal.returns-then-rest-lt8
returns-then-rest-lt8 c =
    let rest = take_all _ (drop (8 * c.args.at) c.args.from.now) (omega (arith, length-drop (8 * c.args.at) c.args.from.now)) in
    c.read_uint.ensures ∙ last_word c.args.from.now _ c.args.at c.requires rest c.if-rest-lt8.true

pub returns : goal.returns
returns c =
    let rest = take_all _ (drop (8 * c.args.at) c.args.from.now) (omega (arith, length-drop (8 * c.args.at) c.args.from.now)) in
    c.read_u64.ensures ∙ whole_word c.args.from.now _ c.args.at c.requires rest
