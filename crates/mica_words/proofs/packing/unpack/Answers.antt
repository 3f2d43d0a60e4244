use Rattle.std.proofs.Common.{◌/◌, ◌%◌, take, refl, ap, ◌∙◌, arith}
use Rattle.mica_words.proofs.WordByWord.{unpacked_whole, unpacked_with_rest}
use Rattle.mica_words.proofs.packing.unpack.Goals as goal

pub returns-then-rest-gt0 : goal.returns-then-rest-gt0
returns-then-rest-gt0 c =
    unpacked_with_rest c.args.len (c.args.len / 8) c.args.from.now c.args.into.now c.write_u64_into.new.dst refl c.requires.words c.write_u64_into.ensures
    c.copy_from_slice.new.self (omega arith) (c.copy_from_slice.ensures.after ∙ ap (take (c.args.len % 8)) c.to_le_bytes.ensures)

pub returns-else-rest-gt0 : goal.returns-else-rest-gt0
returns-else-rest-gt0 c =
    unpacked_whole c.args.len (c.args.len / 8) c.args.from.now c.args.into.now c.write_u64_into.new.dst refl c.requires.words c.write_u64_into.ensures (omega arith)
