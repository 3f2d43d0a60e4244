use Rattle.std.proofs.Common.{◌≡◌, ◌∙◌, arith}
use Rattle.mica_words.specs.Item.{words_for}
use Rattle.partition_walk.proofs.Bytes.{bytes_read}
use Rattle.partition_walk.proofs.pairs.read_bytes.Goals as goal

pub returns-clause-bytes : goal.returns-clause-bytes
returns-clause-bytes g c =
    let count : c.loop-at.at ≡ words_for c.args.len = omega (arith, c.loop-at-test.false, c.loop-at.auto.at-end, c.div_ceil-at-end.ensures) in
    c.truncate.ensures.items ∙ bytes_read (g.W.OwnerWords.owner c.args.words.now) c.args.offset c.loop-at.at c.args.len c.loop-at.out.items count c.loop-at.invariant.bytes
