use Rattle.std.proofs.Common.{◌≡◌, ◌*◌, ◌/◌, length, drop, refl, sym, ap, ◌∙◌, arith}
use Rattle.std.proofs.lemmas.List.{length-take-le}
use Rattle.std.proofs.lemmas.Bool.Decides.{nat_tests}
use borrow.Author.Tests.{eqb-true}
use Rattle.byteorder.specs.Endian.{little_from}
use Rattle.mica_words.proofs.WordByWord.{packed_whole, packed_with_rest}
use Rattle.mica_words.proofs.packing.pack.Goals as goal

pub returns-then-not-is_empty : goal.returns-then-not-is_empty
returns-then-not-is_empty c =
    packed_with_rest c.args.from.now c.args.into.now c.read_u64_into.new.dst (length c.args.from.now / 8) (c.read_u64_into.auto.dst ∙ length-take-le _ _ (omega arith)) refl c.requires
    (λ k below. c.read_u64_into.ensures k below ∙ ap (λ z. little_from 0 8 (drop (8 * k) z)) c.split_at.ensures.front)
    c.split_at.result.1.now c.read_uint.result c.split_at.ensures.back (grind (arith, nat_tests)) c.read_uint.ensures

pub returns-else-not-is_empty : goal.returns-else-not-is_empty
returns-else-not-is_empty c =
    let none : length c.split_at.result.1.now ≡ 0 = eqb-true _ _ (sym c.is_empty.ensures ∙ c.if-not-is_empty.false) in
    packed_whole c.args.from.now c.args.into.now c.read_u64_into.new.dst (length c.args.from.now / 8) (c.read_u64_into.auto.dst ∙ length-take-le _ _ (omega arith)) refl c.requires
    (λ k below. c.read_u64_into.ensures k below ∙ ap (λ z. little_from 0 8 (drop (8 * k) z)) c.split_at.ensures.front) (omega arith)
