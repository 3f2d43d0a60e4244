use Rattle.std.proofs.Common.{arith}
use Rattle.std.proofs.Common.{true, false, refl, sym}
use Rattle.store_image.specs.ImageGrammar.{is_above}
use Rattle.store_image.proofs.Texts.{tested, pair_tested}
use Rattle.store_image.proofs.reading.read_pair.Goals as goal

pub returns-then-not-are_texts-clause-fault : goal.returns-then-not-are_texts-clause-fault
returns-then-not-are_texts-clause-fault c =
    grind (arith, c.in_ok-key, pair_tested c.args.last.now c.args.from.now _ false (is_above c.args.last.now c.in_ok-key.key.now) c.in_ok-key.ensures.fault c.in_ok-key.ensures.parts.0 (tested false _ _ c.in_ok-key.ensures.fit.0 c.in_ok-key.ensures.fit.1 c.if-not-are_texts.ensures) refl)

pub returns-then-not-follows-clause-fault : goal.returns-then-not-follows-clause-fault
returns-then-not-follows-clause-fault c =
    grind (arith, c.in_ok-key, pair_tested c.args.last.now c.args.from.now _ true false c.in_ok-key.ensures.fault c.in_ok-key.ensures.parts.0 (tested true _ _ c.in_ok-key.ensures.fit.0 c.in_ok-key.ensures.fit.1 c.if-not-are_texts.ensures) (sym c.if-not-follows.ensures))

pub returns-clause-fault : goal.returns-clause-fault
returns-clause-fault c =
    grind (arith, c.in_ok-key, pair_tested c.args.last.now c.args.from.now _ true true c.in_ok-key.ensures.fault c.in_ok-key.ensures.parts.0 (tested true _ _ c.in_ok-key.ensures.fit.0 c.in_ok-key.ensures.fit.1 c.if-not-are_texts.ensures) (sym c.if-not-follows.ensures))
