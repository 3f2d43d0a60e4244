use Rattle.std.proofs.Common.{refl, ap, ◌∙◌, arith}
use Rattle.std.specs.Int.{w64, from_le_bytes}
use Rattle.keyed_hash.proofs.Left.{starts, goes_on, ends}
use Rattle.keyed_hash.proofs.keyed.keyed_hash.Goals as goal

pub loop-word-init : goal.loop-word-init
loop-word-init c = starts c.args.secret.now.k0 c.args.secret.now.k1 c.args.key.now c.under-mixed.result (λ k. (c.type_inv.key k).fits) c.under-mixed.ensures

pub loop-word-preserved : goal.loop-word-preserved
loop-word-preserved c =
    goes_on c.args.secret.now.k0 c.args.secret.now.k1 c.from_le_bytes.result c.args.key.now c.loop-word.rest.now c.in-Some.behind.now c.loop-word.mixed c.with_word-mixed.result
    c.loop-word.invariant (omega arith) (omega (arith, c.in-Some.ensures.cases.2)) c.in-Some.ensures.cases.1 (c.from_le_bytes.ensures ∙ ap (from_le_bytes w64) c.in-Some.ensures.cases.0) c.with_word-mixed.ensures

pub returns : goal.returns
returns c =
    ends c.args.secret.now.k0 c.args.secret.now.k1 c.tail_of.result c.finished.result c.args.key.now c.loop-word.rest.now c.loop-word.mixed c.loop-word.invariant (omega arith) c.tail_of.ensures
    (c.finished.ensures c.tail_of.result _ refl)
