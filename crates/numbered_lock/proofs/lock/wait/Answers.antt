use Rattle.std.proofs.Common.{◌∙◌, arith}
use Rattle.numbered_lock.proofs.Keeps.{may_take, holds_taken}
use Rattle.numbered_lock.proofs.lock.wait.Goals as goal

pub swap-requires : goal.swap-requires
swap-requires g c =
    let shared = c.args.shared.now in
    (c.loop.invariant.0 ∙ c.requires.table, c.requires.words, may_take g.X.Numbered.number shared.key shared.table_id.slots c.loop.seat.id c.loop.seat.me (λ _. 2) (λ n. omega (arith)))

pub returns-then-swap-eq-FREE : goal.returns-then-swap-eq-FREE
returns-then-swap-eq-FREE g c =
    let took = c.swap.ensures.2.0 (omega (arith, c.if-swap-eq-FREE.true)) in
    holds_taken g.X.Numbered.number c.args.shared.now.table_id c.args.shared.now.key _ c.loop.seat.me _ (c.swap.ensures.0 ∙ c.loop.invariant.0 ∙ c.requires.table) (c.loop.invariant.1 ∙ c.requires.me) took

pub loop-preserved : goal.loop-preserved
loop-preserved g c = (
  c.swap.ensures.0 ∙ c.loop.invariant.0,
  c.swap.ensures.2.1 (λ h. omega (arith, h, c.if-swap-eq-FREE.false)) ∙ c.loop.invariant.1,
)
