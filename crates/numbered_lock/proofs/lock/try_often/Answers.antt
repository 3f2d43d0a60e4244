use Rattle.std.proofs.Common.{◌==◌, ◌∙◌, arith}
use prog.Atomic.{either}
use Rattle.numbered_lock.proofs.Keeps.{may_take, up_exchange, holds_taken}
use Rattle.numbered_lock.proofs.lock.try_often.Goals as goal

pub compare_exchange-requires : goal.compare_exchange-requires
compare_exchange-requires g c =
    let shared = c.args.shared.now in
    (c.loop.invariant.0 ∙ c.requires.table, c.requires.words, may_take g.X.Numbered.number shared.key shared.table_id.slots c.loop.seat.id c.loop.seat.me (λ n. either (n == 0) 1 n) up_exchange)

pub returns-then-compare_exchange-eq-FREE-clause-held : goal.returns-then-compare_exchange-eq-FREE-clause-held
returns-then-compare_exchange-eq-FREE-clause-held g c _ =
    let took = c.compare_exchange.ensures.2.0 (omega (arith, c.if-compare_exchange-eq-FREE.true)) in
    holds_taken g.X.Numbered.number c.args.shared.now.table_id c.args.shared.now.key _ c.loop.seat.me _ (c.compare_exchange.ensures.0 ∙ c.loop.invariant.0 ∙ c.requires.table) (c.loop.invariant.1 ∙ c.requires.me) took

pub loop-preserved : goal.loop-preserved
loop-preserved g c = (
  c.compare_exchange.ensures.0 ∙ c.loop.invariant.0,
  c.compare_exchange.ensures.2.1 (λ h. omega (arith, h, c.if-compare_exchange-eq-FREE.false)) ∙ c.loop.invariant.1,
)
