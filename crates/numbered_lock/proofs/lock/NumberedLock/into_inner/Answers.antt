use Rattle.std.proofs.Common.{ap, sym, ◌∙◌}
use Rattle.numbered_lock.specs.Lock.{LockView}
use Rattle.numbered_lock.proofs.Holding.{may_lend, has_number}
use Rattle.numbered_lock.proofs.lock.NumberedLock.into_inner.Goals as goal

pub exchange-requires : goal.exchange-requires
exchange-requires g c =
    let held = c.hold-seat.ensures in
    (held.2.table_is ∙ ap (λ (v : LockView). v.table) (sym c.self.view_is), may_lend g.X.Numbered.number _ _ _ held)

pub returns : goal.returns
returns g c = has_number g.X.Numbered.number _ _ _ c.hold-seat.ensures c.exchange.result c.in-Some.value c.exchange.ensures.2 c.in-Some.is
