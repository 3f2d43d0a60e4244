use Rattle.std.proofs.Common.{arith, ap, sym, ◌∙◌}
use Rattle.numbered_lock.specs.Lock.{LockView}
use Rattle.numbered_lock.proofs.Keeps.{may_give}
use Rattle.numbered_lock.proofs.lock.NumberedLock.let_go.Goals as goal

pub swap-requires : goal.swap-requires
swap-requires g c =
    let shared = c.self.inside.table.shared in
    let held = c.requires in
    let same = sym c.self.view_is in (
      held.2.table_is ∙ ap (λ (v : LockView). v.table) same,
      omega (arith, c.self.invariant.0),
      may_give g.X.Numbered.number shared.key shared.table_id.slots c.args.held.seat.id c.args.held.seat.me held.0 (ap (λ m. m.1) held.2.me_is) (held.1 ∙ ap (λ (v : LockView). v.number) same),
    )
