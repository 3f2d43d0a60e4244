use Rattle.std.proofs.Common.{◌∙◌, subst, arith}
use Rattle.numbered_lock.specs.Lock.{LockView, IsHeld}
use Rattle.numbered_lock.proofs.Keeps.{enters}
use Rattle.numbered_lock.proofs.lock.NumberedLock.hold.Goals as goal

pub load_new_seat-seat-requires : goal.load_new_seat-seat-requires
load_new_seat-seat-requires g c =
    let shared = c.self.inside.table.shared in
    (omega (arith, c.self.invariant.0), enters g.X.Numbered.number shared.key shared.table_id.slots)

pub try_often-requires-clause-words : goal.try_often-requires-clause-words
try_often-requires-clause-words g c = omega (arith, c.self.invariant.0)

pub try_often-requires-clause-me : goal.try_often-requires-clause-me
try_often-requires-clause-me g c = c.load_new_seat-seat.ensures.2

pub returns-then-try_often : goal.returns-then-try_often
returns-then-try_often g c =
    subst (λ (l : LockView). IsHeld g.X.Numbered.number l c.try_often.new.seat.table_id c.try_often.new.seat.me) c.self.view_is (c.try_often.ensures.held c.if-try_often.true)

pub wait-requires-clause-words : goal.wait-requires-clause-words
wait-requires-clause-words g c = omega (arith, c.self.invariant.0)

pub wait-requires-clause-table : goal.wait-requires-clause-table
wait-requires-clause-table g c = c.try_often.ensures.table ∙ c.load_new_seat-seat.ensures.0

pub wait-requires-clause-me : goal.wait-requires-clause-me
wait-requires-clause-me g c = c.try_often.ensures.same c.if-try_often.false ∙ c.load_new_seat-seat.ensures.2

pub returns : goal.returns
returns g c =
    subst (λ (l : LockView). IsHeld g.X.Numbered.number l c.wait.new.seat.table_id c.wait.new.seat.me) c.self.view_is c.wait.ensures
