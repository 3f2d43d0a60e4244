use Rattle.std.proofs.Common.{◌≡◌}
use Rattle.scripted_reader.proofs.scripted.Stage.play_to.Given as goal

abbrev pub invariant-loop-event : goal.invariant-loop-event
invariant-loop-event l = (l.self.played ≡ l._event)
    × (l.self.seat.me.0.reader ≡ l.fn.self.seat.me.0.reader)
    × ((l.self.seat.me.0.plan ≡ l.fn.self.seat.me.0.plan) × (l.self.seat.me.0.looks ≡ l.fn.self.seat.me.0.looks))
    × ((l.self.events ≡ l.fn.self.events) × (l.self.shape ≡ l.fn.self.shape))
    × (l.self.seat.table_id ≡ l.fn.self.seat.table_id)
