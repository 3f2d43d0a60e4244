use Rattle.std.proofs.Common.{◌≡◌, ℕ, ◌+◌, ◌-◌, ◌<◌}
use Rattle.std.specs.Prelude.{vec_len}
use Rattle.connection_loop.specs.Clients.{at}
use Rattle.connection_loop.specs.Counted.{AreCounted}
use Rattle.connection_loop.proofs.clients.Clients.make_room.Given as goal

abbrev pub invariant-loop-len : goal.invariant-loop-len
invariant-loop-len l =
    ((n : ℕ) → at l.self.held.items n ≡ at l.initial.self.held.items n)
    × (l.len ≡ vec_len l.self.held)
    × (l.number < vec_len l.self.budget.counted)
    × AreCounted l.self
    × (l.self.budget.most ≡ l.initial.self.budget.most)

abbrev pub decreases-loop-len : goal.decreases-loop-len
decreases-loop-len l = (l.number + 1) - l.len
