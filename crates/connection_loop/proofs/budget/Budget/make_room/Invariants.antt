use Rattle.std.proofs.Common.{◌≡◌, ℕ, ◌+◌, ◌-◌, ◌≤◌}
use Rattle.std.specs.Prelude.{Some, slice_get, vec_len}
use Rattle.connection_loop.specs.Counted.{IsBudget}
use Rattle.connection_loop.proofs.budget.Budget.make_room.Given as goal

abbrev pub invariant-loop-len : goal.invariant-loop-len
invariant-loop-len l =
    IsBudget l.self
    × (l.self.most ≡ l.initial.self.most)
    × ((n k : ℕ) → slice_get l.initial.self.counted.items n ≡ Some k → slice_get l.self.counted.items n ≡ Some k)
    × (vec_len l.initial.self.counted ≤ vec_len l.self.counted)
    × (l.len ≡ vec_len l.self.counted)

abbrev pub decreases-loop-len : goal.decreases-loop-len
decreases-loop-len l = (l.number + 1) - l.len
