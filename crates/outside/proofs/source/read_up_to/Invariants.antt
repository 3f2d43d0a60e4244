use Rattle.std.proofs.Common.{◌≡◌, ◌+◌, ◌≤◌, false, vec_len, take, ◌-◌}
use Rattle.std.specs.Io.KnownBytes.{Consumes}
use Rattle.outside.proofs.source.read_up_to.Given as goal

abbrev pub invariant-loop-filled : goal.invariant-loop-filled
invariant-loop-filled g l =
    (l.filled ≤ vec_len l.bytes)
    × (vec_len l.bytes ≤ l.limit + 1)
    × Consumes (g.S.Source.left l.initial.source) (g.S.Source.left l.source) (take l.filled l.bytes.items)
    × (g.S.Source.given l.source ≡ g.S.Source.given l.initial.source + l.filled)
    × (g.S.Source.has_ended l.source ≡ false)
    × (g.S.Source.faults l.initial.source ≤ g.S.Source.faults l.source)

abbrev pub decreases-loop-filled : goal.decreases-loop-filled
decreases-loop-filled g l = l.limit + 1 - l.filled
