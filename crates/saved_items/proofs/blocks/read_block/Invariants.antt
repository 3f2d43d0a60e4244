use Rattle.std.proofs.Common.{◌≡◌, ◌≤◌, false, length, take, ◌-◌}
use Rattle.std.specs.Io.KnownBytes.{Consumes}
use Rattle.saved_items.proofs.blocks.read_block.Given as goal

abbrev pub invariant-loop-filled : goal.invariant-loop-filled
invariant-loop-filled g l =
    (l.filled ≤ length l.block)
    × Consumes (g.S.Source.left l.initial.source) (g.S.Source.left l.source) (take l.filled l.block)
    × (g.S.Source.has_ended l.source ≡ false)
    × (g.S.Source.faults l.initial.source ≤ g.S.Source.faults l.source)

abbrev pub decreases-loop-filled : goal.decreases-loop-filled
decreases-loop-filled g l = length l.block - l.filled
