use Rattle.std.proofs.Common.{◌≡◌, ◌≤◌, ◌<◌, ℕ, true, map, length, take, drop, ◌+◌, slice_get, Some}
use Rattle.std.specs.Prelude.{is_some, min, sum_by}
use Rattle.outside.specs.Faults.{Rose, LAST_COUNT}
use Rattle.served.specs.NetRun.{OnPorts}
use Rattle.served.specs.Ends.{end_facts}
use Rattle.served.proofs.Binding.{Releasing}
use Rattle.served.proofs.bound_ends.release_all.Given as goal

abbrev pub invariant-loop-end : goal.invariant-loop-end
invariant-loop-end g l =
    (l.ends.items ≡ take (length l.ends.items) l.initial.ends.items)
    × OnPorts (Releasing l.first (map (end_facts g.N.End.Datagrams) l.initial.ends.items) (length l.ends.items)) (g.N.Net.ports l.initial.net) (g.N.Net.ports l.net)
    × (g.N.Net.faults l.initial.net ≤ g.N.Net.faults l.net)
    × (g.N.Net.fails l.net ≡ g.N.Net.fails l.initial.net)
    × (g.N.Net.binds l.net ≡ g.N.Net.binds l.initial.net)
    × (g.N.Net.first l.net ≡ g.N.Net.first l.initial.net)
    × (g.N.Net.refused l.net ≡ g.N.Net.refused l.initial.net)
    × ((i : ℕ) (e : g.row.N-End.Denot) → length l.ends.items ≤ i → slice_get l.initial.ends.items i ≡ Some e → 0 < g.N.End.Datagrams.faults e
    → Rose (g.N.Net.faults l.initial.net) (g.N.Net.faults l.net))
    × (is_some (g.N.Net.fails l.initial.net) ≡ true → ((i : ℕ) (e : g.row.N-End.Denot) → slice_get l.initial.ends.items i ≡ Some e → g.N.End.Datagrams.faults e ≡ 0)
    → g.N.Net.faults l.net ≡ g.N.Net.faults l.initial.net)
    × (is_some (g.N.Net.fails l.initial.net) ≡ true → min (g.N.Net.faults l.net) LAST_COUNT
    ≡ min (g.N.Net.faults l.initial.net + sum_by (λ e. e.faults) (drop (length l.ends.items) (map (end_facts g.N.End.Datagrams) l.initial.ends.items))) LAST_COUNT)

abbrev pub decreases-loop-end : goal.decreases-loop-end
decreases-loop-end g l = length l.ends.items
