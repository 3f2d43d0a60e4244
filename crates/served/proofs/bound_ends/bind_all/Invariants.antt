use Rattle.std.proofs.Common.{◌≡◌, ◌≤◌, ◌<◌, true, map, vec_len, vec_capacity}
use Rattle.std.specs.Prelude.{is_some}
use Rattle.served.specs.Ends.{AreNewEnds, BindsEnds, end_facts}
use Rattle.served.specs.NetRun.{OnPorts}
use Rattle.served.proofs.bound_ends.bind_all.Given as goal

abbrev pub invariant-loop-f : goal.invariant-loop-f
invariant-loop-f g l =
    (vec_len l.ends ≡ l.f)
    × (l.ports.fronts ≤ vec_capacity l.ends)
    × AreNewEnds l.ports.port (map (end_facts g.N.End.Datagrams) l.ends.items)
    × OnPorts (BindsEnds l.ports.port (map (end_facts g.N.End.Datagrams) l.ends.items)) (g.N.Net.ports l.initial.net) (g.N.Net.ports l.net)
    × (g.N.Net.binds l.net ≡ l.f)
    × (0 < l.f → g.N.Net.first l.net ≡ l.ports.port)
    × (g.N.Net.refused l.net ≡ g.N.Net.refused l.initial.net)
    × (g.N.Net.faults l.initial.net ≤ g.N.Net.faults l.net)
    × (g.N.Net.fails l.net ≡ g.N.Net.fails l.initial.net)
    × (is_some (g.N.Net.fails l.initial.net) ≡ true → g.N.Net.faults l.net ≡ g.N.Net.faults l.initial.net)
