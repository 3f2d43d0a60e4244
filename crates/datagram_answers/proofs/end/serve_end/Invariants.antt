use Rattle.std.proofs.Common.{◌≡◌, ◌≤◌, ◌+◌, ◌*◌, true, false}
use Rattle.std.specs.Prelude.{is_some}
use Rattle.datagram_answers.specs.OneEnd.{OnTraffic, ServesSome}
use Rattle.datagram_answers.proofs.end.serve_end.Given as goal

abbrev pub invariant-loop : goal.invariant-loop
invariant-loop g l =
    OnTraffic (ServesSome (g.F.Front.options l.initial.front) g.F.Front.is_alone (g.F.Front.sessions l.initial.front) (g.F.Front.left l.initial.front)
    l.counter l.totals (g.F.Front.sessions l.front) (g.F.Front.left l.front)) (g.D.Datagrams.traffic l.initial.end) (g.D.Datagrams.traffic l.end)
    × (g.D.Datagrams.has_ended l.end ≡ false)
    × (g.F.Front.options l.front ≡ g.F.Front.options l.initial.front)
    × (g.F.Front.stands l.front ≡ g.F.Front.stands l.initial.front)
    × (g.F.Front.left l.initial.front ≤ g.F.Front.left l.front + 255 * l.counter)
    × (l.totals.batches ≡ l.counter)
    × (l.totals.requests ≤ 255 * l.counter)
    × (l.totals.bad ≤ l.counter)
    × (g.D.Datagrams.faults l.initial.end ≤ g.D.Datagrams.faults l.end)
    × (is_some (g.D.Datagrams.script l.initial.end) ≡ true → g.D.Datagrams.faults l.end ≡ g.D.Datagrams.faults l.initial.end)
    × (is_some (g.D.Datagrams.script l.end) ≡ is_some (g.D.Datagrams.script l.initial.end))
    × (g.D.Datagrams.port l.end ≡ g.D.Datagrams.port l.initial.end)
    × (g.F.Front.number l.front ≡ g.F.Front.number l.initial.front)
