use Rattle.std.proofs.Common.{◌≡◌, ◌≤◌, true, take}
use Rattle.std.specs.Prelude.{is_some}
use Rattle.datagram_answers.specs.OneEnd.{OnTraffic, SendsAll}
use Rattle.datagram_answers.proofs.end.send_all.Given as goal

abbrev pub invariant-loop-reply : goal.invariant-loop-reply
invariant-loop-reply g l =
    (g.D.Datagrams.has_received l.end ≡ true)
    × OnTraffic (SendsAll (take l.reply-index l.replies)) (g.D.Datagrams.traffic l.initial.end) (g.D.Datagrams.traffic l.end)
    × (g.D.Datagrams.has_ended l.end ≡ g.D.Datagrams.has_ended l.initial.end)
    × (g.D.Datagrams.faults l.initial.end ≤ g.D.Datagrams.faults l.end)
    × (is_some (g.D.Datagrams.script l.initial.end) ≡ true → g.D.Datagrams.faults l.end ≡ g.D.Datagrams.faults l.initial.end)
    × (is_some (g.D.Datagrams.script l.end) ≡ is_some (g.D.Datagrams.script l.initial.end))
    × (g.D.Datagrams.port l.end ≡ g.D.Datagrams.port l.initial.end)
