use Rattle.std.proofs.Common.{rules, ◌≡◌, ◌+◌, true, sym, ◌∙◌}
use Rattle.std.specs.Prelude.{is_some}
use Rattle.memory_connections.specs.MemoryPorts.{seating_in}
use Rattle.memory_connections.proofs.Seats.{awaited_on}
use Rattle.memory_connections.proofs.memory_ports.MemPorts.are_taken.Goals as goal

pub loop-k-preserved : goal.loop-k-preserved
loop-k-preserved c =
    let seats = c.args.self.now.seats.items in
    let taken : is_some (seating_in seats (c.args.first + c.loop-k.k)) ≡ true = search rules in
    sym (awaited_on c.args.first c.loop-k.k c.args.count seats c.loop-k-test.true taken) ∙ c.loop-k.invariant
