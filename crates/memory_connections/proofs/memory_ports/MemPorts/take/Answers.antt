use Rattle.std.proofs.Common.{◌≡◌, ◌+◌, ◌<◌, length, None, Some, sym, ap, ◌∙◌, arith}
use Rattle.std.specs.Prelude.{slice_set}
use Rattle.memory_connections.specs.MemoryPorts.{in_seat, taken_in}
use Rattle.memory_connections.proofs.Seats.{put_there, taken_fewer}
use Rattle.memory_connections.proofs.memory_ports.MemPorts.take.Goals as goal

pub overflow_sub-self : goal.overflow_sub-self
overflow_sub-self c =
    let seats = c.args.self.now.seats.items in
    let lt : c.args.port < length seats = omega (arith, c.args.self.now.whole, c.ranges.port.fits) in
    let is : c.index_mut.result.now ≡ Some c.in-Some.connections = sym c.take.ensures.value ∙ c.in-Some.is in
    let fewer : taken_in (slice_set seats c.args.port c.take.new.self) + 1 ≡ taken_in seats =
    taken_fewer seats c.args.port c.index_mut.result.now c.take.new.self c.in-Some.connections lt c.index_mut.ensures.value is c.take.ensures.after in
    omega (arith, fewer, c.args.self.now.counted)

pub invariant_of-self-clause-counted : goal.invariant_of-self-clause-counted
invariant_of-self-clause-counted c =
    let seats = c.args.self.now.seats.items in
    let lt : c.args.port < length seats = omega (arith, c.args.self.now.whole, c.ranges.port.fits) in
    let is : c.index_mut.result.now ≡ Some c.in-Some.connections = sym c.take.ensures.value ∙ c.in-Some.is in
    let fewer : taken_in (slice_set seats c.args.port c.take.new.self) + 1 ≡ taken_in seats =
    taken_fewer seats c.args.port c.index_mut.result.now c.take.new.self c.in-Some.connections lt c.index_mut.ensures.value is c.take.ensures.after in
    omega (arith, fewer, c.args.self.now.counted)

pub returns-in-Some-clause-at : goal.returns-in-Some-clause-at
returns-in-Some-clause-at c =
    let seats = c.args.self.now.seats.items in
    let lt : c.args.port < length seats = omega (arith, c.args.self.now.whole, c.ranges.port.fits) in
    put_there seats c.args.port c.take.new.self None lt (ap (λ x. in_seat (Some x)) c.take.ensures.after)
