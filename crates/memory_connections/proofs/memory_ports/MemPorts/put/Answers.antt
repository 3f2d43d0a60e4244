use Rattle.std.proofs.Common.{◌≡◌, ◌+◌, ◌<◌, length, None, Some, sym, ap, ◌∙◌, arith}
use Rattle.std.specs.Prelude.{slice_set}
use Rattle.memory_connections.specs.MemoryPorts.{in_seat, seating_in, with_seat}
use Rattle.memory_connections.proofs.Seats.{put_there, taken_more, taken_same}
use Rattle.memory_connections.proofs.memory_ports.MemPorts.put.Goals.{in-Some, in-None}
use Rattle.memory_connections.proofs.memory_ports.MemPorts.put.Goals as goal

pub invariant_of-self-clause-counted : goal.invariant_of-self-clause-counted
invariant_of-self-clause-counted c =
    let seats = c.args.self.now.seats.items in
    let lt : c.args.port < length seats = omega (arith, c.args.self.now.whole, c.ranges.port.fits) in
    let is : c.index_mut.result.now ≡ Some c.in-Some.field-0 = sym c.replace-before.ensures.value ∙ c.in-Some.is in
    c.args.self.now.counted
    ∙ sym (taken_same seats c.args.port c.index_mut.result.now c.replace-before.new.dest c.in-Some.field-0 c.args.connections lt c.index_mut.ensures.value is c.replace-before.ensures.after)

pub invariant_of-self-in-None-clause-counted : goal.invariant_of-self-in-None-clause-counted
invariant_of-self-in-None-clause-counted c =
    let seats = c.args.self.now.seats.items in
    let lt : c.args.port < length seats = omega (arith, c.args.self.now.whole, c.ranges.port.fits) in
    let is : c.index_mut.result.now ≡ None = sym c.replace-before.ensures.value ∙ c.in-None.is in
    ap (λ n. n + 1) c.args.self.now.counted
    ∙ sym (taken_more seats c.args.port c.index_mut.result.now c.replace-before.new.dest c.args.connections lt c.index_mut.ensures.value is c.replace-before.ensures.after)

pub returns-clause-at : goal.returns-clause-at
returns-clause-at c =
    let seats = c.args.self.now.seats.items in
    let lt : c.args.port < length seats = omega (arith, c.args.self.now.whole, c.ranges.port.fits) in
    let there : seating_in (slice_set seats c.args.port c.replace-before.new.dest) ≡ with_seat c.args.port (Some c.args.connections.value) (seating_in seats) =
    put_there seats c.args.port c.replace-before.new.dest (Some c.args.connections.value) lt (ap (λ x. in_seat (Some x)) c.replace-before.ensures.after) in
    elim c.match-before.branch [
      | in-Some w ↦ ap (λ p. seating_in p.seats.items) w.self-is ∙ there
      | in-None w ↦ ap (λ p. seating_in p.seats.items) w.self-is ∙ there
    ]
