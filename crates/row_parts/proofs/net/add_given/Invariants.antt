use Rattle.std.proofs.Common.{◌≡◌, true}
use Rattle.outside.specs.PortStates.{takes_datagram}
use Rattle.memory_outside.specs.MemoryPorts.{ports_in}
use Rattle.row_parts.proofs.net.add_given.Given as goal

abbrev pub invariant-loop : goal.invariant-loop
invariant-loop l = record {
  takes : takes_datagram (ports_in l.net.ports.items l.port) ≡ true;
  binds : l.net.binds ≡ l.initial.net.binds;
}
