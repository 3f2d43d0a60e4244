-- Ports that are valid are possible.
use Rattle.std.proofs.Common.{arith}
use Rattle.server_words.specs.declared.ports.PortOptions.{PortOptions}
use Rattle.server_words.specs.PortOptions.{IsValidPorts}
use Rattle.server_words.specs.PossiblePorts.{IsPossiblePorts}

pub possible_ports : (ports : PortOptions) → IsValidPorts ports → IsPossiblePorts ports
possible_ports ports valid = record { port = valid.port; fronts = (omega arith, omega (arith, valid.fronts.1)); batches = valid.batches }
