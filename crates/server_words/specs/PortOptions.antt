-- The ranges of the ports of a server.
use Rattle.partition_model.specs.Options.{InRange}
use Rattle.server_words.specs.declared.limits.TheConstants.{MAX_BATCHES}
use Rattle.server_words.specs.declared.ports.PortOptions.{PortOptions}

-- each number is in its range
pub record IsValidPorts (ports : PortOptions) : Type 0 where
  pub port : InRange 1024 65000 ports.port
  pub fronts : InRange 1 16 ports.fronts
  pub batches : InRange 1 MAX_BATCHES ports.batches
