-- The ranges of the ports of any server: one whose fronts are all of another kind has none.
use Rattle.partition_model.specs.Options.{InRange}
use Rattle.server_words.specs.declared.limits.TheConstants.{MAX_BATCHES, MOST_FRONTS}
use Rattle.server_words.specs.declared.ports.PortOptions.{PortOptions}

-- each number is in its range, where there may be no front
pub record IsPossiblePorts (ports : PortOptions) : Type 0 where
  pub port : InRange 1024 65000 ports.port
  pub fronts : InRange 0 MOST_FRONTS ports.fronts
  pub batches : InRange 1 MAX_BATCHES ports.batches
