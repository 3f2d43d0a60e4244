-- The ranges of the options of a client.
use Rattle.partition_model.specs.Options.{InRange}
use Rattle.server_words.specs.declared.ask_options.AskOptions.{AskOptions}

-- each number is in its range
pub record IsValidAsk (options : AskOptions) : Type 0 where
  pub port : InRange 1024 65000 options.port
  pub partitions : InRange 1 16 options.partitions
  pub fronts : InRange 1 16 options.fronts
  pub per : InRange 1 255 options.per
  pub wait : InRange 1 3600 options.wait
