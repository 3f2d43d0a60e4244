-- What is valid is possible.
use Rattle.std.proofs.Common.{arith}
use Rattle.std.proofs.lemmas.Grind.{common_steps}
use Rattle.partition_model.specs.declared.options.Options.{Options}
use Rattle.partition_model.specs.Options.{IsPossible, IsValid}

pub valid_possible : (options : Options) → IsValid options → IsPossible options
valid_possible options valid = grind (arith, common_steps)
