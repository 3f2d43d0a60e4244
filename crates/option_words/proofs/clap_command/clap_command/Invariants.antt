use Rattle.std.proofs.Common.{◌≡◌, map, take}
use Rattle.clap.specs.Simple.{app_of}
use Rattle.option_words.specs.ClapCommand.{app_with}
use Rattle.option_words.proofs.clap_command.clap_command.Given as goal

abbrev pub invariant-loop-option : goal.invariant-loop-option
invariant-loop-option l = app_of l.command ≡ app_with l.name (map (λ o. o.now) (take l.option-index l.options))
