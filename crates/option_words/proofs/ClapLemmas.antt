-- clap's command as it is put together.
use Rattle.std.proofs.Common.{◌≡◌, ℕ, ◌+◌, ◌<◌, List, map, take, get_or, length, false, arith}
use Rattle.std.specs.Borrow.{Bor}
use Rattle.std.proofs.lemmas.Grind.{common_steps}
use Rattle.clap.specs.Walk.{rule_of}
use Rattle.clap.specs.Simple.{app_of}
use Rattle.clap.specs.Built.{AddsArg}
use Rattle.clap.specs.declared.builder.arg.Arg.{Arg}
use Rattle.clap.specs.declared.builder.command.Command.{Command}
use Rattle.option_words.specs.Words.{Text}
use Rattle.option_words.specs.ClapCommand.{option_rule, app_with}

pub option_added : (command : Text) (options : List (Bor Text)) (i : ℕ) (d : Bor Text) (old : Command) (a : Arg) (new : Command) → i < length options → app_of old ≡ app_with command (map (λ o. o.now) (take i options))
    → rule_of a ≡ option_rule (get_or options i d).now → a.global ≡ false → AddsArg old a new → app_of new ≡ app_with command (map (λ o. o.now) (take (i + 1) options))
option_added command options i d old a new below before rule local adds = grind (arith, common_steps)
