use Rattle.std.proofs.Common.{◌∙◌, string_bytes, sym, ap, map}
use Rattle.mica_commands.specs.CommandLine.{command_named}
use Rattle.mica_commands.proofs.CommandLemmas.{command_is, no_command}
use Rattle.mica_commands.proofs.command.read_words.Goals as goal

pub returns-in_default-as_str : goal.returns-in_default-as_str
returns-in_default-as_str c =
    let other = c.in_default-as_str in
    command_is string_bytes c.args.words.now c.in-Some.name.now c.in-Some.rest.now c.in-Some.ensures.cases.0
    ∙ (ap (λ n. command_named n (map string_bytes c.in-Some.rest.now)) (sym c.as_str.ensures.value) ∙ no_command c.as_str.result.now (map string_bytes c.in-Some.rest.now) other.not-replay other.not-serve other.not-gen other.not-bench other.not-check other.not-exclusive other.not-ask other.not-image other.not-unpack)
