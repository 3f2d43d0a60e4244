use Rattle.std.proofs.Common.{◌∙◌, sym}
use Rattle.clap.specs.Matches.{first_value, found_of}
use Rattle.option_words.proofs.ValueLemmas.{no_power}
use Rattle.option_words.proofs.values.power_of_two.Goals as goal

pub returns-else-is_power_of_two : goal.returns-else-is_power_of_two
returns-else-is_power_of_two c = sym (no_power c.args.name.now c.args.most c.args.default (first_value (found_of c.args.found.now) c.args.name.now) c.in_ok-value.value c.requires (sym c.in_ok-value.ensures) (sym c.is_power_of_two.ensures ∙ c.if-is_power_of_two.false))
