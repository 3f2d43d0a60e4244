use Rattle.option_words.proofs.ValueLemmas.{one_kilo}
use Rattle.mica_commands.proofs.option_values.options_with.Goals as goal

pub power_of_two-requires : goal.power_of_two-requires
power_of_two-requires c = one_kilo
