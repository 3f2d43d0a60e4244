use Rattle.option_words.proofs.ValueLemmas.{one_kilo}
use Rattle.daemon_words.proofs.options.sizes_by_words.Goals as goal

pub power_of_two-requires : goal.power_of_two-requires
power_of_two-requires c = one_kilo
