use Rattle.option_words.proofs.ClapLemmas.{option_added}
use Rattle.option_words.proofs.clap_command.clap_command.Goals as goal

pub loop-option-preserved : goal.loop-option-preserved
loop-option-preserved c = option_added c.args.name.now c.args.options.now c.loop-option.option-index _ c.loop-option.command c.option_named.result c.in_ok-command.command c.loop-option-test.true c.loop-option.invariant c.option_named.ensures.rule c.option_named.ensures.local c.in_ok-command.ensures
