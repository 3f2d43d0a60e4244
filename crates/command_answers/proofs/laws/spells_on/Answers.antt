use Rattle.command_answers.proofs.SpellsLaws.{spells_more}
use Rattle.command_answers.proofs.laws.spells_on.Goals as goal

pub returns : goal.returns
returns c = spells_more
