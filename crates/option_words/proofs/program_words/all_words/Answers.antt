use Rattle.std.proofs.Common.{string_bytes}
use Rattle.option_words.proofs.ProgramWords.{gathered_words}
use Rattle.option_words.proofs.program_words.all_words.Goals as goal

pub returns-in-Ok : goal.returns-in-Ok
returns-in-Ok c = gathered_words string_bytes c.args.args c.in-Ok.args _ c.in-Ok.is c.gathered.ensures
