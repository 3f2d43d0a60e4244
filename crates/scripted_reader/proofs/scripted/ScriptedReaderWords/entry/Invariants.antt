use Rattle.scripted_reader.specs.declared.scripted.Look.TheVariants.{Word}
use Rattle.scripted_reader.proofs.scripted.ScriptedReaderWords.entry.Given as goal

abbrev pub ghosts-load : goal.ghosts-load
ghosts-load a = record { look = Word a.place }
