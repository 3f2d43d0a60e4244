use Rattle.scripted_reader.specs.declared.scripted.Look.TheVariants.{Stamp}
use Rattle.scripted_reader.proofs.scripted.ScriptedReaderWords.stamp.Given as goal

abbrev pub ghosts-load : goal.ghosts-load
ghosts-load a = record { look = Stamp }
