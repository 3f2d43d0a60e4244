use Rattle.scripted_reader.specs.declared.scripted.Look.TheVariants.{FirstEpoch}
use Rattle.scripted_reader.proofs.scripted.ScriptedReaderWords.first_epoch.Given as goal

abbrev pub ghosts-load : goal.ghosts-load
ghosts-load a = record { look = FirstEpoch a.bucket }
