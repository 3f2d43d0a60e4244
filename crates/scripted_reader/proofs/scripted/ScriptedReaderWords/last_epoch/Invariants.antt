use Rattle.scripted_reader.specs.declared.scripted.Look.TheVariants.{LastEpoch}
use Rattle.scripted_reader.proofs.scripted.ScriptedReaderWords.last_epoch.Given as goal

abbrev pub ghosts-load : goal.ghosts-load
ghosts-load a = record { look = LastEpoch a.bucket }
