use Rattle.mica_replay.specs.Crew.{read_terms}
use Rattle.mica_replay.proofs.crew.make_crew.Given as goal

abbrev pub ghosts-make_reader_desks : goal.ghosts-make_reader_desks
ghosts-make_reader_desks g a = record { terms = read_terms a.trace.now a.options.now }
