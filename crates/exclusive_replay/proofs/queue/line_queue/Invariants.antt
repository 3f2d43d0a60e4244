use Rattle.exclusive_replay.proofs.queue.line_queue.Given as goal

abbrev pub ghosts-make : goal.ghosts-make
ghosts-make a = record { terms = a.lines }
