use Rattle.owner_queue.proofs.jobs.job_queue.Given as goal

abbrev pub ghosts-with_most : goal.ghosts-with_most
ghosts-with_most a = record { jobs = a.jobs }
