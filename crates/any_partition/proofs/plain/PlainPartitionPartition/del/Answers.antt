use Rattle.any_partition.proofs.plain.PlainPartitionPartition.del.Goals as goal

pub returns-in-Cache-clause-step : goal.returns-in-Cache-clause-step
returns-in-Cache-clause-step c = rw c.in-Cache.is c.del.ensures.step

pub returns-in-Store-clause-step : goal.returns-in-Store-clause-step
returns-in-Store-clause-step c = rw c.in-Store.is c.del-in-Store.ensures.step
