use Rattle.cache_partition.proofs.Words.{new_stamp}
use Rattle.cache_partition.proofs.partition.CachePartition.new.Goals as goal

pub invariant_of-result-clause-stamped : goal.invariant_of-result-clause-stamped
invariant_of-result-clause-stamped g c = new_stamp (g.W.OwnerWords.owner c.args.words) c.requires.made
