use Rattle.std.proofs.Common.{arith}
use Rattle.std.proofs.lemmas.Grind.{common_steps}
use Rattle.mica_words.proofs.Hashes.{partition_of_hash}
use Rattle.report_check.proofs.asked.partition_in.Goals as goal

pub returns : goal.returns
returns c = grind (arith, common_steps, partition_of_hash c.args.options.now.hashing c.args.line.now.key c.args.options.now.partitions)
