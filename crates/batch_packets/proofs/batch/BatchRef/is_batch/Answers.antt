use Rattle.std.proofs.Common.{rules}
use Rattle.batch_packets.proofs.batch.BatchRef.is_batch.Goals as goal

abbrev pub len_of-requires-clause-lawful : goal.len_of-requires-clause-lawful
len_of-requires-clause-lawful c = (c.args.self.now.version, search rules)
