use Rattle.batch_packets.proofs.RequestLaws.{one_batch}
use Rattle.batch_packets.proofs.ReplyLaws.{one_replies}
use Rattle.batch_packets.proofs.laws.one_reading.Goals as goal

pub returns-clause-batch : goal.returns-clause-batch
returns-clause-batch c = one_batch

pub returns-clause-replies : goal.returns-clause-replies
returns-clause-replies c = one_replies
