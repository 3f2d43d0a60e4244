use Rattle.memcached_frames.proofs.ReplyLaws.{one_reply}
use Rattle.memcached_frames.proofs.reply.one_reply.Goals as goal

pub returns : goal.returns
returns c = one_reply
