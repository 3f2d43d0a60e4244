use Rattle.std.proofs.Common.{length}
use Rattle.memcached_meta.proofs.ReplyLaws.{IsToldSoFar}
use Rattle.memcached_meta.proofs.reply.put_flags.Given as goal

abbrev pub invariant-loop-flag : goal.invariant-loop-flag
invariant-loop-flag l = IsToldSoFar l.fn.out.items l.out.items l.word l.base64 l.shown l.fn.flags l.late l.flags

abbrev pub decreases-loop-flag : goal.decreases-loop-flag
decreases-loop-flag l = length l.flags
