use Rattle.std.proofs.Common.{rules}
use Rattle.partition_words.proofs.DiaryKeeps.{knows_at}
use Rattle.partition_words.proofs.plain.PlainWordsOwnerWords.read.Goals as goal

pub load-requires : goal.load-requires
load-requires c = (search rules, search rules, knows_at _ _ c.args.self.now.seat.me _)
