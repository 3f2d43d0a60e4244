use Rattle.std.proofs.Common.{refl, arith}
use Rattle.std.proofs.lemmas.Grind.{common_steps}
use Rattle.partition_words.proofs.Marked.{ends_main}
use Rattle.partition_words.proofs.plain.PlainWordsOwnerWords.end_write.Goals as goal

pub overflow_add-index_mut : goal.overflow_add-index_mut
overflow_add-index_mut c =
    grind (arith, common_steps, ends_main c.args.self.now.seat.me.0.owner c.happen.ensures.before _ refl c.args.bucket c.requires.marked)
