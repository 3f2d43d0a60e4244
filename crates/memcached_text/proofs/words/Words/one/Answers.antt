use Rattle.memcached_text.proofs.WordLaws.{one_word}
use Rattle.memcached_text.proofs.words.Words.one.Goals as goal

pub returns : goal.returns
returns c = one_word c.args.word.now c.as_slice.result.now c.requires c.as_slice.ensures
