use Rattle.core_tests.proofs.MarkedPut.{may_put}
use Rattle.core_tests.proofs.Storing.{still_marked}
use Rattle.core_tests.proofs.cache_put.put_item_word.Goals as goal

pub put_word-requires : goal.put_word-requires
put_word-requires g c = may_put (g.W.OwnerWords.owner c.args.words.now) c.requires.marked c.args.offset c.requires.offset

pub returns : goal.returns
returns g c = still_marked (g.W.OwnerWords.owner c.args.words.now) (g.W.OwnerWords.owner c.put_word.new.self)
    c.requires.marked c.args.offset c.args.word c.put_word.ensures.event c.put_word.ensures.kept
