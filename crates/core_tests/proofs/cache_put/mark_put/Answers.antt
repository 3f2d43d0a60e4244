use Rattle.core_tests.proofs.Marking.{may_mark, marked}
use Rattle.core_tests.proofs.cache_put.mark_put.Goals as goal

pub mark-requires : goal.mark-requires
mark-requires g c =
    let words = g.W.OwnerWords.owner c.begin_write.new.self in
    may_mark (g.W.OwnerWords.owner c.args.words.now) words c.requires c.begin_write.ensures.event

pub returns : goal.returns
returns g c =
    let words = g.W.OwnerWords.owner c.begin_write.new.self in
    marked (g.W.OwnerWords.owner c.args.words.now) words c.requires c.begin_write.ensures.event
    c.begin_write.ensures.kept (g.W.OwnerWords.owner c.mark.new.self) c.mark.ensures.event c.mark.ensures.kept
