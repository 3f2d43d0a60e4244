use Rattle.cache_partition.proofs.Words.{Begins, MayBegin, MayMark, OwnerState, after, subst, sym, write_of}
use Rattle.cache_partition.proofs.Writes.{begins}
use Rattle.cache_partition.proofs.seeking.begin.Given.{Over}
use Rattle.cache_partition.proofs.seeking.begin.Goals as goal
use Rattle.cache_partition.proofs.seeking.begin.Goals.{Start}

may : (g : Over) (c : Start g) → MayBegin (g.W.OwnerWords.owner c.args.words.now) c.args.bucket
    × MayMark (after (Begins c.args.bucket) (g.W.OwnerWords.owner c.args.words.now)) (write_of c.args.op c.args.key.now c.args.value.now) c.args.stamp
may g c = begins (g.W.OwnerWords.owner c.args.words.now) c.requires.kept c.requires.may (write_of c.args.op c.args.key.now c.args.value.now) c.requires.write
    c.requires.taken c.args.stamp c.requires.stamp c.args.bucket c.requires.bucket

pub begin_write-requires : goal.begin_write-requires
begin_write-requires g c = (may g (goal.at.begin_write-requires g c).Start).0

pub mark-requires : goal.mark-requires
mark-requires g c = subst (λ (o : OwnerState). MayMark o (write_of c.args.op c.args.key.now c.args.value.now) c.args.stamp) (sym c.begin_write.ensures.event)
    (may g (goal.at.mark-requires g c).Start).1
