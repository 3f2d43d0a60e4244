use Rattle.std.proofs.Common.{subst, arith}
use Rattle.std.proofs.lemmas.List.{take_all}
use Rattle.keyed_hash.specs.SipHash.{IsTail}
use Rattle.keyed_hash.proofs.Words.{no_tail, tail_more}
use Rattle.keyed_hash.proofs.keyed.tail_of.Goals as goal

pub loop-place-init : goal.loop-place-init
loop-place-init c = (omega arith, no_tail c.args.rest.now)

pub loop-place-preserved : goal.loop-place-preserved
loop-place-preserved c = (omega arith, tail_more c.args.rest.now c.loop-place.place c.loop-place.tail (omega arith) c.requires c.loop-place.invariant.1)

pub returns : goal.returns
returns c = subst (λ bytes. IsTail bytes c.loop-place.tail) (take_all c.loop-place.place c.args.rest.now (omega arith)) c.loop-place.invariant.1
