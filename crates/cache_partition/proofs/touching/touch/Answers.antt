use Rattle.cache_partition.proofs.Words.{IsWrite, Kept, OwnerState, Touch, [], arith, subst, sym, write_of, ◌∙◌}
use Rattle.cache_partition.proofs.Held.{found_had, held, stands_at}
use Rattle.cache_partition.proofs.Writes.{touch_is}
use Rattle.cache_partition.proofs.touching.touch.Given.{Over}
use Rattle.cache_partition.proofs.touching.touch.Goals as goal
use Rattle.cache_partition.proofs.touching.touch.Goals.{After-seek-sought}

module _ (g : Over) (c : After-seek-sought g) where
  abbrev o : OwnerState
  o = g.W.OwnerWords.owner c.args.words.now

  kept : Kept o
  kept = subst Kept c.seek-sought.ensures.same.0 c.seek-sought.ensures.kept

  is : IsWrite (write_of Touch c.args.key.now [])
  is = touch_is c.args.key.now c.requires.key (λ k. omega (arith, c.type_inv.key k))

pub returns-clause-found : goal.returns-clause-found
returns-clause-found g c =
    let z = (goal.at.returns-clause-found g c).After-seek-sought in
    let h = held (g.W.OwnerWords.owner c.args.words.now) (kept g z) c.requires.may.cached in
    let here = c.seek-sought.ensures.sought.bucket in
    c.is_some.ensures ∙ found_had h c.seek-sought.result.bucket (stands_at h c.requires.may.idle c.args.key.now c.seek-sought.result.bucket here) c.args.key.now (sym here)
    (is g z).key_bytes c.seek-sought.result.slot c.seek-sought.ensures.sought.found
