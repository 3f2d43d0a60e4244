use Rattle.cache_partition.proofs.Words.{MayRewrite, OwnerState, Put, Write, [], ap, arith, options_in, refl, room_at, stamp_of, subst, sym}
use Rattle.cache_partition.proofs.Words.{with_item, write_of, ℕ, ◌++◌, ◌+◌, ◌∙◌, ◌∷◌, ◌≡◌}
use Rattle.cache_partition.proofs.Writes.{Closes, Rewrites, rewrites, stamp_limit, stamp_rewritten}
use Rattle.cache_partition.proofs.writing.put_in_place.Given.{Over}
use Rattle.cache_partition.proofs.writing.put_in_place.Goals as goal
use Rattle.cache_partition.proofs.writing.put_in_place.Goals.{After-rewrite, Start}

module _ (g : Over) (c : Start g) where
  abbrev o : OwnerState
  o = g.W.OwnerWords.owner c.args.words.now

  abbrev w : Write
  w = write_of Put c.args.key.now c.args.value.now

  stamp : c.args.sought.now.stamp + 1 ≡ stamp_of (options_in o) (o.history ++ w ∷ [])
  stamp = ap (λ (n : ℕ). n + 1) c.requires.sought.stamp ∙ stamp_rewritten o c.requires.kept c.requires.may w c.requires.write c.args.offset refl c.requires.in_place

  steps : Rewrites o w c.args.sought.now.bucket (c.args.sought.now.stamp + 1) c.args.offset
  steps = rewrites o c.requires.kept c.requires.may w c.requires.write c.requires.taken (c.args.sought.now.stamp + 1) stamp refl c.args.sought.now.bucket c.args.offset c.requires.sought.bucket c.requires.in_place

closes : (g : Over) (c : After-rewrite g) → Rewrites (g.W.OwnerWords.owner c.args.words.now) (write_of Put c.args.key.now c.args.value.now)
    c.args.sought.now.bucket (c.args.sought.now.stamp + 1) c.args.offset
    → Closes (g.W.OwnerWords.owner c.args.words.now) (write_of Put c.args.key.now c.args.value.now) c.args.sought.now.bucket (c.args.sought.now.stamp + 1) (g.W.OwnerWords.owner c.rewrite.new.words)
closes g c steps = steps.closes _
    (c.rewrite.ensures.item ∙ ap (λ (q : OwnerState). with_item q c.args.offset (room_at q c.args.offset) c.args.key.now c.args.value.now) c.begin.ensures.marked) c.rewrite.ensures.kept

pub overflow_add-stamp : goal.overflow_add-stamp
overflow_add-stamp g c =
    omega (arith, stamp_limit (g.W.OwnerWords.owner c.args.words.now) c.requires.kept c.requires.may c.args.sought.now.stamp c.requires.sought.stamp)

pub begin-requires-clause-stamp : goal.begin-requires-clause-stamp
begin-requires-clause-stamp g c = stamp g (goal.at.begin-requires-clause-stamp g c).Start

pub rewrite-requires-clause-marked : goal.rewrite-requires-clause-marked
rewrite-requires-clause-marked g c = subst (λ (q : OwnerState). MayRewrite q c.args.offset c.args.key.now c.args.value.now) (sym c.begin.ensures.marked)
    (steps g (goal.at.rewrite-requires-clause-marked g c).Start).may

pub end_write-requires : goal.end_write-requires
end_write-requires g c = let z = goal.at.end_write-requires g c in (closes g z.After-rewrite (steps g z.Start)).end

pub returns-clause-gains : goal.returns-clause-gains
returns-clause-gains g c = let z = goal.at.returns-clause-gains g c in (closes g z.After-rewrite (steps g z.Start)).gains _ c.end_write.ensures.event

pub returns-clause-stamp : goal.returns-clause-stamp
returns-clause-stamp g c = let z = goal.at.returns-clause-stamp g c in (closes g z.After-rewrite (steps g z.Start)).stamp _ c.end_write.ensures.event
