use Rattle.cache_partition.proofs.Words.{HasNoSlot, IsSlotOf, MatchOption, None, Option, OwnerState, Touch, Write, []}
use Rattle.cache_partition.proofs.Words.{ap, arith, options_in, record_of, refl, stamp_of, subst, sym, write_of, ℕ, ◌++◌, ◌+◌, ◌∙◌, ◌∷◌, ◌≡◌}
use Rattle.cache_partition.proofs.Held.{held, no_record, stands_at}
use Rattle.cache_partition.proofs.Writes.{Closes, stamp_limit, stamp_untouched, touch_taken, untouched}
use Rattle.cache_partition.proofs.touching.mark_only.Given.{Over}
use Rattle.cache_partition.proofs.touching.mark_only.Goals as goal
use Rattle.cache_partition.proofs.touching.mark_only.Goals.{Start, After-begin}

module _ (g : Over) (c : Start g) where
  abbrev o : OwnerState
  o = g.W.OwnerWords.owner c.args.words.now

  abbrev w : Write
  w = write_of Touch c.args.key.now []

  lacks : HasNoSlot o c.args.sought.now.bucket c.args.key.now
  lacks = subst (λ (z : Option ℕ). MatchOption z (HasNoSlot o c.args.sought.now.bucket c.args.key.now) (IsSlotOf o c.args.sought.now.bucket c.args.key.now)) c.requires.no_slot c.requires.sought.found

  none : record_of (held o c.requires.kept c.requires.may.cached).m c.args.key.now ≡ None
  none =
      let h = held o c.requires.kept c.requires.may.cached in
      no_record h c.args.sought.now.bucket (stands_at h c.requires.may.idle c.args.key.now c.args.sought.now.bucket c.requires.sought.bucket) c.args.key.now (sym c.requires.sought.bucket) lacks

  stamp : c.args.sought.now.stamp + 1 ≡ stamp_of (options_in o) (o.history ++ w ∷ [])
  stamp = ap (λ (n : ℕ). n + 1) c.requires.sought.stamp ∙ stamp_untouched o c.requires.kept c.requires.may w c.requires.write refl none

closes : (g : Over) (c : After-begin g) → HasNoSlot (g.W.OwnerWords.owner c.args.words.now) c.args.sought.now.bucket c.args.key.now
    → c.args.sought.now.stamp + 1 ≡ stamp_of (options_in (g.W.OwnerWords.owner c.args.words.now)) ((g.W.OwnerWords.owner c.args.words.now).history ++ write_of Touch c.args.key.now [] ∷ [])
    → Closes (g.W.OwnerWords.owner c.args.words.now) (write_of Touch c.args.key.now []) c.args.sought.now.bucket (c.args.sought.now.stamp + 1) (g.W.OwnerWords.owner c.begin.new.words)
closes g c lacks stamp = untouched (g.W.OwnerWords.owner c.args.words.now) c.requires.kept c.requires.may (write_of Touch c.args.key.now []) c.requires.write
    (touch_taken (g.W.OwnerWords.owner c.args.words.now) c.args.key.now []) (c.args.sought.now.stamp + 1) stamp refl c.args.sought.now.bucket c.requires.sought.bucket lacks _
    c.begin.ensures.marked c.begin.ensures.kept

pub overflow_add-stamp : goal.overflow_add-stamp
overflow_add-stamp g c =
    let small = stamp_limit (g.W.OwnerWords.owner c.args.words.now) c.requires.kept c.requires.may c.args.sought.now.stamp c.requires.sought.stamp in
    omega arith

pub begin-requires-clause-taken : goal.begin-requires-clause-taken
begin-requires-clause-taken g c = touch_taken (g.W.OwnerWords.owner c.args.words.now) c.args.key.now []

pub begin-requires-clause-stamp : goal.begin-requires-clause-stamp
begin-requires-clause-stamp g c = stamp g (goal.at.begin-requires-clause-stamp g c).Start

pub end_write-requires : goal.end_write-requires
end_write-requires g c = let z = goal.at.end_write-requires g c in (closes g z.After-begin (lacks g z.Start) (stamp g z.Start)).end

pub returns-clause-gains : goal.returns-clause-gains
returns-clause-gains g c = let z = goal.at.returns-clause-gains g c in (closes g z.After-begin (lacks g z.Start) (stamp g z.Start)).gains _ c.end_write.ensures.event

pub returns-clause-stamp : goal.returns-clause-stamp
returns-clause-stamp g c = let z = goal.at.returns-clause-stamp g c in (closes g z.After-begin (lacks g z.Start) (stamp g z.Start)).stamp _ c.end_write.ensures.event
