use Rattle.cache_partition.proofs.Words.{Del, HasNoSlot, IsSlotOf, IsWrite, Kept, MatchOption, MayEnd, Option, OwnerState, PutsEntry, Write, []}
use Rattle.cache_partition.proofs.Words.{after, ap, arith, marked_with, options_in, refl, stamp_of, subst, sym, write_of, ℕ, ◌++◌, ◌+◌, ◌∙◌, ◌∷◌, ◌≡◌}
use Rattle.cache_partition.proofs.Held.{found_had, held, stands_at}
use Rattle.cache_partition.proofs.Writes.{Deletes, delete_is, delete_taken, deletes, stamp_deleted, stamp_limit}
use Rattle.cache_partition.proofs.removing.remove.Given.{Over}
use Rattle.cache_partition.proofs.removing.remove.Goals as goal
use Rattle.cache_partition.proofs.removing.remove.Goals.{After-seek-sought, in-Some, in_default}

module _ (g : Over) (c : After-seek-sought g) where
  abbrev o : OwnerState
  o = g.W.OwnerWords.owner c.args.words.now

  abbrev w : Write
  w = write_of Del c.args.key.now []

  kept : Kept o
  kept = subst Kept c.seek-sought.ensures.same.0 c.seek-sought.ensures.kept

  is : IsWrite w
  is = delete_is c.args.key.now c.requires.key (λ k. omega (arith, c.type_inv.key k))

  stamp : c.seek-sought.result.stamp + 1 ≡ stamp_of (options_in o) (o.history ++ w ∷ [])
  stamp = ap (λ (n : ℕ). n + 1) c.seek-sought.ensures.sought.stamp ∙ stamp_deleted o kept c.requires.may w is refl

  steps : Deletes o w c.seek-sought.result.bucket (c.seek-sought.result.stamp + 1)
  steps = deletes o kept c.requires.may w is (delete_taken o c.args.key.now []) (c.seek-sought.result.stamp + 1) stamp refl c.seek-sought.result.bucket c.seek-sought.ensures.sought.bucket

pub overflow_add-stamp : goal.overflow_add-stamp
overflow_add-stamp g c =
    let small = stamp_limit (g.W.OwnerWords.owner c.args.words.now) (kept g (goal.at.overflow_add-stamp g c).After-seek-sought) c.requires.may c.seek-sought.result.stamp c.seek-sought.ensures.sought.stamp in
    omega arith

pub begin-requires-clause-taken : goal.begin-requires-clause-taken
begin-requires-clause-taken g c = delete_taken (g.W.OwnerWords.owner c.seek-sought.new.words) c.args.key.now []

pub begin-requires-clause-stamp : goal.begin-requires-clause-stamp
begin-requires-clause-stamp g c =
    subst (λ (z : OwnerState). c.seek-sought.result.stamp + 1 ≡ stamp_of (options_in z) (z.history ++ write_of Del c.args.key.now [] ∷ [])) (sym c.seek-sought.ensures.same.0)
    (stamp g (goal.at.begin-requires-clause-stamp g c).After-seek-sought)

pub end_write-requires : goal.end_write-requires
end_write-requires g c =
    let owner = g.W.OwnerWords.owner in
    let z = (goal.at.end_write-requires g c).After-seek-sought in
    let b = c.seek-sought.result.bucket in
    let found = c.seek-sought.ensures.sought.found in
    let At = λ (slot : Option ℕ). MatchOption slot (HasNoSlot (owner c.args.words.now) b c.args.key.now) (IsSlotOf (owner c.args.words.now) b c.args.key.now) in
    let marked = c.begin.ensures.marked ∙ ap (λ (o : OwnerState). marked_with o b (write_of Del c.args.key.now []) (c.seek-sought.result.stamp + 1)) c.seek-sought.ensures.same.0 in
    elim c.match-sought.branch [
      | in-Some w ↦ subst (λ (q : OwnerState). MayEnd q c.seek-sought.result.bucket) (sym (ap owner w.words-is))
          ((steps g z).cleared w.in-Some.slot (subst At w.in-Some.is found) _ (w.clear.ensures.entry ∙ ap (after (PutsEntry b w.in-Some.slot 0)) marked) w.clear.ensures.kept).end
      | in_default w ↦ subst (λ (q : OwnerState). MayEnd q c.seek-sought.result.bucket) (sym (ap owner w.words-is))
          ((steps g z).absent (subst At w.in_default.is found) _ marked c.begin.ensures.kept).end
    ]

pub returns-clause-found : goal.returns-clause-found
returns-clause-found g c =
    let z = (goal.at.returns-clause-found g c).After-seek-sought in
    let h = held (g.W.OwnerWords.owner c.args.words.now) (kept g z) c.requires.may.cached in
    let here = c.seek-sought.ensures.sought.bucket in
    c.is_some.ensures ∙ found_had h c.seek-sought.result.bucket (stands_at h c.requires.may.idle c.args.key.now c.seek-sought.result.bucket here) c.args.key.now (sym here)
    (is g z).key_bytes c.seek-sought.result.slot c.seek-sought.ensures.sought.found
