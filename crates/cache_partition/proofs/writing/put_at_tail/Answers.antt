use Rattle.cache_partition.proofs.Words.{MayAppend, OwnerState, Write, [], ap, arith, had_record, hash_tag, item_size, item_size-most, options_in, reply_fits}
use Rattle.cache_partition.proofs.Words.{stamp_of, subst, sym, tag_of_hash, tail_of, with_item, write_of, ℕ, ◌*◌, ◌++◌, ◌+◌, ◌∙◌, ◌∷◌, ◌≡◌}
use Rattle.cache_partition.proofs.Writes.{Appends, Closes, HasStored, appends, stamp_appended, stamp_limit}
use Rattle.cache_partition.proofs.writing.put_at_tail.Given.{Over}
use Rattle.cache_partition.proofs.writing.put_at_tail.Goals as goal
use Rattle.cache_partition.proofs.writing.put_at_tail.Goals.{After-append_hashed, After-from, After-place}

pub overflow_add-stamp : goal.overflow_add-stamp
overflow_add-stamp g c =
    let small = stamp_limit (g.W.OwnerWords.owner c.args.words.now) c.requires.kept c.requires.may c.args.sought.now.stamp c.requires.sought.stamp in
    omega (arith, small, item_size-most c.args.key.now c.args.value.now c.requires.write.key c.requires.value)

module _ (g : Over) (c : After-from g) where
  abbrev o : OwnerState
  o = g.W.OwnerWords.owner c.args.words.now

  abbrev w : Write
  w = write_of c.args.op c.args.key.now c.args.value.now

  abbrev t : ℕ
  t = c.args.sought.now.stamp + 65536 * c.from.result

  stamp : t ≡ stamp_of (options_in o) (o.history ++ w ∷ [])
  stamp = (λ j. c.requires.sought.stamp j + 65536 * (c.from.ensures ∙ c.item_size.ensures) j)
      ∙ stamp_appended o c.requires.kept c.requires.may w c.requires.write c.args.value.now c.requires.at_tail

  steps : Appends o w c.args.sought.now.bucket t c.tail_of-tail.result c.args.value.now
  steps = appends o c.requires.kept c.requires.may w c.requires.write c.requires.taken t stamp c.args.value.now (reply_fits (options_in o) w c.args.op (had_record o c.args.key.now) c.requires.gives c.requires.taken) c.requires.at_tail c.args.sought.now.bucket c.tail_of-tail.result
      c.requires.sought.bucket (c.tail_of-tail.ensures ∙ ap tail_of c.requires.sought.stamp)

-- the item is stored
stored : (g : Over) (c : After-append_hashed g) → HasStored (g.W.OwnerWords.owner c.args.words.now) (write_of c.args.op c.args.key.now c.args.value.now) c.args.sought.now.bucket
    (c.args.sought.now.stamp + 65536 * c.from.result) c.tail_of-tail.result c.args.value.now (g.W.OwnerWords.owner c.append_hashed.new.words)
stored g c = c.append_hashed.ensures.item
    ∙ ap (λ (q : OwnerState). with_item q c.tail_of-tail.result (item_size c.args.key.now c.args.value.now) c.args.key.now c.args.value.now) c.begin.ensures.marked

-- and its slot names it
closes : (g : Over) (c : After-place g) → Appends (g.W.OwnerWords.owner c.args.words.now) (write_of c.args.op c.args.key.now c.args.value.now) c.args.sought.now.bucket
    (c.args.sought.now.stamp + 65536 * c.from.result) c.tail_of-tail.result c.args.value.now
    → HasStored (g.W.OwnerWords.owner c.args.words.now) (write_of c.args.op c.args.key.now c.args.value.now) c.args.sought.now.bucket
    (c.args.sought.now.stamp + 65536 * c.from.result) c.tail_of-tail.result c.args.value.now (g.W.OwnerWords.owner c.append_hashed.new.words)
    → Closes (g.W.OwnerWords.owner c.args.words.now) (write_of c.args.op c.args.key.now c.args.value.now) c.args.sought.now.bucket (c.args.sought.now.stamp + 65536 * c.from.result)
    (g.W.OwnerWords.owner c.place.new.words)
closes g c steps stored = steps.closes c.args.sought.now.slot c.requires.sought.found _ _ c.place.result c.tag_of.result stored c.place.ensures.slot
    (c.tag_of.ensures ∙ (ap hash_tag c.requires.sought.hash ∙ sym (tag_of_hash (g.W.OwnerWords.owner c.args.words.now).shape.hashing c.args.key.now))) c.place.ensures.entry c.place.ensures.kept

pub begin-requires-clause-stamp : goal.begin-requires-clause-stamp
begin-requires-clause-stamp g c = stamp g (goal.at.begin-requires-clause-stamp g c).After-from

pub append_hashed-requires-clause-marked : goal.append_hashed-requires-clause-marked
append_hashed-requires-clause-marked g c = subst (λ (z : OwnerState). MayAppend z c.tail_of-tail.result c.args.key.now c.args.value.now) (sym c.begin.ensures.marked)
    (steps g (goal.at.append_hashed-requires-clause-marked g c).After-from).may

pub place-requires-clause-marked : goal.place-requires-clause-marked
place-requires-clause-marked g c = let z = goal.at.place-requires-clause-marked g c in ((steps g z.After-from).ready _ (stored g z.After-append_hashed)).0

pub place-requires-clause-bucket : goal.place-requires-clause-bucket
place-requires-clause-bucket g c = let z = goal.at.place-requires-clause-bucket g c in ((steps g z.After-from).ready _ (stored g z.After-append_hashed)).1

pub end_write-requires : goal.end_write-requires
end_write-requires g c = let z = goal.at.end_write-requires g c in (closes g z.After-place (steps g z.After-from) (stored g z.After-append_hashed)).end

pub returns-clause-gains : goal.returns-clause-gains
returns-clause-gains g c = let z = goal.at.returns-clause-gains g c in (closes g z.After-place (steps g z.After-from) (stored g z.After-append_hashed)).gains _ c.end_write.ensures.event

pub returns-clause-stamp : goal.returns-clause-stamp
returns-clause-stamp g c = let z = goal.at.returns-clause-stamp g c in (closes g z.After-place (steps g z.After-from) (stored g z.After-append_hashed)).stamp _ c.end_write.ensures.event
