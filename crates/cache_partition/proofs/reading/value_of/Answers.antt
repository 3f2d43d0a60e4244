use Rattle.cache_partition.proofs.Words.{AreBytes, HasNoSlot, IsFoundAt, IsItem, Kept, OwnerState, Record, Some, answer_of, ap, arith, cell_at}
use Rattle.cache_partition.proofs.Words.{options_in, spelt_item, subst, sym, ℕ, ◌∙◌, ◌≡◌}
use Rattle.cache_partition.proofs.Held.{found_slot, held, hit, missed, stands_at}
use Rattle.cache_partition.proofs.reading.value_of.Given.{Over}
use Rattle.cache_partition.proofs.reading.value_of.Goals as goal
use Rattle.cache_partition.proofs.reading.value_of.Goals.{In-Some}

-- the item that was found, and its value is the answer
found : (g : Over) (c : In-Some g) → (r : Record) × IsItem (g.W.OwnerWords.owner c.find_hashed.new.words) c.in-Some.found.offset c.args.key.now (cell_at r).0
    × (answer_of (options_in (g.W.OwnerWords.owner c.args.words.now)) (g.W.OwnerWords.owner c.args.words.now).history c.args.key.now ≡ Some r.value)
found g c =
    let o = g.W.OwnerWords.owner c.args.words.now in
    let h = held o (subst Kept c.read-stamp.ensures.same c.read-stamp.ensures.kept) c.requires.cached in
    let b = c.bucket_and_hash-bucket.result.0 in
    let here = c.bucket_and_hash-bucket.ensures.bucket in
    let bytes : AreBytes c.args.key.now = λ k. omega (arith, c.type_inv.key k) in
    let stood = stands_at h c.requires.idle c.args.key.now b here in
    let at = subst (λ (z : OwnerState). IsFoundAt z b c.args.key.now c.in-Some.found) c.read-stamp.ensures.same c.in-Some.ensures.found in
    let own = found_slot h b stood c.args.key.now (sym here) bytes c.in-Some.found.slot at.slot in
    let cell = (cell_at own.0).0 in (
      own.0,
      subst (λ (z : OwnerState). IsItem z c.in-Some.found.offset c.args.key.now cell) (sym (c.find_hashed.ensures.same ∙ c.read-stamp.ensures.same))
          (subst (λ (p : ℕ). IsItem o p c.args.key.now cell) (sym at.offset) (spelt_item o h.kept b _ c.args.key.now cell own.1.spelt)),
      hit h b stood c.args.key.now (sym here) bytes c.in-Some.found.slot at.slot,
    )

pub item_at-requires-clause-item : goal.item_at-requires-clause-item
item_at-requires-clause-item g c = let its = found g (goal.at.item_at-requires-clause-item g c).In-Some in (c.args.key.now, (cell_at its.0).0, its.1)

pub returns-in-Some-clause-answer : goal.returns-in-Some-clause-answer
returns-in-Some-clause-answer g c =
    let its = found g (goal.at.returns-in-Some-clause-answer g c).In-Some in
    its.2 ∙ ap Some (sym (c.item_at.ensures.value c.args.key.now (cell_at its.0).0 its.1))

pub returns-in-None-clause-answer : goal.returns-in-None-clause-answer
returns-in-None-clause-answer g c =
    let h = held (g.W.OwnerWords.owner c.args.words.now) (subst Kept c.read-stamp.ensures.same c.read-stamp.ensures.kept) c.requires.cached in
    let b = c.bucket_and_hash-bucket.result.0 in
    let here = c.bucket_and_hash-bucket.ensures.bucket in
    let none = subst (λ (z : OwnerState). HasNoSlot z b c.args.key.now) c.read-stamp.ensures.same c.in-None.ensures.found in
    (missed h b (stands_at h c.requires.idle c.args.key.now b here) c.args.key.now (sym here) none, c.clear.ensures)
