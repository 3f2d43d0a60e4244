use Rattle.store_partition.proofs.Words.{rules, CanPlay, ChangesChain, FullBlock, FullSpare, Index, IsOwnerStep, IsTaken, LacksPlace}
use Rattle.store_partition.proofs.Words.{MayLack, Stored, Write, [], ap, arith, entries_of, entry_of, hash_tag, item_events}
use Rattle.store_partition.proofs.Words.{item_size, marked_in_bucket, plays, refl, size_of, subst, subst₂, sym, tag_of_hash, true≢false, write_of, ℕ}
use Rattle.store_partition.proofs.Words.{◌++◌, ◌+◌, ◌∙◌, ◌∷◌, ◌≡◌}
use Rattle.store_partition.proofs.Held.{Held, main_at, full_block, full_spare, new_needs}
use Rattle.store_partition.proofs.Events.{Closes}
use Rattle.store_partition.proofs.Puts.{HasPut, PutNew, new, with_value}
use Rattle.store_partition.proofs.Parts.{held}
use Rattle.store_partition.proofs.partition.StorePartition.put_new.Given.{Over}
use Rattle.store_partition.proofs.partition.StorePartition.put_new.Goals.{After-place, After-write_item_hashed, In-Some, Start}
use Rattle.store_partition.proofs.partition.StorePartition.put_new.Goals as goal

module _ (g : Over) (c : Start g) where
  abbrev h : Held
  h = held c.requires.kept c.args.self.now.parts

  abbrev w : Write
  w = write_of c.args.op c.args.key.now c.args.value.now

-- the block was taken
steps : (g : Over) (c : In-Some g) → PutNew (g.W.OwnerWords.owner c.args.self.now.words) c.args.self.now.index c.take.new.self
    (write_of c.args.op c.args.key.now c.args.value.now) c.args.bucket (c.args.self.now.accepted + 1) c.in-Some.place
steps g c =
    let s = c.args.self.now in
    let r = c.requires in
    let h = held r.kept s.parts in
    let places : ¬ (LacksPlace s.index h.o c.args.bucket) = λ lacks. true≢false (c.if-not-has_place.ensures.place.1 lacks) in
    new h c.args.op r.op c.args.key.now c.args.value.now
    (record { key = r.key; key_bytes = λ k. omega (arith, c.type_inv.key k); value = with_value c.args.op c.args.value.now r.op r.value; value_bytes = λ k. omega (arith, c.type_inv.value k) }) r.unworn s.accepted s.counted
    c.args.bucket r.sought.bucket c.take.new.self c.in-Some.place (subst (IsTaken s.heap c.take.new.self c.in-Some.place) c.item_size-size.ensures c.in-Some.ensures.taken)
    c.take.ensures.blocks (new_needs h c.args.op r.op c.args.key.now c.args.value.now c.args.bucket r.sought.bucket r.sought.found places) r.sought.found places

-- its item is put
put : (g : Over) (c : After-write_item_hashed g) → HasPut (g.W.OwnerWords.owner c.args.self.now.words) (write_of c.args.op c.args.key.now c.args.value.now) c.args.bucket
    (c.args.self.now.accepted + 1) c.in-Some.place (item_size c.args.key.now c.args.value.now) (g.W.OwnerWords.owner c.write_item_hashed.new.words)
put g c =
    let begun = c.begin_marked.ensures.events ∙ ap (λ z. marked_in_bucket z c.args.bucket (write_of c.args.op c.args.key.now c.args.value.now) (c.args.self.now.accepted + 1)) c.has_place.ensures.same in
    c.write_item_hashed.ensures.events ∙ (λ i. plays (item_events (begun i).shape.hashing (c.from.ensures i) (c.item_size-size.ensures i) c.args.key.now c.args.value.now) (begun i))

-- and its entry
closed : (g : Over) (c : After-place g) (index : Index) (t : ℕ) → let w = write_of c.args.op c.args.key.now c.args.value.now in let o = g.W.OwnerWords.owner c.args.self.now.words in
    PutNew o index c.take.new.self w c.args.bucket t c.in-Some.place → HasPut o w c.args.bucket t c.in-Some.place (size_of w) (g.W.OwnerWords.owner c.write_item_hashed.new.words)
    → Closes o w Stored c.args.bucket t c.place.new.self (λ bs. bs ≡ c.take.new.self) (g.W.OwnerWords.owner c.place.new.words)
closed g c index t steps put =
    let o3 = g.W.OwnerWords.owner c.write_item_hashed.new.words in
    steps.closes _ _ c.tag_of.result c.place.new.self put (c.tag_of.ensures ∙ (ap hash_tag c.requires.hashed ∙ sym (tag_of_hash (g.W.OwnerWords.owner c.args.self.now.words).shape.hashing c.args.key.now)))
    c.place.ensures.kept c.place.ensures.index
    (subst (λ p. ChangesChain o3 (g.W.OwnerWords.owner c.place.new.words) c.args.bucket (entries_of o3 c.args.bucket ++ entry_of c.tag_of.result p ∷ []))
    c.from-2.ensures c.place.ensures.entries)

pub has_place-requires : goal.has_place-requires
has_place-requires g c =
    let h = h g (goal.at.has_place-requires g c).Start in
    record { index = h.parts.known; bucket = main_at h.o h.kept c.args.key.now c.args.bucket c.requires.sought.bucket }

pub returns-then-not-has_place-clause-step : goal.returns-then-not-has_place-clause-step
returns-then-not-has_place-clause-step g c =
    let z = (goal.at.returns-then-not-has_place-clause-step g c).Start in
    subst (λ n. IsOwnerStep (h g z).o n (w g z) FullSpare) (sym c.has_place.ensures.same)
    (full_spare (h g z) c.args.op c.requires.op c.args.key.now c.args.value.now c.args.bucket c.requires.sought.bucket c.requires.unworn c.requires.sought.found (c.if-not-has_place.ensures.place.0 refl))

pub returns-in_default-clause-step : goal.returns-in_default-clause-step
returns-in_default-clause-step g c =
    let z = (goal.at.returns-in_default-clause-step g c).Start in
    let needs = new_needs (h g z) c.args.op c.requires.op c.args.key.now c.args.value.now c.args.bucket c.requires.sought.bucket c.requires.sought.found
    (λ lacks. true≢false (c.if-not-has_place.ensures.place.1 lacks)) in
    subst (λ n. IsOwnerStep (h g z).o n (w g z) FullBlock) (sym c.has_place.ensures.same)
    (full_block (h g z) c.args.op c.requires.op c.args.key.now c.args.value.now c.args.bucket c.requires.sought.bucket c.requires.unworn needs
    (subst (MayLack c.args.self.now.heap) c.item_size-size.ensures c.in_default.ensures.may_lack))

pub begin_marked-requires : goal.begin_marked-requires
begin_marked-requires g c = (steps g (goal.at.begin_marked-requires g c).In-Some).opens _ c.has_place.ensures.same

pub write_item_hashed-requires-clause-allowed : goal.write_item_hashed-requires-clause-allowed
write_item_hashed-requires-clause-allowed g c =
    let z = goal.at.write_item_hashed-requires-clause-allowed g c in
    let begun = c.begin_marked.ensures.events ∙ ap (λ n. marked_in_bucket n c.args.bucket (w g z.Start) (c.args.self.now.accepted + 1)) c.has_place.ensures.same in
    subst₂ (λ p n. CanPlay (item_events (g.W.OwnerWords.owner c.begin_marked.new.words).shape.hashing p n c.args.key.now c.args.value.now) (g.W.OwnerWords.owner c.begin_marked.new.words)) (sym c.from.ensures) (sym c.item_size-size.ensures)
    ((steps g z.In-Some).item _ begun)

pub place-requires : goal.place-requires
place-requires g c =
    let z = goal.at.place-requires g c in
    let places = (steps g z.In-Some).places _ (put g z.After-write_item_hashed) in
    record { index = places.0; marked = places.1; bucket = places.2; place = places.3; tag = search rules; offset = search rules }

pub end_write-requires : goal.end_write-requires
end_write-requires g c = let z = goal.at.end_write-requires g c in (closed g z.After-place _ _ (steps g z.In-Some) (put g z.After-write_item_hashed)).end

pub invariant_of-self-2 : goal.invariant_of-self-2
invariant_of-self-2 g c =
    let z = goal.at.invariant_of-self-2 g c in
    ((closed g z.After-place _ _ (steps g z.In-Some) (put g z.After-write_item_hashed)).ended _ _ c.end_write.ensures.event refl).invariant

pub returns-clause-step : goal.returns-clause-step
returns-clause-step g c =
    let z = goal.at.returns-clause-step g c in
    ((closed g z.After-place _ _ (steps g z.In-Some) (put g z.After-write_item_hashed)).ended _ _ c.end_write.ensures.event refl).step
