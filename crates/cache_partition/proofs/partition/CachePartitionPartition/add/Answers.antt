use Rattle.cache_partition.proofs.Words.{Add, Exists, FullBlock, Gains, IsOwnerStep, IsAcceptable, IsWrite, Kept, MayWrite, OwnerState, Stored, ap, arith, cond, false, had_record, is_accepted, item_size}
use Rattle.cache_partition.proofs.Words.{nat_le, options_in, refl, reply_of, subst, sym, true, write_of, Bool, ◌∙◌, ◌≡◌}
use Rattle.cache_partition.proofs.Held.{found_had, held, stands_at}
use Rattle.cache_partition.proofs.Writes.{add_appends, add_reply, gained_step, left_step, may_write, worn_step}
use Rattle.cache_partition.proofs.partition.CachePartitionPartition.add.Given.{Over}
use Rattle.cache_partition.proofs.partition.CachePartitionPartition.add.Goals as goal
use Rattle.cache_partition.proofs.partition.CachePartitionPartition.add.Goals.{After-is_some}

module _ (g : Over) (c : After-is_some g) where
  abbrev o : OwnerState
  o = g.W.OwnerWords.owner c.args.self.now.words

  may : MayWrite o
  may = may_write o c.args.self.now.idle c.args.self.now.cached (sym c.is_worn.ensures.worn ∙ c.if-is_worn.false)

  is : IsWrite (write_of Add c.args.key.now c.args.value.now)
  is = record { key = c.requires.key; key_bytes = λ k. omega (arith, c.type_inv.key k); value = c.requires.value; value_bytes = λ k. omega (arith, c.type_inv.value k) }

  -- whether a slot was found is whether there was a record
  had : c.is_some.result ≡ had_record o c.args.key.now
  had =
      let h = held o (subst Kept c.seek-sought.ensures.same.0 c.seek-sought.ensures.kept) c.args.self.now.cached in
      let here = c.seek-sought.ensures.sought.bucket in
      c.is_some.ensures ∙ found_had h c.seek-sought.result.bucket (stands_at h c.args.self.now.idle c.args.key.now c.seek-sought.result.bucket here) c.args.key.now (sym here)
      is.key_bytes c.seek-sought.result.slot c.seek-sought.ensures.sought.found

  -- the reply, where there was none
  reply_is : (b fits : Bool) → b ≡ c.is_some.result → b ≡ false → nat_le (item_size c.args.key.now c.args.value.now) o.shape.words ≡ fits
      → reply_of Add (options_in o) (write_of Add c.args.key.now c.args.value.now) (had_record o c.args.key.now) ≡ cond fits Stored FullBlock
  reply_is b fits found none is_fits =
      add_reply o (write_of Add c.args.key.now c.args.value.now) (had_record o c.args.key.now) (sym had ∙ (sym found ∙ none)) ∙ ap (λ t. cond t Stored FullBlock) is_fits

pub returns-then-is_worn-clause-step : goal.returns-then-is_worn-clause-step
returns-then-is_worn-clause-step g c =
    let o = g.W.OwnerWords.owner c.args.self.now.words in
    worn_step o c.args.self.now.idle c.args.self.now.cached (sym c.is_worn.ensures.worn ∙ c.if-is_worn.true) (write_of Add c.args.key.now c.args.value.now)

pub returns-then-is_some-clause-step : goal.returns-then-is_some-clause-step
returns-then-is_some-clause-step g c =
    let z = (goal.at.returns-then-is_some-clause-step g c).After-is_some in
    let o = g.W.OwnerWords.owner c.args.self.now.words in
    let w = write_of Add c.args.key.now c.args.value.now in
    subst (λ (q : OwnerState). IsOwnerStep o q w Exists) (sym c.seek-sought.ensures.same.0)
    (left_step o (may g z) w Exists refl (ap (reply_of Add (options_in o) w) (sym c.if-is_some.true ∙ had g z)))

pub returns-then-not-fits_log-clause-step : goal.returns-then-not-fits_log-clause-step
returns-then-not-fits_log-clause-step g c =
    let z = (goal.at.returns-then-not-fits_log-clause-step g c).After-is_some in
    let o = g.W.OwnerWords.owner c.args.self.now.words in
    let w = write_of Add c.args.key.now c.args.value.now in
    let fits : nat_le (item_size c.args.key.now c.args.value.now) o.shape.words ≡ false = subst (λ (q : OwnerState). nat_le (item_size c.args.key.now c.args.value.now) q.shape.words ≡ false) c.seek-sought.ensures.same.0 (sym c.fits_log.ensures ∙ c.if-not-fits_log.true) in
    subst (λ (q : OwnerState). IsOwnerStep o q w FullBlock) (sym c.seek-sought.ensures.same.0)
    (left_step o (may g z) w FullBlock refl (sym (reply_is g z c.is_some.result false refl c.if-is_some.false fits)))

pub put_at_tail-self-requires-clause-taken : goal.put_at_tail-self-requires-clause-taken
put_at_tail-self-requires-clause-taken g c =
    let z = (goal.at.put_at_tail-self-requires-clause-taken g c).After-is_some in
    let fits = subst (λ (q : OwnerState). nat_le (item_size c.args.key.now c.args.value.now) q.shape.words ≡ true) c.seek-sought.ensures.same.0 (sym c.fits_log.ensures ∙ c.if-not-fits_log.false) in
    subst (λ (q : OwnerState). IsAcceptable q (write_of Add c.args.key.now c.args.value.now)) (sym c.seek-sought.ensures.same.0)
    (ap is_accepted (reply_is g z c.is_some.result true refl c.if-is_some.false fits))

pub put_at_tail-self-requires-clause-at_tail : goal.put_at_tail-self-requires-clause-at_tail
put_at_tail-self-requires-clause-at_tail g c =
    let z = (goal.at.put_at_tail-self-requires-clause-at_tail g c).After-is_some in
    add_appends (g.W.OwnerWords.owner c.seek-sought.new.words) c.seek-sought.ensures.kept (subst MayWrite (sym c.seek-sought.ensures.same.0) (may g z))
    (write_of Add c.args.key.now c.args.value.now) (is g z) refl

pub returns-clause-step : goal.returns-clause-step
returns-clause-step g c =
    let z = (goal.at.returns-clause-step g c).After-is_some in
    let o = g.W.OwnerWords.owner c.args.self.now.words in
    let new = g.W.OwnerWords.owner c.put_at_tail-self.new.words in
    let w = write_of Add c.args.key.now c.args.value.now in
    let fits = subst (λ (q : OwnerState). nat_le (item_size c.args.key.now c.args.value.now) q.shape.words ≡ true) c.seek-sought.ensures.same.0 (sym c.fits_log.ensures ∙ c.if-not-fits_log.false) in
    gained_step o new (may g z) w Stored refl (subst (λ (q : OwnerState). Gains q new w) c.seek-sought.ensures.same.0 c.put_at_tail-self.ensures.gains)
    (sym (reply_is g z c.is_some.result true refl c.if-is_some.false fits))
