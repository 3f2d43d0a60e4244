use Rattle.cache_partition.proofs.Words.{IsWrite, MayWrite, None, OwnerState, Put, arith, kept_offset, refl, subst, sym, write_of, ◌∙◌, ◌≡◌}
use Rattle.cache_partition.proofs.Writes.{put_appends}
use Rattle.cache_partition.proofs.writing.put.Goals as goal

pub put_at_tail-requires-clause-at_tail : goal.put_at_tail-requires-clause-at_tail
put_at_tail-requires-clause-at_tail g c =
    let w = write_of Put c.args.key.now c.args.value.now in
    let same = c.offset_that_keeps.ensures.same.0 in
    let is : IsWrite w = record { key = c.requires.key; key_bytes = λ k. omega (arith, c.type_inv.key k); value = c.requires.value; value_bytes = λ k. omega (arith, c.type_inv.value k) } in
    put_appends (g.W.OwnerWords.owner c.offset_that_keeps.new.words) c.offset_that_keeps.ensures.kept
    (subst MayWrite (sym (same ∙ c.seek-sought.ensures.same.0)) c.requires.may) w is refl
    (subst (λ (q : OwnerState). kept_offset q w ≡ None) (sym same) (sym c.offset_that_keeps.ensures.kept_offset ∙ c.in-None.is))
