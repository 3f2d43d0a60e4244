use Rattle.cache_partition.proofs.Words.{HasNoSlot, IfSome, IsSlotOf, MatchOption, Option, OwnerState, Put, Shape, ap, arith, header_room, inl, inr}
use Rattle.cache_partition.proofs.Words.{is_live, item_in, keeps, offset_in, size_of, subst, sym, write_of, ℕ, ◌+◌, ◌∙◌, ◌≡◌}
use Rattle.cache_partition.proofs.Writes.{no_slot_keeps, slot_keeps, stamp_limit}
use Rattle.cache_partition.proofs.writing.offset_that_keeps.Goals as goal
use Rattle.cache_partition.proofs.writing.offset_that_keeps.Goals.{else-stays, then-stays}

pub returns-in_err-sought-clause-kept_offset : goal.returns-in_err-sought-clause-kept_offset
returns-in_err-sought-clause-kept_offset g c =
    let o = g.W.OwnerWords.owner c.args.words.now in
    c.from_residual.ensures
    ∙ sym (no_slot_keeps o c.requires.kept c.requires.may (write_of Put c.args.key.now c.args.value.now) c.requires.write c.args.sought.now.bucket c.requires.sought.bucket
    (subst (λ (z : Option ℕ). MatchOption z (HasNoSlot o c.args.sought.now.bucket c.args.key.now) (IsSlotOf o c.args.sought.now.bucket c.args.key.now)) c.in_err-sought.was c.requires.sought.found))

pub overflow_add-sought : goal.overflow_add-sought
overflow_add-sought g c =
    omega (arith, stamp_limit (g.W.OwnerWords.owner c.args.words.now) c.requires.kept c.requires.may c.args.sought.now.stamp c.requires.sought.stamp)

pub returns-clause-kept_offset : goal.returns-clause-kept_offset
returns-clause-kept_offset g c =
    let owner = g.W.OwnerWords.owner in
    let o = owner c.args.words.now in
    let found : IsSlotOf o c.args.sought.now.bucket c.args.key.now c.in_ok-sought.field-0 =
    subst (λ (z : Option ℕ). MatchOption z (HasNoSlot o c.args.sought.now.bucket c.args.key.now) (IsSlotOf o c.args.sought.now.bucket c.args.key.now)) c.in_ok-sought.was c.requires.sought.found in
    let offset : c.args.sought.now.offset ≡ offset_in o c.args.sought.now.bucket c.in_ok-sought.field-0 =
    subst (λ (z : Option ℕ). IfSome z (λ slot. c.args.sought.now.offset ≡ offset_in o c.args.sought.now.bucket slot)) c.in_ok-sought.was c.requires.sought.offset in
    let room = c.header_room-room.ensures ∙ ap header_room (c.read.ensures.value ∙ ap (item_in o) offset) in
    let kept_by : keeps (size_of (write_of Put c.args.key.now c.args.value.now)) c.header_room-room.result ≡ c.keeps-stays.result =
    ap (λ n. keeps n c.header_room-room.result) (sym c.item_size.ensures) ∙ sym c.keeps-stays.ensures in
    c.then_some.ensures
    ∙ slot_keeps o c.requires.kept c.requires.may (write_of Put c.args.key.now c.args.value.now) c.requires.write c.args.sought.now.bucket c.in_ok-sought.field-0 c.requires.sought.bucket found
    c.args.sought.now.stamp c.args.sought.now.offset c.header_room-room.result c.requires.sought.stamp offset room c.if-stays.then_some
    (elim c.if-stays.branch [
      | then-stays w ↦ inl (
        kept_by ∙ w.if-stays.true,
        w.then_some-is ∙ (w.is_live.ensures ∙ ap (λ (z : Shape). is_live z.words (c.args.sought.now.stamp + 1) c.args.sought.now.offset)
            (w.shape.ensures.same ∙ ap (λ (z : OwnerState). z.shape) c.read.ensures.same)),
      )
      | else-stays w ↦ inr (kept_by ∙ w.if-stays.false, w.then_some-is ∙ w.if-stays.false)
    ])
