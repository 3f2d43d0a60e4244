use Rattle.std.proofs.Common.{◌≡◌, ℕ, ◌+◌, ◌++◌, ◌∷◌, [], sym, ap, subst, ◌∙◌, arith}
use Rattle.std.proofs.lemmas.Bool.{true≢false}
use Rattle.partition_words.specs.declared.state.OwnerState.{OwnerState}
use Rattle.partition_words.specs.OwnerState.{entry_in}
use Rattle.partition_walk.specs.Listed.{Adds, HasItemBelow}
use Rattle.partition_walk.proofs.Added.{one_slot, dead_slot, live_here, live_there}
use Rattle.partition_walk.proofs.listing.list_bucket.Goals.{then-names_item+in_ok-push, else-names_item}
use Rattle.partition_walk.proofs.listing.list_bucket.Goals as goal

pub loop-slot-preserved : goal.loop-slot-preserved
loop-slot-preserved g c =
    let o = g.W.OwnerWords.owner c.args.words.now in
    let xs = c.args.offsets.now.items in
    let ys = c.loop-slot.offsets.items in
    let slot = c.loop-slot.slot in
    let entry : c.read-entry.result ≡ entry_in o c.args.bucket slot =
    c.read-entry.ensures.value ∙ ap (λ (p : OwnerState). entry_in p c.args.bucket slot) c.loop-slot.invariant.owner in
    record {
      owner = c.read-entry.ensures.same ∙ c.loop-slot.invariant.owner;
      home = c.read-entry.ensures.home ∙ c.loop-slot.invariant.home;
      listed = elim c.if-names_item.branch [
        | then-names_item+in_ok-push w ↦
            let items : c.if-names_item.offsets.items ≡ ys ++ w.entry_offset.result ∷ [] = rw w.offsets-is w.in_ok-push.ensures.items in
            subst (Adds (HasItemBelow o (slot + 1) c.args.bucket) xs) (sym items)
            (one_slot o c.args.bucket slot xs ys c.loop-slot.invariant.listed c.read-entry.result w.entry_offset.result entry w.entry_offset.ensures
            (live_here o c.args.shape.now c.args.stamp c.read-entry.result c.requires.shape c.requires.stamp (c.names_item.ensures.0 w.if-names_item.true)))
        | else-names_item w ↦
            let items : c.if-names_item.offsets.items ≡ ys = cc in
            subst (Adds (HasItemBelow o (slot + 1) c.args.bucket) xs) (sym items)
            (dead_slot o c.args.bucket slot xs ys c.loop-slot.invariant.listed c.read-entry.result entry
            (λ live. true≢false (sym (c.names_item.ensures.1 (live_there o c.args.shape.now c.args.stamp c.read-entry.result c.requires.shape c.requires.stamp live)) ∙ w.if-names_item.false)))
      ];
    }

pub returns-clause-listed : goal.returns-clause-listed
returns-clause-listed g c =
    let end : c.loop-slot.slot ≡ 15 = omega (arith, c.loop-slot-test.false, c.loop-slot.auto.slot-end) in
    subst (λ (n : ℕ). Adds (HasItemBelow (g.W.OwnerWords.owner c.args.words.now) n c.args.bucket) c.args.offsets.now.items c.loop-slot.offsets.items) end c.loop-slot.invariant.listed
