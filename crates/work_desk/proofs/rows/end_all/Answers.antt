use Rattle.std.proofs.Common.{◌≡◌, suc, ◌+◌, ◌<◌, length, slice_get, slice_set, None, Some, refl, sym, ap, ◌∙◌, subst, arith}
use Rattle.std.proofs.lemmas.List.Elements.{All-get_or}
use Rattle.std.proofs.lemmas.Option.{slice_get_read, slice_get_within, get_or_from_slice_get}
use Rattle.work_desk.specs.Desk.{giver, told}
use Rattle.work_desk.proofs.RowSteps.{told_to, not_told_yet, told_next, length-told, told_all}
use Rattle.work_desk.proofs.rows.end_all.Given.{Over}
use Rattle.work_desk.proofs.rows.end_all.Goals.{After-index_mut-giver}
use Rattle.work_desk.proofs.rows.end_all.Goals as goal

module _ (g : Over) (c : After-index_mut-giver g) where
  below : c.loop-desk.desk < length c.loop-desk.givers.items
  below = omega (arith, c.loop-desk-test.true, c.loop-desk.auto.desk-end, c.len-desk-end.ensures, c.args.givers.now.ok, ap length c.loop-desk.invariant, length-told c.loop-desk.desk c.args.givers.now.items)

  at_next : slice_get c.args.givers.now.items c.loop-desk.desk ≡ Some c.index_mut-giver.result.now
  at_next =
      sym (not_told_yet c.loop-desk.desk c.args.givers.now.items) ∙ ap (λ l. slice_get l c.loop-desk.desk) (sym c.loop-desk.invariant)
      ∙ slice_get_read c.loop-desk.givers.items (length c.loop-desk.givers.items) c.loop-desk.desk c.index_mut-giver.result.now refl below c.index_mut-giver.ensures.value

pub end-requires : goal.end-requires
end-requires g c =
    let z = (goal.at.end-requires g c).After-index_mut-giver in
    let gs = c.args.givers.now.items in
    let k = c.index_mut-giver.result.now in
    subst (λ k. k ≡ giver k.terms None) (get_or_from_slice_get gs c.loop-desk.desk k k (at_next g z))
    (All-get_or (λ k. k ≡ giver k.terms None) gs c.loop-desk.desk k (slice_get_within gs c.loop-desk.desk k (at_next g z)) c.requires)

pub loop-desk-preserved : goal.loop-desk-preserved
loop-desk-preserved g c =
    let z = (goal.at.loop-desk-preserved g c).After-index_mut-giver in
    let more : suc c.loop-desk.desk ≡ c.loop-desk.desk + 1 = omega (arith) in
    (λ i. slice_set (c.loop-desk.invariant i) c.loop-desk.desk (c.end.ensures i)) ∙ told_next c.loop-desk.desk c.args.givers.now.items c.index_mut-giver.result.now (at_next g z)
    ∙ ap (λ n. told_to n c.args.givers.now.items) more

pub returns : goal.returns
returns g c =
    c.loop-desk.invariant
    ∙ told_all c.loop-desk.desk c.args.givers.now.items
    (omega (arith, c.loop-desk-test.false, c.loop-desk.auto.desk-end, c.len-desk-end.ensures, c.args.givers.now.ok))
