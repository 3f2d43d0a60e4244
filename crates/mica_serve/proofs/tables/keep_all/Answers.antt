use Rattle.std.proofs.Common.{◌≡◌, ℕ, suc, ◌+◌, ◌≤◌, ◌++◌, ◌∷◌, [], Some, List, map, length, slice_get, refl, sym, ap, ◌∙◌, subst, arith, append_assoc}
use Rattle.std.specs.Option.{option_to_list}
use Rattle.std.specs.Vec.Iter.{into_iter_items}
use Rattle.std.proofs.lemmas.List.{length_push}
use Rattle.partition_words.specs.declared.state.Phase.TheVariants.{Idle}
use Rattle.partition_words.specs.declared.state.OwnerState.{OwnerState}
use Rattle.partition_table.specs.declared.tables.KeptSeat.{KeptSeat}
use Rattle.partition_table.specs.Tabled.{kept_seat_in}
use Rattle.mica_serve.specs.declared.worker.OwnerTask.{OwnerTask}
use Rattle.mica_serve.proofs.tables.keep_all.Goals as goal

pub loop-owner-init : goal.loop-owner-init
loop-owner-init g c =
    let all = sym c.into_iter-left.ensures.rest in
    record {
      room = subst (λ (l : List (OwnerTask g.row.P.Denot)). length c.args.tables.now + length l ≤ 16) all c.requires.room;
      idle = subst (λ (l : List (OwnerTask g.row.P.Denot)). (p : ℕ) (w : OwnerTask g.row.P.Denot) → slice_get l p ≡ Some w → (g.P.Partition.owner w.part).phase ≡ Idle) all c.requires.idle;
      kept = refl;
    }

pub keep-requires-clause-idle : goal.keep-requires-clause-idle
keep-requires-clause-idle g c =
    let rest = into_iter_items c.next.new.self in
    let owner = c.in-Some.owner in
    let head : into_iter_items c.loop-owner.left ≡ owner ∷ rest = c.next.ensures.items ∙ ap (λ o. option_to_list o ++ rest) c.in-Some.is in
    ap (λ (o : OwnerState). o.phase) (c.into_seat.ensures ∙ c.requires.same owner.part) ∙ c.loop-owner.invariant.idle 0 owner (ap (λ l. slice_get l 0) head)

pub loop-owner-preserved : goal.loop-owner-preserved
loop-owner-preserved g c =
    let f = λ (w : OwnerTask g.row.P.Denot). kept_seat_in (g.P.Partition.owner w.part) in
    let rest = into_iter_items c.next.new.self in
    let owner = c.in-Some.owner in
    let head : into_iter_items c.loop-owner.left ≡ owner ∷ rest = c.next.ensures.items ∙ ap (λ o. option_to_list o ++ rest) c.in-Some.is in
    let kept : c.keep.new.self ≡ c.loop-owner.tables ++ f owner ∷ [] = c.keep.ensures ∙ ap (λ (o : OwnerState). c.loop-owner.tables ++ kept_seat_in o ∷ []) (c.into_seat.ensures ∙ c.requires.same owner.part) in
    let one = ap length kept in
    let two = length_push c.loop-owner.tables (f owner) in
    let three = ap length head in
    let room = c.loop-owner.invariant.room in
    record {
      room = omega arith;
      idle = λ p w is. c.loop-owner.invariant.idle (suc p) w (ap (λ l. slice_get l (suc p)) head ∙ is);
      kept = ap (λ (l : List KeptSeat). l ++ map f rest) kept ∙ append_assoc c.loop-owner.tables (f owner ∷ []) (map f rest)
          ∙ ap (λ l. c.loop-owner.tables ++ map f l) (sym head) ∙ c.loop-owner.invariant.kept;
    }
