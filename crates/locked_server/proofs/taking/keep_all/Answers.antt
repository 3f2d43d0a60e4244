use Rattle.std.proofs.Common.{◌≡◌, ℕ, suc, ◌+◌, ◌≤◌, ◌++◌, ◌∷◌, [], Some, List, map, length, slice_get, refl, sym, ap, ◌∙◌, subst, arith, append_assoc}
use Rattle.std.specs.Option.{option_to_list}
use Rattle.std.specs.Vec.Iter.{into_iter_items}
use Rattle.std.proofs.lemmas.List.{length_push}
use Rattle.partition_model.specs.declared.options.TheConstants.{MOST_PARTITIONS}
use Rattle.partition_words.specs.declared.state.Phase.TheVariants.{Idle}
use Rattle.partition_words.specs.declared.state.OwnerState.{OwnerState}
use Rattle.partition_table.specs.declared.tables.KeptSeat.{KeptSeat}
use Rattle.partition_table.specs.Tabled.{kept_seat_in}
use Rattle.locked_front.specs.declared.returned.Returned.{Returned}
use Rattle.locked_front.specs.Owned.{Owned}
use Rattle.locked_server.specs.Taking.{left_view}
use Rattle.locked_server.proofs.taking.keep_all.Given as given
use Rattle.locked_server.proofs.taking.keep_all.Goals as goal

abbrev view : (g : given.Over) → Returned g.row.P.Denot → Owned
view g part = left_view g.P.Partition.owner g.P.Partition.home part

abbrev entries : (g : given.Over) → List (Returned g.row.P.Denot) → List KeptSeat
entries g parts = map (λ (left : Owned). kept_seat_in left.owner) (map (view g) parts)

pub loop-left-init : goal.loop-left-init
loop-left-init g c =
    let all = sym c.into_iter-rest.ensures.rest in
    record {
      room = subst (λ (l : List (Returned g.row.P.Denot)). length c.args.tables.now + length l ≤ MOST_PARTITIONS) all c.requires.room;
      idle = subst (λ (l : List (Returned g.row.P.Denot)). (p : ℕ) (left : Owned) → slice_get (map (view g) l) p ≡ Some left → left.owner.phase ≡ Idle) all c.requires.idle;
      kept = refl;
    }

pub keep-requires-clause-idle : goal.keep-requires-clause-idle
keep-requires-clause-idle g c =
    let rest = into_iter_items c.next.new.self in
    let part = c.in-Some.left in
    let head : into_iter_items c.loop-left.rest ≡ part ∷ rest = c.next.ensures.items ∙ ap (λ o. option_to_list o ++ rest) c.in-Some.is in
    ap (λ (o : OwnerState). o.phase) (c.into_seat.ensures ∙ c.requires.same part.part) ∙ c.loop-left.invariant.idle 0 (view g part) (ap (λ l. slice_get (map (view g) l) 0) head)

pub loop-left-preserved : goal.loop-left-preserved
loop-left-preserved g c =
    let rest = into_iter_items c.next.new.self in
    let part = c.in-Some.left in
    let head : into_iter_items c.loop-left.rest ≡ part ∷ rest = c.next.ensures.items ∙ ap (λ o. option_to_list o ++ rest) c.in-Some.is in
    let entry = kept_seat_in (view g part).owner in
    let kept : c.keep.new.self ≡ c.loop-left.tables ++ entry ∷ [] = c.keep.ensures ∙ ap (λ (o : OwnerState). c.loop-left.tables ++ kept_seat_in o ∷ []) (c.into_seat.ensures ∙ c.requires.same part.part) in
    let one = ap length kept in
    let two = length_push c.loop-left.tables entry in
    let three = ap length head in
    let room = c.loop-left.invariant.room in
    record {
      room = omega arith;
      idle = λ p left is. c.loop-left.invariant.idle (suc p) left (ap (λ l. slice_get (map (view g) l) (suc p)) head ∙ is);
      kept = ap (λ (l : List KeptSeat). l ++ entries g rest) kept ∙ append_assoc c.loop-left.tables (entry ∷ []) (entries g rest)
          ∙ ap (λ l. c.loop-left.tables ++ entries g l) (sym head) ∙ c.loop-left.invariant.kept;
    }
