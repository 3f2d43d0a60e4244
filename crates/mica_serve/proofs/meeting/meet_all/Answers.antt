use Rattle.std.proofs.Common.{rules, ◌≡◌, ℕ, [], ◌∷◌, ◌++◌, map, length, slice_get, Some, sym, ap, ◌∙◌, subst, arith}
use Rattle.std.specs.Option.{option_to_list}
use Rattle.std.specs.Prelude.{option_map}
use Rattle.std.proofs.lemmas.List.{length-map, take_all}
use Rattle.std.proofs.lemmas.Option.{slice_get-map}
use Rattle.list_laws.proofs.Places.{popped}
use Rattle.mica_serve.specs.declared.worker.OwnerTask.{OwnerTask}
use Rattle.mica_serve.specs.Tasks.{owner_end}
use Rattle.mica_serve.proofs.Meetings.{FrontsMetFrom, fronts_none, fronts_one, fronts_all, hand_may}
use Rattle.mica_serve.proofs.meeting.meet_all.Goals as goal

pub loop-parts-init : goal.loop-parts-init
loop-parts-init g c =
    let f = λ (t : OwnerTask g.row.P.Denot). owner_end g.P.Partition.owner g.P.Partition.home t in
    let hands = c.args.hands.items in
    record {
      left = sym (take_all (length hands) hands (omega arith));
      met = subst (λ (n : ℕ). FrontsMetFrom n (map (λ own. own.items) hands) (map f c.args.owners.now.items) (map f c.args.owners.now.items)) (length-map hands (λ own. own.items))
          (fronts_none (map f c.args.owners.now.items) (map (λ own. own.items) hands) c.requires);
    }

pub meet_front-requires : goal.meet_front-requires
meet_front-requires g c =
    let f = λ (t : OwnerTask g.row.P.Denot). owner_end g.P.Partition.owner g.P.Partition.home t in
    let hands = c.args.hands.items in
    let rest = c.pop.new.self.items in
    let is : c.loop-parts.hands.items ≡ rest ++ c.in-Some.parts ∷ [] = c.pop.ensures.items ∙ ap (λ o. rest ++ option_to_list o) c.in-Some.is in
    let it = popped hands c.loop-parts.hands.items rest c.in-Some.parts c.loop-parts.invariant.left is in
    let at : slice_get (map (λ own. own.items) hands) (length rest) ≡ Some c.in-Some.parts.items = slice_get-map (λ own. own.items) hands (length rest) ∙ ap (option_map (λ own. own.items)) it.1 in
    hand_may (length rest) (map (λ own. own.items) hands) (map f c.args.owners.now.items) (map f c.loop-parts.owners.items) c.in-Some.parts.items c.requires
    (subst (λ (n : ℕ). FrontsMetFrom n (map (λ own. own.items) hands) (map f c.args.owners.now.items) (map f c.loop-parts.owners.items)) it.2 c.loop-parts.invariant.met) at

pub loop-parts-preserved : goal.loop-parts-preserved
loop-parts-preserved g c =
    let f = λ (t : OwnerTask g.row.P.Denot). owner_end g.P.Partition.owner g.P.Partition.home t in
    let hands = c.args.hands.items in
    let rest = c.pop.new.self.items in
    let is : c.loop-parts.hands.items ≡ rest ++ c.in-Some.parts ∷ [] = c.pop.ensures.items ∙ ap (λ o. rest ++ option_to_list o) c.in-Some.is in
    let it = popped hands c.loop-parts.hands.items rest c.in-Some.parts c.loop-parts.invariant.left is in
    let at : slice_get (map (λ own. own.items) hands) (length rest) ≡ Some c.in-Some.parts.items = slice_get-map (λ own. own.items) hands (length rest) ∙ ap (option_map (λ own. own.items)) it.1 in
    record {
      left = it.0;
      met = fronts_one (length rest) (map (λ own. own.items) hands) (map f c.args.owners.now.items) (map f c.loop-parts.owners.items) c.in-Some.parts.items c.requires
          (subst (λ (n : ℕ). FrontsMetFrom n (map (λ own. own.items) hands) (map f c.args.owners.now.items) (map f c.loop-parts.owners.items)) it.2 c.loop-parts.invariant.met) at
          (map f c.meet_front.new.owners.items) c.meet_front.ensures;
    }

pub returns : goal.returns
returns g c =
    let f = λ (t : OwnerTask g.row.P.Denot). owner_end g.P.Partition.owner g.P.Partition.home t in
    let none : length c.loop-parts.hands.items ≡ 0 = search rules in
    fronts_all (map f c.args.owners.now.items) (map f c.loop-parts.owners.items) (map (λ own. own.items) c.args.hands.items)
    (subst (λ (n : ℕ). FrontsMetFrom n (map (λ own. own.items) c.args.hands.items) (map f c.args.owners.now.items) (map f c.loop-parts.owners.items)) none c.loop-parts.invariant.met)
