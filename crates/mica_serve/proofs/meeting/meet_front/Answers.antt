use Rattle.std.proofs.Common.{rules, ◌≡◌, ◌<◌, ◌+◌, ℕ, List, [], ◌∷◌, ◌++◌, map, length, take, get_or, slice_get, slice_set, Some, refl, sym, ap, ◌∙◌, subst, arith}
use Rattle.std.specs.Option.{option_to_list}
use Rattle.std.specs.Prelude.{option_map}
use Rattle.std.proofs.lemmas.List.{length-map, map-set, take_all}
use Rattle.std.proofs.lemmas.Option.{slice_get_within, slice_get_read, slice_get-map}
use Rattle.list_laws.proofs.Places.{popped}
use Rattle.mica_serve.specs.declared.worker.OwnerTask.{OwnerTask}
use Rattle.queue_front.specs.declared.queue_front.FrontPart.{FrontPart}
use Rattle.mica_serve.specs.Hands.{OwnerEnd, MayMeet}
use Rattle.mica_serve.specs.Tasks.{owner_end}
use Rattle.mica_serve.proofs.Meetings.{PartsMetFrom, parts_none, parts_one, parts_all, part_may}
use Rattle.mica_serve.proofs.meeting.meet_front.Given as given
use Rattle.mica_serve.proofs.meeting.meet_front.Goals as goal
use Rattle.mica_serve.proofs.meeting.meet_front.Goals.{After-index_mut-owner}

-- an owner as contracts see it
abbrev view : (g : given.Over) → OwnerTask g.row.P.Denot → OwnerEnd
view g t = owner_end g.P.Partition.owner g.P.Partition.home t

pub loop-part-init : goal.loop-part-init
loop-part-init g c =
    record {
      left = sym (take_all (length c.args.parts.items) c.args.parts.items (omega arith));
      met = parts_none c.args.parts.items (map (view g) c.args.owners.now.items);
    }

pub index_mut-owner-requires : goal.index_mut-owner-requires
index_mut-owner-requires g c =
    let rest = c.pop.new.self.items in
    let is : c.loop-part.parts.items ≡ rest ++ c.in-Some.part ∷ [] = c.pop.ensures.items ∙ ap (λ o. rest ++ option_to_list o) c.in-Some.is in
    let it = popped c.args.parts.items c.loop-part.parts.items rest c.in-Some.part c.loop-part.invariant.left is in
    omega (
      arith,
      c.len-at.ensures,
      c.pop.new.self.ok,
      slice_get_within c.args.parts.items (length rest) c.in-Some.part it.1,
      c.requires.many,
      length-map c.args.owners.now.items (view g),
      c.loop-part.invariant.met.many,
      length-map c.loop-part.owners.items (view g),
      c.loop-part.owners.ok,
    )

-- the part that was taken off, its owner, and that the owners behind it have met
module _ (g : given.Over) (c : goal.After-index_mut-owner g) where
  abbrev rest : List FrontPart
  rest = c.pop.new.self.items

  it : (rest ≡ take (length rest) c.args.parts.items) × (slice_get c.args.parts.items (length rest) ≡ Some c.in-Some.part)
      × (length c.loop-part.parts.items ≡ length rest + 1)
  it = popped c.args.parts.items c.loop-part.parts.items rest c.in-Some.part c.loop-part.invariant.left
      (c.pop.ensures.items ∙ ap (λ o. rest ++ option_to_list o) c.in-Some.is)

  at : c.len-at.result ≡ length rest
  at = omega (arith, c.len-at.ensures, c.pop.new.self.ok)

  mid : slice_get (map (view g) c.loop-part.owners.items) (length rest) ≡ Some (view g c.index_mut-owner.result.now)
  mid =
      let owners = c.loop-part.owners.items in
      let old = c.index_mut-owner.result.now in
      let less : length rest < length owners = omega (
        arith,
        slice_get_within c.args.parts.items (length rest) c.in-Some.part it.1,
        c.requires.many,
        length-map c.args.owners.now.items (view g),
        c.loop-part.invariant.met.many,
        length-map owners (view g),
      ) in
      let here : old ≡ get_or owners (length rest) old = subst (λ (n : ℕ). old ≡ get_or owners n old) at c.index_mut-owner.ensures.value in
      slice_get-map (view g) owners (length rest) ∙ ap (option_map (view g)) (slice_get_read owners (length owners) (length rest) old refl less here)

  met : PartsMetFrom (length rest + 1) c.args.parts.items (map (view g) c.args.owners.now.items) (map (view g) c.loop-part.owners.items)
  met =
      subst (λ (n : ℕ). PartsMetFrom n c.args.parts.items (map (view g) c.args.owners.now.items) (map (view g) c.loop-part.owners.items))
      it.2 c.loop-part.invariant.met

  may : (f : ℕ) × (length c.index_mut-owner.result.now.acks.items ≡ f + 1) × MayMeet f (view g c.index_mut-owner.result.now) c.in-Some.part
  may =
      part_may (length rest) c.args.parts.items (map (view g) c.args.owners.now.items) (map (view g) c.loop-part.owners.items) c.in-Some.part
      (view g c.index_mut-owner.result.now) c.requires met it.1 mid

pub meet-requires-clause-some : goal.meet-requires-clause-some
meet-requires-clause-some g c =
    let may = may g (goal.at.meet-requires-clause-some g c).After-index_mut-owner in
    omega (arith, may.1, c.index_mut-owner.result.now.acks.ok)

pub meet-requires-clause-may : goal.meet-requires-clause-may
meet-requires-clause-may g c n long =
    let may = may g (goal.at.meet-requires-clause-may g c).After-index_mut-owner in
    subst (λ (m : ℕ). MayMeet m (view g c.index_mut-owner.result.now) c.in-Some.part) (omega (arith, may.1, long)) may.2

pub loop-part-preserved : goal.loop-part-preserved
loop-part-preserved g c =
    let z = (goal.at.loop-part-preserved g c).After-index_mut-owner in
    let n = length c.pop.new.self.items in
    let olds = map (view g) c.args.owners.now.items in
    let owners = c.loop-part.owners.items in
    let new = c.meet.new.self in
    record {
      left = (it g z).0;
      met = subst (λ (k : ℕ). PartsMetFrom n c.args.parts.items olds (map (view g) (slice_set owners k new))) (sym (at g z))
          (subst (λ (l : List OwnerEnd). PartsMetFrom n c.args.parts.items olds l) (sym (map-set (view g) owners n new))
          (parts_one n c.args.parts.items olds (map (view g) owners) c.in-Some.part (view g c.index_mut-owner.result.now) (view g new)
          (met g z) (it g z).1 (mid g z) c.meet.ensures));
    }

pub returns : goal.returns
returns g c =
    let none : length c.loop-part.parts.items ≡ 0 = search rules in
    parts_all c.args.parts.items (map (view g) c.args.owners.now.items) (map (view g) c.loop-part.owners.items)
    (subst (λ (n : ℕ). PartsMetFrom n c.args.parts.items (map (view g) c.args.owners.now.items) (map (view g) c.loop-part.owners.items)) none c.loop-part.invariant.met)
