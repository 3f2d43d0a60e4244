use Rattle.std.proofs.Common.{◌≡◌, ℕ, [], ◌∷◌, ◌++◌, length, get_or, refl, ap, ◌∙◌, subst, arith}
use Rattle.std.specs.Option.{option_to_list}
use Rattle.mica_replay.specs.declared.worker.OwnerWork.{OwnerWork}
use Rattle.mica_replay.specs.Lending.{OwnerPart, owner_part}
use Rattle.mica_replay.proofs.SeatMeets.{meets_by, meets_table, meets_one}
use Rattle.mica_replay.proofs.lending.meet_all.Given.{Over}
use Rattle.mica_replay.proofs.lending.meet_all.Goals.{After-index_mut-owner}
use Rattle.mica_replay.proofs.lending.meet_all.Goals as goal

abbrev part : (g : Over) → OwnerWork g.row.P.Denot → OwnerPart
part g w = owner_part g.P.Partition.owner g.P.Partition.home w

module _ (g : Over) (c : After-index_mut-owner g) where
  last : c.loop-seat.seats.items ≡ c.pop.new.self.items ++ c.in-Some.seat ∷ []
  last = c.pop.ensures.items ∙ ap (λ o. c.pop.new.self.items ++ option_to_list o) c.in-Some.is

  at : c.len-at.result ≡ length c.pop.new.self.items
  at = omega (arith, c.len-at.ensures, c.pop.new.self.ok)

  here : c.index_mut-owner.result.now ≡ get_or c.loop-seat.owners.items (length c.pop.new.self.items) c.index_mut-owner.result.now
  here = subst (λ (n : ℕ). c.index_mut-owner.result.now ≡ get_or c.loop-seat.owners.items n c.index_mut-owner.result.now) at c.index_mut-owner.ensures.value

pub meet-requires : goal.meet-requires
meet-requires g c =
    let z = (goal.at.meet-requires g c).After-index_mut-owner in
    meets_table (λ s. g.P.Reader.ReaderWords.reader s) (λ s. g.P.Reader.ReaderWords.home s) (part g) c.args.seats.now.items c.loop-seat.seats.items c.pop.new.self.items c.args.owners.now.items
    c.loop-seat.owners.items c.in-Some.seat c.index_mut-owner.result.now c.requires c.loop-seat.invariant.front (last g z) c.loop-seat.invariant.met (here g z)

pub loop-seat-preserved : goal.loop-seat-preserved
loop-seat-preserved g c =
    let z = (goal.at.loop-seat-preserved g c).After-index_mut-owner in
    let r = λ (s : g.row.P-Reader.Denot). g.P.Reader.ReaderWords.reader s in
    let old = c.index_mut-owner.result.now in
    let new : OwnerWork g.row.P.Denot = record old { part = c.meet.new.self } in
    let one = meets_one r (λ s. g.P.Reader.ReaderWords.home s) (part g) c.args.seats.now.items c.loop-seat.seats.items c.pop.new.self.items c.args.owners.now.items
    c.loop-seat.owners.items c.in-Some.seat old c.requires c.loop-seat.invariant.front (last g z) c.loop-seat.invariant.met (here g z) new
    (meets_by (part g old) (part g new) (r c.in-Some.seat) c.meet.ensures.met c.meet.ensures.kept c.meet.ensures.home refl refl) in
    record { front = one.0; met = rw (at g z) one.1 }
