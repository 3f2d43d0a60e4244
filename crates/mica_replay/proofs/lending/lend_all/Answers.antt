use Rattle.std.proofs.Common.{◌≡◌, ◌<◌, map, length, slice_set, ap, ◌∙◌, arith}
use Rattle.mica_replay.specs.declared.worker.OwnerWork.{OwnerWork}
use Rattle.mica_replay.specs.Lending.{OwnerPart, owner_part, lent_part, table_in}
use Rattle.mica_replay.proofs.RoundSteps.{seen_many}
use Rattle.mica_replay.proofs.SeatMeets.{seen_same, one_lent}
use Rattle.mica_replay.proofs.lending.lend_all.Given.{Over}
use Rattle.mica_replay.proofs.lending.lend_all.Goals.{After-lend}
use Rattle.mica_replay.proofs.lending.lend_all.Goals as goal

abbrev part : (g : Over) → OwnerWork g.row.P.Denot → OwnerPart
part g w = owner_part g.P.Partition.owner g.P.Partition.home w

module _ (g : Over) (c : After-lend g) where
  less : c.loop-p.p < length c.loop-p.owners.items
  less = omega (arith, c.loop-p-test.true, c.len-p-end.ensures, c.args.owners.now.ok, seen_many (part g) _ _ (ap length c.loop-p.invariant.same))

  same : map (part g) (slice_set c.loop-p.owners.items c.loop-p.p (record c.index_mut-owner.result.now { part = c.lend.new.self })) ≡ map (part g) c.args.owners.now.items
  same =
      let old = c.index_mut-owner.result.now in
      seen_same (part g) c.loop-p.owners.items c.loop-p.p old _ _ c.loop-p.invariant.same less c.index_mut-owner.ensures.value
      (λ i. record { state = c.lend.ensures.same i; table = c.lend.ensures.home i; worker = old.worker; done = old.done })

pub returns-in_err-seat-clause-same : goal.returns-in_err-seat-clause-same
returns-in_err-seat-clause-same g c = same g (goal.at.returns-in_err-seat-clause-same g c).After-lend

pub returns-in_err-push-clause-same : goal.returns-in_err-push-clause-same
returns-in_err-push-clause-same g c = same g (goal.at.returns-in_err-push-clause-same g c).After-lend

pub loop-p-preserved : goal.loop-p-preserved
loop-p-preserved g c =
    let z = (goal.at.loop-p-preserved g c).After-lend in
    let old = c.index_mut-owner.result.now in
    let reader = λ (s : g.row.P-Reader.Denot). g.P.Reader.ReaderWords.reader s in
    let home = λ (s : g.row.P-Reader.Denot). g.P.Reader.ReaderWords.home s in
    record {
      seats = ap (λ ss. map reader ss) c.in_ok-push.ensures.items
          ∙ one_lent (part g) reader lent_part c.loop-p.owners.items c.loop-p.seats.items c.loop-p.p old c.in_ok-seat.seat _ c.loop-p.invariant.same (less g z) c.index_mut-owner.ensures.value
          c.loop-p.invariant.seats c.in_ok-seat.ensures.lent.0;
      homes = ap (λ ss. map home ss) c.in_ok-push.ensures.items
          ∙ one_lent (part g) home table_in c.loop-p.owners.items c.loop-p.seats.items c.loop-p.p old c.in_ok-seat.seat _ c.loop-p.invariant.same (less g z) c.index_mut-owner.ensures.value
          c.loop-p.invariant.homes c.in_ok-seat.ensures.lent.1;
      same = same g z;
    }
