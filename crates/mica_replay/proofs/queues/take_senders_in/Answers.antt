use Rattle.std.proofs.Common.{◌≡◌, ℕ, ◌∷◌, ◌++◌, [], length, slice_get, Some, refl, sym, ap, ◌∙◌, subst, arith, append_assoc}
use Rattle.std.specs.Vec.Iter.{into_iter_items}
use Rattle.std.proofs.lemmas.List.{length_push}
use Rattle.std.proofs.lemmas.Option.{slice_get_read}
use Rattle.mica_replay.proofs.QueueSteps.{takes_in_one, next_below, next_may}
use Rattle.mica_replay.proofs.queues.take_senders_in.Given.{Over}
use Rattle.mica_replay.proofs.queues.take_senders_in.Goals.{After-index_mut-owner}
use Rattle.mica_replay.proofs.queues.take_senders_in.Goals as goal

module _ (g : Over) (c : After-index_mut-owner g) where
  left : c.args.senders.items ≡ c.loop-sender.yielded ++ c.in-Some.sender ∷ into_iter_items c.next.new.self
  left = c.loop-sender.invariant.left ∙ ap (λ l. c.loop-sender.yielded ++ l) c.in-Some.ensures.steps.0

  owner_at : slice_get c.loop-sender.owners.items (length c.loop-sender.yielded) ≡ Some c.index_mut-owner.result.now
  owner_at =
      let i = c.loop-sender.invariant in
      let news = c.loop-sender.owners.items in
      let owner = c.index_mut-owner.result.now in
      let less = next_below c.args.owners.now.items news c.args.senders.items c.loop-sender.yielded (into_iter_items c.next.new.self) c.in-Some.sender c.requires i.taken left in
      subst (λ (n : ℕ). slice_get news n ≡ Some owner) i.at (slice_get_read news (length news) c.loop-sender.at owner refl (omega (arith, i.at, less)) c.index_mut-owner.ensures.value)

pub index_mut-owner-requires : goal.index_mut-owner-requires
index_mut-owner-requires g c =
    let i = c.loop-sender.invariant in
    let left = i.left ∙ ap (λ l. c.loop-sender.yielded ++ l) c.in-Some.ensures.steps.0 in
    omega (arith, i.at, next_below c.args.owners.now.items c.loop-sender.owners.items c.args.senders.items c.loop-sender.yielded (into_iter_items c.next.new.self) c.in-Some.sender c.requires i.taken left, c.loop-sender.owners.ok)

pub take_in-requires : goal.take_in-requires
take_in-requires g c =
    let z = (goal.at.take_in-requires g c).After-index_mut-owner in
    let it = next_may c.args.owners.now.items c.loop-sender.owners.items c.args.senders.items c.loop-sender.yielded (into_iter_items c.next.new.self) c.in-Some.sender
    c.requires c.loop-sender.invariant.taken (left g z) c.index_mut-owner.result.now (owner_at g z) in
    record { queue = it.0; ended = it.1 }

pub loop-sender-preserved : goal.loop-sender-preserved
loop-sender-preserved g c =
    let z = (goal.at.loop-sender-preserved g c).After-index_mut-owner in
    let i = c.loop-sender.invariant in
    let yielded = c.loop-sender.yielded in
    let owner = c.index_mut-owner.result.now in
    record {
      at = omega (arith, i.at, length_push yielded c.in-Some.sender);
      left = left g z ∙ sym (append_assoc yielded (c.in-Some.sender ∷ []) (into_iter_items c.next.new.self));
      taken = rw i.at (takes_in_one c.args.owners.now.items c.loop-sender.owners.items yielded c.in-Some.sender owner (record owner { jobs = c.take_in.new.self }) i.taken
          (owner_at g z) (ap (λ j. record owner { jobs = j }) c.take_in.ensures.same) c.take_in.ensures.whole);
    }
