-- Owners that were fed by their queues ran the writes of their jobs.
use Rattle.std.proofs.Common.{◌≡◌, ℕ, List, [], ◌∷◌, ◌++◌, length, slice_get, map, Some, sym, ap, ◌∙◌, subst, arith, true, All}
use Rattle.std.specs.Vec.Iter.{into_iter_items}
use Rattle.std.proofs.lemmas.List.{length-map}
use Rattle.std.proofs.lemmas.List.Elements.{All-from_recursion}
use Rattle.std.proofs.lemmas.Option.{slice_get_within, same_Some}
use Rattle.list_laws.proofs.Places.{element_at, from_map}
use Rattle.list_laws.proofs.AllElements.{all_places}
use Rattle.atomic_table.specs.Seated.{TableId}
use Rattle.partition_model.specs.declared.write.Write.{Write}
use Rattle.partition_words.specs.declared.state.OwnerState.{OwnerState}
use Rattle.owner_queue.specs.declared.message.Job.{Job}
use Rattle.owner_queue.specs.declared.message.Message.{Message}
use Rattle.owner_queue.specs.declared.message.Message.TheVariants as kind
use Rattle.owner_queue.specs.Messages.{sent_by, has_end}
use Rattle.owner_queue.specs.Worked.{jobs_in}
use Rattle.ruled_queue.specs.Ends.{Queue}
use Rattle.owner_queue.specs.JobEnds.{Outbox, Inbox, outbox}
use Rattle.mica_replay.specs.declared.feeder.Feed.{Feed}
use Rattle.mica_replay.specs.declared.feeder.Feeder.{Feeder}
use Rattle.mica_replay.specs.declared.worker.OwnerWork.{OwnerWork}
use Rattle.mica_replay.specs.Each.{Each}
use Rattle.mica_replay.specs.Feeds.{jobs_for, writes_for, IsReadyFeeder, HasFed}
use Rattle.mica_replay.specs.Lending.{OwnerPart, owner_part}
use Rattle.mica_replay.specs.Queues.{HasQueue, HaveQueues, MayTakeIn, HaveTakenIn}
use Rattle.mica_replay.specs.Replies.{HasWritten}
use Rattle.mica_replay.specs.RoundJobs.{AreNumbered}
use Rattle.mica_replay.specs.RoundRun.{HasRunWrites}
use Rattle.mica_replay.specs.Workers.{IsFedOwner, OwnerFed, OwnersFed}
use Rattle.mica_replay.proofs.JobOrder.{ready, jobs_made}
use Rattle.mica_replay.proofs.JobRuns.{ran_all}
use Rattle.mica_replay.proofs.RoundSteps.{at_each}

-- Owners whose queues were opened for jobs, and the feeder that has the queues' senders and the jobs.
pub record Opened {P : Type 0} (feeds : List Feed) (counts : List ℕ) (olds fed : List (OwnerWork P)) (f : Feeder) : Type 0 where
  pub numbered : AreNumbered feeds counts
  pub queues : HaveQueues counts olds fed f.senders.items
  pub in_hand : into_iter_items f.feeds ≡ feeds

module _ {P : Type 0} {feeds : List Feed} {counts : List ℕ} {olds fed : List (OwnerWork P)} {f : Feeder} (r : Opened feeds counts olds fed f) where
  -- the owner of a place before and after its queue was opened, and the queue's sender
  record Place (p : ℕ) (new : OwnerWork P) (sender : Outbox) : Type 0 where
    old : OwnerWork P
    at : slice_get olds p ≡ Some old
    is : HasQueue old new sender

  placed_at : (p : ℕ) (new : OwnerWork P) (sender : Outbox) → slice_get fed p ≡ Some new → slice_get f.senders.items p ≡ Some sender → Place p new sender
  placed_at p new sender is_new is_sender =
      let less = slice_get_within fed p new is_new in
      let old = element_at olds p (omega (arith, less, r.queues.many)) in
      record { old = old.0; at = old.1; is = r.queues.each p old.0 new sender old.1 is_new is_sender }

  owner_place : (p : ℕ) (new : OwnerWork P) → slice_get fed p ≡ Some new → (sender : Outbox) × (slice_get f.senders.items p ≡ Some sender) × Place p new sender
  owner_place p new is_new =
      let less = slice_get_within fed p new is_new in
      let sender = element_at f.senders.items p (omega (arith, less, r.queues.many, r.queues.senders_many)) in
      (sender.0, sender.1, placed_at p new sender.0 is_new sender.1)

  pub fed_ready : All IsFedOwner fed
  fed_ready = All-from_recursion IsFedOwner fed (all_places IsFedOwner fed (λ p new is_new.
      let is = (owner_place p new is_new).2.is in
      record {
        one = ap (λ (j : Inbox). j.senders) is.jobs_are;
        fresh = ap (λ (j : Inbox). j.taken) is.jobs_are;
        room = omega (arith, ap (λ (j : Inbox). j.jobs) is.jobs_are, ap (λ (w : OwnerWork P). w.done.spare) is.same);
      }))

  pub feeder_ready : IsReadyFeeder f
  feeder_ready =
      ready feeds counts f r.numbered r.queues.counts_are (λ p sender is_sender.
      let less = slice_get_within f.senders.items p sender is_sender in
      let new = element_at fed p (omega (arith, less, r.queues.many, r.queues.senders_many)) in
      let is = (placed_at p new.0 sender new.1 is_sender).is.sender_is in
      is ∙ ap (λ (q : Queue Message). outbox q 0 sender.jobs []) (sym (ap (λ (o : Outbox). o.queue) is)))
      r.in_hand

  module _ (owner : P → OwnerState) (home : P → TableId) (ran : List (OwnerWork P)) (senders : List Outbox) (zip : OwnersFed owner home fed ran) (has_fed : HasFed f senders) where
    abbrev part : OwnerWork P → OwnerPart
    part w = owner_part owner home w

    ran_many : length ran ≡ length olds
    ran_many = zip.0 ∙ r.queues.many

    -- what the sender of an owner's queue sent in all
    record Sent (p : ℕ) (ran_owner : OwnerWork P) (sender : Outbox) : Type 0 where
      new : OwnerWork P
      first : Outbox
      place : Place p new first
      fed_owner : OwnerFed owner home new ran_owner
      sent : sender ≡ outbox new.jobs.queue 0 first.jobs (jobs_for p feeds ++ kind.End 0 ∷ [])

    sent_at : (p : ℕ) (v : OwnerWork P) (sender : Outbox) → slice_get ran p ≡ Some v → slice_get senders p ≡ Some sender → Sent p v sender
    sent_at p v sender is_v is_sender =
        let less = slice_get_within ran p v is_v in
        let new = element_at fed p (omega (arith, less, ran_many, r.queues.many)) in
        let it = owner_place p new.0 new.1 in
        let place : Place p new.0 it.0 = it.2 in
        let first : Outbox = it.0 in
        record {
          new = new.0;
          first = first;
          place = place;
          fed_owner = at_each (OwnerFed owner home) fed ran zip.0 zip.1 p new.0 v new.1 is_v;
          sent = has_fed.each p first sender it.1 is_sender
              ∙ ap (λ (l : List Feed). outbox first.queue first.number first.jobs (jobs_for p l ++ kind.End first.number ∷ [])) r.in_hand
              ∙ ap (λ (o : Outbox). outbox o.queue o.number first.jobs (jobs_for p feeds ++ kind.End o.number ∷ [])) place.is.sender_is;
        }

    pub may_take : MayTakeIn ran senders
    may_take = record {
      many = has_fed.many ∙ r.queues.senders_many ∙ sym ran_many;
      each = λ p v sender is_v is_sender.
          let it = sent_at p v sender is_v is_sender in (
            ap (λ (o : Outbox). o.queue) it.sent ∙ sym (ap (λ (j : Inbox). j.queue) it.fed_owner.replied.worked.taken),
            subst (λ (n : ℕ). has_end n v.jobs.taken ≡ true) (sym (ap (λ (o : Outbox). o.number) it.sent)) it.fed_owner.ended,
          );
    }

    -- an owner that took all that its sender sent ran the writes of its jobs
    one_ran : (p : ℕ) (v : OwnerWork P) (sender : Outbox) (it : Sent p v sender) → sent_by sender.number v.jobs.taken ≡ sender.sent → HasRunWrites (writes_for p feeds) (part it.place.old) (part v)
    one_ran p v sender it taken =
        let same = it.place.is.same in
        let sent : List Message = jobs_for p feeds ++ kind.End 0 ∷ [] in
        let whole : sent_by 0 v.jobs.taken ≡ sent
        = subst (λ (n : ℕ). sent_by n v.jobs.taken ≡ sender.sent) (ap (λ (o : Outbox). o.number) it.sent) taken ∙ ap (λ (o : Outbox). o.sent) it.sent in
        let none : it.new.done.list ≡ [] = ap (λ (w : OwnerWork P). w.done.list) same in
        let written : HasWritten (owner it.new.part) (owner v.part) (map (λ (j : Job). j.write) (jobs_in sent)) v.done.list
        = ran_all (owner it.new.part) (owner v.part) it.new.jobs v.jobs it.new.done v.done sent (ap (λ (j : Inbox). j.taken) it.place.is.jobs_are) (ap (λ (j : Inbox). j.senders) it.place.is.jobs_are) none it.fed_owner.replied whole in
        let writes : map (λ (j : Job). j.write) (jobs_in sent) ≡ writes_for p feeds = ap (λ l. map (λ (j : Job). j.write) (jobs_in (l ++ kind.End 0 ∷ []))) (r.numbered.jobs p) ∙ jobs_made 0 (writes_for p feeds) in
        let same_part : owner it.new.part ≡ owner it.place.old.part = ap (λ (w : OwnerWork P). owner w.part) same in
        record {
          written = subst (λ (y : OwnerState × List Write). HasWritten y.0 (owner v.part) y.1 v.done.list) (λ i. (same_part i, writes i)) written;
          table = it.fed_owner.at_home ∙ ap (λ (w : OwnerWork P). home w.part) same;
          worker = it.fed_owner.worker ∙ ap (λ (w : OwnerWork P). w.worker) same;
        }

    pub owners_ran : (news : List (OwnerWork P)) → HaveTakenIn ran news senders → Each (λ p. HasRunWrites (writes_for p feeds)) (map part olds) (map part news)
    owners_ran news taken = record {
      many = length-map news part ∙ ap length taken.same ∙ ran_many ∙ sym (length-map olds part);
      each = λ p old new is_old is_new.
          let w = from_map part olds p old is_old in
          let v = from_map part news p new is_new in
          let at : slice_get ran p ≡ Some v.0 = ap (λ l. slice_get l p) (sym taken.same) ∙ v.1 in
          let sender = element_at senders p (omega (arith, slice_get_within ran p v.0 at, may_take.many)) in
          let it = sent_at p v.0 sender.0 at sender.1 in
          let was : it.place.old ≡ w.0 = same_Some _ _ (sym it.place.at ∙ w.1) in
          subst (λ (y : OwnerPart × OwnerPart). HasRunWrites (writes_for p feeds) y.0 y.1) (λ i. ((ap part was ∙ w.2) i, v.2 i)) (one_ran p v.0 sender.0 it (taken.whole p v.0 sender.0 at sender.1));
    }
