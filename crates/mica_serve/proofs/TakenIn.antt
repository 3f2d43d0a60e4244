-- What owners and fronts came to, once they met, is what is known of fronts beside each other.
use Rattle.std.proofs.Common.{◌≡◌, ℕ, ◌+◌, ◌<◌, ◌≤◌, List, [], ◌∷◌, ◌++◌, length, map, Option, Some, None, refl, sym, ap, ◌∙◌, subst, slice_get, arith, All}
use Rattle.std.specs.Prelude.{sum, sum_by, option_map, unwrap_or}
use Rattle.std.specs.List.{AllZip, AllByRecursion}
use Rattle.std.proofs.lemmas.List.{length-map, map-append}
use Rattle.std.proofs.lemmas.List.Sums.{sum-map}
use Rattle.std.proofs.lemmas.Simd.{map-map}
use Rattle.std.proofs.lemmas.List.Elements.{All-from_recursion, recursion_from_All}
use Rattle.std.proofs.lemmas.Slice.Zip.{AllZip-long}
use Rattle.std.proofs.lemmas.Option.{slice_get-map, slice_get_within, same_Some}
use Rattle.list_laws.proofs.AllElements.{all_at}
use Rattle.list_laws.proofs.Places.{at_map, from_map, element_at}
use Rattle.partition_model.specs.declared.options.Options.{Options}
use Rattle.partition_model.specs.History.{IsPrefix}
use Rattle.partition_model.specs.Run.{RunStep, IsRunFrom, history_of}
use Rattle.partition_words.specs.declared.state.OwnerState.{OwnerState}
use Rattle.partition_words.specs.declared.reader.ReaderState.{ReaderState}
use Rattle.owner_queue.proofs.Runs.{run_as}
use Rattle.partition_words.specs.OwnerState.{options_in}
use Rattle.partition_table.specs.declared.tables.KeptSeat.{KeptSeat}
use Rattle.partition_table.specs.Tabled.{kept_seat_in}
use Rattle.partition_table.specs.Seats.{reader_state, reader_home}
use Rattle.owner_queue.specs.declared.ack.Ack.{Ack}
use Rattle.owner_queue.specs.declared.message.Message.{Message}
use Rattle.owner_queue.specs.declared.message.Message.TheVariants as message
use Rattle.owner_queue.specs.declared.message.Job.{Job}
use Rattle.owner_queue.specs.Messages.{sender_of}
use Rattle.owner_queue.specs.JobEnds.{Outbox, Inbox}
use Rattle.owner_queue.specs.AckEnds.{AckBox}
use Rattle.queue_front.specs.declared.queue_front.FrontPart.{FrontPart}
use Rattle.mica_serve.specs.declared.worker.FrontTask.{FrontTask}
use Rattle.queue_front.specs.QueueStand.{QueueStand}
use Rattle.fronts.specs.Session.{Told, Session}
use Rattle.fronts.specs.Placed.{Placed, steps_in, steps_by, history_in}
use Rattle.served.specs.Others.{alone}
use Rattle.served.specs.Served.{empty_origin}
use Rattle.served.specs.Beside.{closed_of, total_below, RunsPartitions}
use Rattle.queue_front.specs.QueueFront.{QueueView, IsFrontPart, queue_view, stand_of, told_by, session_or_none, sessions_of, ended_part, step_by, acknowledged_by}
use Rattle.owner_queue.specs.Worked.{Acknowledged, DoneJob, jobs_in, job_of}
use Rattle.queue_front.specs.OwnerWork.{placed_in}
use Rattle.served.specs.Ends.{EndFacts}
use Rattle.served.specs.FrontRuns.{FrontRun, RunsFront, RunFronts, RanAll, IsTakenIn, AreTakenIn, closed_in}
use Rattle.mica_serve.specs.Hands.{OwnerEnd, IsNewOwner, IsLentBy, AreFrontsOf, RanOwner, MayMeet, HasMet, MayMeetAll, HaveMetAll, closed_by, closed_at, met_after}
use Rattle.mica_serve.specs.Tasks.{FrontRan}
use Rattle.served.proofs.MadeOf.{made_of, made_map, made_long, made_at}
use Rattle.served.proofs.JobCounts.{steps_answered, steps_placed, few_answered, total_few}

module _ {D : Type 0} (batches : ℕ) (facts : D → EndFacts) (options : Options) (fronts most : ℕ) where
  -- owners and fronts as made, and the same after all of them ran as workers
  pub record HaveRan (made owners : List OwnerEnd) (views : List QueueView) (olds news : List (FrontTask D)) : Type 0 where
    pub some : 1 ≤ options.partitions
    pub opened : AreFrontsOf options fronts most made views
    pub owners_ran : AllZip RanOwner made owners
    pub fronts_ran : AllZip (FrontRan batches facts) olds news
    pub views_are : map (λ (t : FrontTask D). t.front) olds ≡ map (λ (v : QueueView). Some v) views

abbrev run_of : {D : Type 0} {batches : ℕ} {facts : D → EndFacts} (o n : FrontTask D) → FrontRan batches facts o n → FrontRun
run_of o n r = record { answer = n.answer; old = sessions_of r.front.parts; new = sessions_of r.ran.new.parts; left = r.front.left; left_after = r.ran.new.left }

abbrev done_of : (o n : OwnerEnd) → RanOwner o n → List Placed
done_of o n r = placed_in r.served.done

abbrev step_of : Acknowledged → RunStep
step_of answer = answer.step

module _ {D : Type 0} {batches : ℕ} {facts : D → EndFacts} {options : Options} {fronts most : ℕ} {made owners : List OwnerEnd} {views : List QueueView}
    {olds news : List (FrontTask D)} (all : HaveRan batches facts options fronts most made owners views olds news) where
  abbrev hand_of : FrontTask D → List FrontPart
  hand_of task = task.parts.items

  abbrev end_of : FrontTask D → EndFacts
  end_of task = facts task.end

  -- what the fronts came to
  abbrev runs : List FrontRun
  runs = made_of run_of olds news all.fronts_ran

  -- the run of the owner of each partition
  abbrev placed : ℕ → List Placed
  placed p = unwrap_or (slice_get (made_of done_of made owners all.owners_ran) p) []

  owners_long : length owners ≡ options.partitions
  owners_long = AllZip-long RanOwner made owners all.owners_ran ∙ all.opened.partitions

  news_long : length news ≡ fronts
  news_long =
      AllZip-long (FrontRan batches facts) olds news all.fronts_ran ∙ sym (length-map olds (λ (t : FrontTask D). t.front)) ∙ ap length all.views_are
      ∙ length-map views (λ (v : QueueView). Some v) ∙ sym (length-map views (λ (v : QueueView). v.parts)) ∙ all.opened.lent.many

  -- the owner of a partition, as it was made
  pub record OwnerAt (p : ℕ) (owner : OwnerEnd) : Type 0 where
    pub old : OwnerEnd
    at : slice_get owners p ≡ Some owner
    old_at : slice_get made p ≡ Some old
    pub ran : RanOwner old owner
    pub new : IsNewOwner options fronts most old
    placed_is : placed p ≡ placed_in ran.served.done

  pub owner_at : (p : ℕ) (owner : OwnerEnd) → slice_get owners p ≡ Some owner → OwnerAt p owner
  owner_at p owner at =
      let m = made_at done_of made owners all.owners_ran p owner at in
      record {
        old = m.from;
        at = at;
        old_at = m.at;
        ran = m.both;
        new = all.opened.lent.fresh p m.from m.at;
        placed_is = ap (λ (x : Option (List Placed)). unwrap_or x []) m.is;
      }

  unwritten : {p : ℕ} {owner : OwnerEnd} (o : OwnerAt p owner) → o.old.state.history ≡ []
  unwritten o = ap (λ (s : OwnerState). s.history) o.new.state

  owner_of : (p : ℕ) → p < options.partitions → (owner : OwnerEnd) × OwnerAt p owner
  owner_of p low = let o = element_at owners p (omega (arith, owners_long)) in (o.0, owner_at p o.0 o.1)

  -- a front after it ran, as it was before
  record FrontAt (f : ℕ) (n : FrontTask D) : Type 0 where
    old : FrontTask D
    at : slice_get news f ≡ Some n
    old_at : slice_get olds f ≡ Some old
    ran : FrontRan batches facts old n
    run_is : slice_get runs f ≡ Some (run_of old n ran)
    parts_at : slice_get (map (λ (v : QueueView). v.parts) views) f ≡ Some ran.front.parts
    fresh : ran.front ≡ queue_view options f 0 most ran.front.parts
    many : length ran.front.parts ≡ options.partitions
    new_many : length ran.ran.new.parts ≡ options.partitions
    hand_many : length n.parts.items ≡ options.partitions

  front_at : (f : ℕ) (n : FrontTask D) → slice_get news f ≡ Some n → FrontAt f n
  front_at f n at =
      let m = made_at run_of olds news all.fronts_ran f n at in
      let r = m.both in
      let v = from_map (λ (v : QueueView). Some v) views f (Some r.front)
      (ap (λ l. slice_get l f) (sym all.views_are) ∙ at_map (λ (t : FrontTask D). t.front) olds f m.from m.at ∙ ap Some r.front_is) in
      let here : slice_get views f ≡ Some r.front = v.1 ∙ v.2 in
      let parts_at = at_map (λ (v : QueueView). v.parts) views f r.front here in
      let many = all.opened.lent.each_many f r.front.parts parts_at ∙ all.opened.partitions in
      let new_many = sym (length-map r.ran.new.parts stand_of) ∙ ap length r.ran.stands ∙ length-map r.front.parts stand_of ∙ many in
      record {
        old = m.from;
        at = at;
        old_at = m.at;
        ran = r;
        run_is = m.is;
        parts_at = parts_at;
        fresh = all.opened.each f r.front here;
        many = many;
        new_many = new_many;
        hand_many = ap length r.ran.ended ∙ length-map r.ran.new.parts (ended_part r.ran.new.number) ∙ new_many;
      }

  front_of : (f : ℕ) (run : FrontRun) → slice_get runs f ≡ Some run → (n : FrontTask D) × (a : FrontAt f n) × (run_of a.old n a.ran ≡ run)
  front_of f run at =
      let n = element_at news f (omega (arith, slice_get_within runs f run at, made_long run_of olds news all.fronts_ran)) in
      let a = front_at f n.0 n.1 in
      (n.0, a, same_Some _ _ (sym a.run_is ∙ at))

  -- the part of an owner in a front's hand, as it was lent
  record PartAt {f p : ℕ} {n : FrontTask D} {owner : OwnerEnd} (a : FrontAt f n) (o : OwnerAt p owner) (part : FrontPart) : Type 0 where
    at : slice_get n.parts.items p ≡ Some part
    first : FrontPart
    lent : IsLentBy f most o.old first
    first_at : slice_get a.ran.front.parts p ≡ Some first
    last : FrontPart
    last_at : slice_get a.ran.ran.new.parts p ≡ Some last
    part_is : part ≡ ended_part a.ran.ran.new.number last
    stands : stand_of last ≡ stand_of first
    fits : IsFrontPart a.ran.ran.new last

  part_at : {f p : ℕ} {n : FrontTask D} {owner : OwnerEnd} (a : FrontAt f n) (o : OwnerAt p owner) (part : FrontPart) → slice_get n.parts.items p ≡ Some part → PartAt a o part
  part_at {f} {p} {n} a o part at =
      let new = a.ran.ran.new in
      let e = from_map (ended_part new.number) new.parts p part (ap (λ l. slice_get l p) (sym a.ran.ran.ended) ∙ at) in
      let first = element_at a.ran.front.parts p (omega (arith, slice_get_within n.parts.items p part at, a.hand_many, a.many)) in
      record {
        at = at;
        first = first.0;
        lent = all.opened.lent.each f p a.ran.front.parts first.0 o.old a.parts_at first.1 o.old_at;
        first_at = first.1;
        last = e.0;
        last_at = e.1;
        part_is = sym e.2;
        stands = same_Some _ _ (sym (at_map stand_of new.parts p e.0 e.1) ∙ ap (λ l. slice_get l p) a.ran.ran.stands ∙ at_map stand_of a.ran.front.parts p first.0 first.1);
        fits = all_at (IsFrontPart new) new.parts p e.0 (recursion_from_All (IsFrontPart new) new.parts a.ran.ran.is.each) e.1;
      }

  part_of : {f p : ℕ} {n : FrontTask D} {owner : OwnerEnd} (a : FrontAt f n) (o : OwnerAt p owner) → (part : FrontPart) × PartAt a o part
  part_of {f} {p} {n} {owner} a o =
      let part = element_at n.parts.items p (omega (arith, slice_get_within owners p owner o.at, owners_long, a.hand_many)) in
      (part.0, part_at a o part.0 part.1)

  front_low : {f : ℕ} {n : FrontTask D} → FrontAt f n → f < fronts
  front_low {f} {n} a = omega (arith, slice_get_within news f n a.at, news_long)

  acks_many : {p : ℕ} {owner : OwnerEnd} → OwnerAt p owner → length owner.acks ≡ fronts
  acks_many o = o.ran.served.fronts ∙ o.new.acks

  senders_many : {p : ℕ} {owner : OwnerEnd} (o : OwnerAt p owner) → o.old.jobs.senders ≡ fronts
  senders_many o = ap (λ (b : Inbox). b.senders) o.new.jobs

  may_meet_part : {f p : ℕ} {n : FrontTask D} {owner : OwnerEnd} (a : FrontAt f n) (o : OwnerAt p owner) (part : FrontPart) → PartAt a o part → MayMeet f owner part
  may_meet_part {f} a o part x = record {
    number = ap (λ (y : FrontPart). y.jobs.number) x.part_is ∙ ap (λ (s : QueueStand). s.number) x.stands ∙ ap (λ (b : Outbox). b.number) x.lent.jobs;
    jobs = ap (λ (y : FrontPart). y.jobs.queue) x.part_is ∙ ap (λ (s : QueueStand). s.jobs) x.stands ∙ ap (λ (b : Outbox). b.queue) x.lent.jobs ∙ sym (ap (λ (b : Inbox). b.queue) o.ran.served.worked.taken);
    ended = o.ran.ended f (omega (arith, front_low a, senders_many o));
    acks = λ box box_at.
        ap (λ (b : AckBox). b.queue) (o.ran.served.sent f x.first.acks box x.lent.answers box_at).same
        ∙ sym (ap (λ (y : FrontPart). y.acks.queue) x.part_is ∙ ap (λ (s : QueueStand). s.acks) x.stands);
    table = ap (λ (y : FrontPart). reader_home y.seat) x.part_is ∙ sym x.fits.whole.home ∙ ap (λ (s : QueueStand). s.table) x.stands ∙ ap (λ (b : AckBox). b.table) x.lent.acks
        ∙ sym o.ran.table;
  }

  abbrev hands : List (List FrontPart)
  hands = map hand_of news

  pub may_meet : MayMeetAll owners hands
  may_meet = record {
    fronts = λ p owner at. acks_many (owner_at p owner at) ∙ sym news_long ∙ sym (length-map news hand_of);
    many = λ f own at.
        let n = from_map hand_of news f own at in
        ap length (sym n.2) ∙ (front_at f n.0 n.1).hand_many ∙ sym owners_long;
    each = λ f p own part owner at part_is owner_is.
        let n = from_map hand_of news f own at in
        let a = front_at f n.0 n.1 in
        let o = owner_at p owner owner_is in
        may_meet_part a o part (part_at a o part (ap (λ l. slice_get l p) n.2 ∙ part_is));
  }

  -- each front was served at the end of its place
  run_fronts : RunFronts options batches runs (map end_of olds) (map end_of news)
  run_fronts = record {
    many_before = length-map olds end_of ∙ sym (AllZip-long _ olds news all.fronts_ran) ∙ sym (made_long run_of olds news all.fronts_ran);
    many_after = length-map news end_of ∙ sym (made_long run_of olds news all.fronts_ran);
    each = λ f run b e is b_at e_at.
        let n = front_of f run is in
        let a = n.1 in
        let one : facts a.old.end ≡ b = same_Some _ _ (sym (at_map end_of olds f a.old a.old_at) ∙ b_at) in
        let two : facts n.0.end ≡ e = same_Some _ _ (sym (at_map end_of news f n.0 a.at) ∙ e_at) in
        let own : a.ran.front.options ≡ options = ap (λ (v : QueueView). v.options) a.fresh in
        subst (λ (y : Options × FrontRun × EndFacts × EndFacts). RunsFront y.0 batches y.1 y.2 y.3) (λ i. (own i, n.2 i, one i, two i)) a.ran.ran.run;
  }

  module _ (after : List OwnerEnd) (met : HaveMetAll owners after hands) where
    -- an owner's history is its run
    history_run : {p : ℕ} {owner : OwnerEnd} → OwnerAt p owner → owner.state.history ≡ history_in (placed p)
    history_run o =
        ap (λ (s : OwnerState). s.history) o.ran.served.worked.gained ∙ (λ i. unwritten o i ++ history_of (sym (steps_placed o.ran.served.done) i)) ∙ ap history_in (sym o.placed_is)

    met_part : {f p : ℕ} {n : FrontTask D} {owner : OwnerEnd} (a : FrontAt f n) (o : OwnerAt p owner) (part : FrontPart) → PartAt a o part → HasMet f owner part
    met_part {f} {p} {n} {owner} a o part x = met.met f p n.parts.items part owner (at_map hand_of news f n a.at) x.at o.at

    taken_front : {f : ℕ} {n : FrontTask D} (a : FrontAt f n) → IsTakenIn options empty_origin placed f (run_of a.old n a.ran)
    taken_front {f} {n} a = record {
      starts = λ p low.
          let x = (part_of a (owner_of p low).1).1 in (
            told_by x.first,
            ap (λ (y : Option FrontPart). (session_or_none y).told) x.first_at,
            record { steps = ap (λ (b : AckBox). map step_by b.list) x.lent.acks; closed = ap (λ s. s.closed) x.lent.seat },
          );
      began = λ p low.
          let o = owner_of p low in
          let x = (part_of a o.1).1 in
          ap (λ (y : Option FrontPart). (session_or_none y).seen) x.first_at ∙ ap (λ (r : ReaderState). r.seen) x.lent.seat ∙ unwritten o.1;
      seen = λ p low.
          let o = owner_of p low in
          let x = part_of a o.1 in
          subst (λ (s : Session). IsPrefix s.seen (history_in (placed p))) (sym (ap session_or_none x.1.last_at))
          (subst (IsPrefix (reader_state x.1.last.seat).seen) (history_run o.1)
          (subst (λ (y : FrontPart). IsPrefix (reader_state y.seat).seen o.0.state.history) x.1.part_is (met_part a o.1 x.0 x.1).seen));
      took = λ p told low told_is.
          let o = owner_of p low in
          let x = part_of a o.1 in
          let box = element_at o.0.acks f (omega (arith, front_low a, acks_many o.1)) in
          let later = (met_part a o.1 x.0 x.1).begins box.0 box.1 in
          let sent = (o.1.ran.served.sent f x.1.first.acks box.0 x.1.lent.answers box.1).answers in
          let own : told_by x.1.last ≡ told = same_Some _ _ (sym (ap (λ (y : Option FrontPart). (session_or_none y).told) x.1.last_at) ∙ told_is) in
          let list : x.0.acks.list ≡ x.1.last.acks.list = ap (λ (y : FrontPart). y.acks.list) x.1.part_is in (
            map step_by later.0,
            ap (steps_by f) o.1.placed_is ∙ steps_answered f o.1.ran.served.done ∙ ap (map step_of) (sym sent)
                ∙ map-map step_of acknowledged_by box.0.list ∙ ap (map step_by) (later.1 ∙ ap (λ (l : List Ack). l ++ later.0) list)
                ∙ map-append step_by x.1.last.acks.list later.0 ∙ ap (λ (t : Told). t.steps ++ map step_by later.0) own,
          );
      sent =
          let total = subst (λ (m : ℕ). total_below m (λ p. length (steps_by f (placed p))) ≤ sum_by (λ (y : FrontPart). length y.jobs.sent) a.ran.ran.new.parts) a.new_many
          (total_few (λ p. length (steps_by f (placed p))) (λ (y : FrontPart). length y.jobs.sent) a.ran.ran.new.parts few_at) in
          let left : a.ran.front.left ≡ most = ap (λ (v : QueueView). v.left) a.fresh in
          let x = (part_of a (owner_of 0 (omega (arith, all.some))).1).1 in
          let whole : a.ran.ran.new.next + a.ran.ran.new.left ≡ most = sym x.fits.most ∙ ap (λ (s : QueueStand). s.most) x.stands ∙ ap (λ (b : Outbox). b.jobs) x.lent.jobs in
          omega (arith, total, left, whole, a.ran.ran.is.sent);
    }
      where
        -- no more of a front's jobs were done than it sent
        few_at : (p : ℕ) (last : FrontPart) → slice_get a.ran.ran.new.parts p ≡ Some last → length (steps_by f (placed p)) ≤ length last.jobs.sent
        few_at p last at =
            let o = owner_of p (omega (arith, slice_get_within a.ran.ran.new.parts p last at, a.new_many)) in
            let x = part_of a o.1 in
            let same : x.1.last ≡ last = same_Some _ _ (sym x.1.last_at ∙ at) in
            subst (λ (y : List Placed × FrontPart). length (steps_by f y.0) ≤ length y.1.jobs.sent) (λ i. (sym o.1.placed_is i, same i))
            (few_answered f o.1.ran.served.done o.0.jobs.taken x.1.last.jobs.sent a.ran.ran.new.number o.1.ran.served.worked.jobs
            ((met_part a o.1 x.0 x.1).whole ∙ ap (λ (y : FrontPart). y.jobs.sent) x.1.part_is))

    abbrev kept : List KeptSeat
    kept = map (λ (o : OwnerEnd). kept_seat_in o.state) after

    -- what is left of an owner after all meetings
    met_owner : (p : ℕ) (entry : KeptSeat) → slice_get kept p ≡ Some entry → (owner : OwnerEnd) × (new : OwnerEnd) × OwnerAt p owner × (entry ≡ kept_seat_in (met_after p hands owner new).state)
    met_owner p entry is =
        let new = from_map (λ (o : OwnerEnd). kept_seat_in o.state) after p entry is in
        let owner = element_at owners p (omega (arith, slice_get_within after p new.0 new.1, met.many)) in
        (owner.0, new.0, owner_at p owner.0 owner.1, sym new.2 ∙ ap (λ (o : OwnerEnd). kept_seat_in o.state) (met.same p owner.0 new.0 owner.1 new.1))

    taken : AreTakenIn alone options empty_origin runs kept
    taken = record {
      runs = placed;
      ran = subst (λ (n : ℕ). RunsPartitions options empty_origin n placed) (numbered (length runs)) (record {
        filled = λ p low. tt;
        run = λ p low.
            let o = (owner_of p low).1 in
            subst (λ (l : List Placed). IsRunFrom options [] (steps_in l)) (sym o.placed_is)
            (run_as options [] (steps_in (placed_in o.ran.served.done))
            (subst (λ (s : OwnerState). IsRunFrom (options_in s) s.history (steps_in (placed_in o.ran.served.done))) o.new.state
            (subst (IsRunFrom (options_in o.old.state) o.old.state.history) (sym (steps_placed o.ran.served.done)) o.ran.served.worked.run)));
        no_others = λ p low.
            let o = owner_of p low in
            let senders : o.1.old.jobs.senders ≡ length runs = senders_many o.1 ∙ sym news_long ∙ sym (made_long run_of olds news all.fronts_ran) in
            subst (λ (l : List Placed). All (λ s. s.front < length runs) l) (sym o.1.placed_is)
            (All-from_recursion (λ s. s.front < length runs) (placed_in o.1.ran.served.done)
            (all_low o.1.ran.served.done o.0.jobs.taken (length runs) o.1.ran.served.worked.jobs
            (subst (λ (m : ℕ). AllByRecursion (λ s. sender_of s < m) o.0.jobs.taken) senders
            (recursion_from_All (λ s. sender_of s < o.1.old.jobs.senders) o.0.jobs.taken o.1.ran.served.worked.low))));
      });
      before = λ f answers is. absurd (cc);
      each = λ f run is.
          let n = front_of f run is in
          subst (λ (k : ℕ). IsTakenIn options empty_origin placed k run) (numbered f) (subst (IsTakenIn options empty_origin placed f) n.2 (taken_front n.1));
      shapes = record {
        many = length-map after (λ (o : OwnerEnd). kept_seat_in o.state) ∙ met.many ∙ owners_long;
        shapes = λ p entry is.
            let m = met_owner p entry is in
            ap (λ (e : KeptSeat). e.shape) m.3 ∙ ap (λ (s : OwnerState). s.shape) m.2.ran.served.worked.gained ∙ ap (λ (s : OwnerState). s.shape) m.2.new.state;
      };
      history = λ p entry is. let m = met_owner p entry is in ap (λ (e : KeptSeat). e.history) m.3 ∙ history_run m.2;
      closed = λ p entry is.
          let m = met_owner p entry is in
          let none : m.0.state.closed ≡ 0 = ap (λ (s : OwnerState). s.closed) m.2.ran.served.worked.gained ∙ ap (λ (s : OwnerState). s.closed) m.2.new.state in
          omega (arith, ap (λ (e : KeptSeat). e.closed) m.3, none, all_closed p);
    }
      where
        -- no others come before these fronts
        numbered : (n : ℕ) → n ≡ length alone.answers + n
        numbered n = omega arith

        all_low : (done : List DoneJob) (messages : List Message) (n : ℕ) → map job_of done ≡ jobs_in messages → AllByRecursion (λ s. sender_of s < n) messages
            → AllByRecursion (λ s. s.front < n) (placed_in done)
        all_low [] [] n is low = tt
        all_low [] (message.End p ∷ messages) n is low = tt
        all_low [] (message.Job j ∷ messages) n is low = absurd (cc)
        all_low (it ∷ done) [] n is low = absurd (cc)
        all_low (it ∷ done) (message.End p ∷ messages) n is low = all_low (it ∷ done) messages n is low.1
        all_low (it ∷ done) (message.Job j ∷ messages) n is low =
            let head : job_of it ≡ j = cc in
            let rest : map job_of done ≡ jobs_in messages = cc in
            let front = ap (λ (x : Job). x.sender) head in
            (omega (arith, low.0, front), all_low done messages n rest low.1)

        closed_one : (p : ℕ) (o n : FrontTask D) (r : FrontRan batches facts o n) → closed_at p n.parts.items ≡ closed_in p (run_of o n r)
        closed_one p o n r = ap (λ l. closed_by (slice_get l p)) r.ran.ended ∙ ap closed_by (slice_get-map (ended_part r.ran.new.number) r.ran.new.parts p) ∙ by (slice_get r.ran.new.parts p)
          where
            by : (x : Option FrontPart) → closed_by (option_map (ended_part r.ran.new.number) x) ≡ closed_of (session_or_none x).told
            by None = refl
            by (Some part) = refl

        all_closed : (p : ℕ) → sum_by (closed_at p) hands ≡ sum_by (closed_in p) runs
        all_closed p =
            sym (sum-map (closed_at p) hands)
            ∙ ap sum (map-map (closed_at p) hand_of news ∙ made_map run_of (λ (t : FrontTask D). closed_at p t.parts.items) (closed_in p) (closed_one p) olds news all.fronts_ran)
            ∙ sum-map (closed_in p) runs

    -- the workers of a server ran, and their owners took in all fronts
    pub ran_all : RanAll alone options empty_origin batches kept (map (λ (t : FrontTask D). t.answer) news) (map end_of olds) (map end_of news)
    ran_all = record {
      fronts = runs;
      answers_are = made_map run_of (λ (t : FrontTask D). t.answer) (λ (r : FrontRun). r.answer) (λ o n r. refl) olds news all.fronts_ran;
      run = run_fronts;
      taken = taken;
    }
