-- What an owner makes of one message more.
use Rattle.std.proofs.Common.{◌≡◌, ◌≢◌, ℕ, ◌<◌, ◌≤◌, ◌==◌, inl, inr, List, [], ◌∷◌, ◌++◌, length, map, Some, None, get_or, slice_get, slice_set, length-set, refl, sym, ap, ◌∙◌, subst, arith, cond, append-nil, eq-eqb, ne_eqb}
use Rattle.std.specs.List.{All, cons_option}
use Rattle.std.proofs.lemmas.List.{map-append}
use Rattle.std.proofs.lemmas.List.Elements.{filter_map-append, filter-append, All-nil, All-same, All-push, All-weaker, recursion_from_All}
use Rattle.std.proofs.lemmas.Option.{slice_get_read}
use Rattle.list_laws.proofs.Places.{set_cases}
use Rattle.list_laws.proofs.AllElements.{All-after, All-before, all_at}
use Rattle.atomic_table.specs.Seated.{TableId}
use Rattle.partition_model.specs.declared.options.Options.{Options}
use Rattle.partition_model.specs.declared.write.Outcome.{Outcome}
use Rattle.partition_model.specs.declared.write.Write.{Write}
use Rattle.partition_model.specs.Write.{IsWrite, is_accepted}
use Rattle.partition_model.specs.History.{History, IsPrefix, MayGive, stamp_of}
use Rattle.partition_model.specs.Run.{RunStep, history_of}
use Rattle.partition_model.specs.ReplyAt.{IsReplyAt}
use Rattle.partition_words.specs.declared.shape.Shape.{Shape}
use Rattle.partition_words.specs.declared.state.OwnerState.{OwnerState}
use Rattle.partition_words.specs.declared.state.Phase.{Phase}
use Rattle.partition_words.specs.declared.state.Phase.TheVariants.{Idle}
use Rattle.partition_words.specs.declared.reader.ReaderState.{ReaderState}
use Rattle.partition_words.specs.Shape.{options_of}
use Rattle.partition_words.specs.Joins.{ended_in, lent}
use Rattle.partition_words.proofs.Prefixes.{prefix_same}
use Rattle.partition_table.specs.Seats.{note_state, note_home}
use Rattle.partition_model.proofs.Rises.{prefix_rises}
use Rattle.partition_words.specs.OwnerState.{options_in}
use Rattle.partition_words.specs.OwnerStep.{IsOwnerStep}
use Rattle.partition_words.proofs.StepGains.{step_gains}
use Rattle.owner_queue.specs.declared.ack.Ack.{Ack}
use Rattle.owner_queue.specs.declared.message.Job.{Job}
use Rattle.owner_queue.specs.declared.message.Message.{Message}
use Rattle.owner_queue.specs.declared.message.Message.TheVariants as kind
use Rattle.owner_queue.specs.Messages.{sender_of, ticket_of, sent_by, MayFollow}
use Rattle.owner_queue.specs.Acked.{IsAcked}
use Rattle.owner_queue.specs.AckOrder.{AckMayFollow}
use Rattle.owner_queue.specs.AckEnds.{AckBox, ack_box}
use Rattle.owner_queue.specs.JobEnds.{Inbox, inbox}
use Rattle.queue_front.specs.QueueFront.{acknowledged_by}
use Rattle.owner_queue.specs.Worked.{DoneJob, done_by, jobs_in, HasWorked}
use Rattle.queue_front.specs.OwnerWork.{answers_to, IsAckBoxOf, IsNewAckBox, IsSent, HasDone, HasAnsweredJobs}
use Rattle.owner_queue.proofs.Worked.{worked_none, worked_end, worked_job}
use Rattle.fronts.proofs.OneStep.{replied_at, raised}

-- the acknowledgements to a front: those of its jobs, whose tickets nothing bounds but what bounds those of its messages
pub record AckedTo (home : TableId) (owner : OwnerState) (front : ℕ) (taken : List Message) (box : AckBox) : Type 0 where
  pub of : IsAckBoxOf home owner box
  pub below : (bound : ℕ) → All (λ m. ticket_of m < bound) (sent_by front taken) → All (λ a. a.ticket < bound) box.list

-- what was done until now
pub record IsServing (home now_home : TableId) (old new : OwnerState) (from to : Inbox) (before after : List AckBox) : Type 0 where
  pub home_is : now_home ≡ home
  pub served : HasAnsweredJobs old new from to before after
  pub each : (front : ℕ) (box : AckBox) → slice_get after front ≡ Some box → AckedTo home new front to.taken box

-- nothing was done yet
pub serves_none : (home : TableId) (o : OwnerState) (from : Inbox) (boxes : List AckBox) → from.taken ≡ [] → All (IsNewAckBox home o) boxes → IsServing home home o o from from boxes boxes
serves_none home o from boxes fresh new = record {
  home_is = refl;
  served = record {
    done = [];
    worked = subst (λ l. HasWorked o o from from l []) (sym fresh) (worked_none o from);
    fronts = refl;
    sent = λ front was box at at'.
        let same : was ≡ box = cc in
        record {
          same = ap (λ (b : AckBox). ack_box b.queue b.table b.shape box.list) (sym same);
          answers = ap (map acknowledged_by) (new_at front box at').none;
        };
  };
  each = λ front box at.
      let it = new_at front box at in
      record {
        of = record {
          table = it.table;
          shape = it.shape;
          stamps = All-same (λ a. a.stamp ≤ stamp_of (options_in o) o.history) box.list [] it.none (All-nil (λ a. a.stamp ≤ stamp_of (options_in o) o.history));
        };
        below = λ bound all. All-same (λ a. a.ticket < bound) box.list [] it.none (All-nil (λ a. a.ticket < bound));
      };
}
  where
    new_at : (front : ℕ) (box : AckBox) → slice_get boxes front ≡ Some box → IsNewAckBox home o box
    new_at front box at = all_at (IsNewAckBox home o) boxes front box (recursion_from_All (IsNewAckBox home o) boxes new) at

module _ {home now_home : TableId} {old mid : OwnerState} {from now to : Inbox} {before after : List AckBox} (m : Message)
    (so_far : IsServing home now_home old mid from now before after)
    (is : to ≡ inbox now.queue now.senders now.jobs (now.taken ++ m ∷ [])) (low : sender_of m < now.senders) where
  taken_is : to.taken ≡ now.taken ++ m ∷ []
  taken_is = ap (λ (i : Inbox). i.taken) is

  low_is : sender_of m < from.senders
  low_is = subst (λ n. sender_of m < n) (ap (λ (i : Inbox). i.senders) so_far.served.worked.taken) low

  -- what was worked with the message is what was worked in all
  worked_to : {new : OwnerState} {done : List DoneJob} → HasWorked old new from to (now.taken ++ m ∷ []) done → HasWorked old new from to to.taken done
  worked_to {new = new} {done = done} it = subst (λ l. HasWorked old new from to l done) (sym taken_is) it

  sent_more : (front : ℕ) → sent_by front to.taken ≡ sent_by front now.taken ++ sent_by front (m ∷ [])
  sent_more front = ap (sent_by front) taken_is ∙ filter-append (λ x. sender_of x == front) now.taken (m ∷ [])

  below_still : (front : ℕ) (box : AckBox) → AckedTo home mid front now.taken box → (bound : ℕ) → All (λ x. ticket_of x < bound) (sent_by front to.taken) → All (λ a. a.ticket < bound) box.list
  below_still front box it bound all = it.below bound (All-before (λ x. ticket_of x < bound) (sent_by front now.taken) (sent_by front (m ∷ [])) (subst (All (λ x. ticket_of x < bound)) (sent_more front) all))

  pub serves_end : jobs_in (m ∷ []) ≡ [] → IsServing home now_home old mid from to before after
  serves_end none = record {
    home_is = so_far.home_is;
    served = record {
      done = so_far.served.done;
      worked = worked_to (worked_end m so_far.served.worked is low none);
      fronts = so_far.served.fronts;
      sent = so_far.served.sent;
    };
    each = λ front box at. let it = so_far.each front box at in record { of = it.of; below = below_still front box it };
  }

  pub front_below : {job : Job} → m ≡ kind.Job job → length before ≡ from.senders → job.sender < length after
  front_below job_is fronts = omega (arith, ap sender_of job_is, low_is, fronts, so_far.served.fronts)

  pub box_there : {job : Job} {box : AckBox} → m ≡ kind.Job job → length before ≡ from.senders → box ≡ get_or after job.sender box → slice_get after job.sender ≡ Some box
  box_there {job = job} {box = box} job_is fronts read = slice_get_read after (length after) job.sender box refl (front_below job_is fronts) read

  pub job_fits : {job : Job} → m ≡ kind.Job job → MayFollow now.jobs (sent_by (sender_of m) now.taken) m → IsWrite job.write
  job_fits job_is may = (subst (λ (x : Message). MayFollow now.jobs (sent_by (sender_of x) now.taken) x) job_is may).fit

  module _ {job : Job} {box : AckBox} (job_is : m ≡ kind.Job job) (there : slice_get after job.sender ≡ Some box) where
    here : AckedTo home mid job.sender now.taken box
    here = so_far.each job.sender box there

    pub box_of : IsAckBoxOf now_home mid box
    box_of = subst (λ (h : TableId). IsAckBoxOf h mid box) (sym so_far.home_is) here.of

    pub ticket_above : MayFollow now.jobs (sent_by (sender_of m) now.taken) m → All (λ a. a.ticket < job.ticket) box.list
    ticket_above may = here.below job.ticket ((subst (λ (x : Message). MayFollow now.jobs (sent_by (sender_of x) now.taken) x) job_is may).rises refl)

    module _ {new_home : TableId} {new : OwnerState} {sent : AckBox} (did : HasDone now_home new_home mid new job box sent) where
      abbrev one : DoneJob
      one = done_by job did.ack.outcome did.ack.stamp

      abbrev step : RunStep
      step = one.answer.step

      abbrev so : List DoneJob
      so = so_far.served.done

      gains : new ≡ record mid { words = new.words; history = mid.history ++ history_of (step ∷ []) }
      gains = step_gains mid new job.write did.ack.outcome did.ack.stamp did.step

      new_options : options_in new ≡ options_in mid
      new_options = ap options_in gains

      new_history : new.history ≡ mid.history ++ history_of (step ∷ [])
      new_history = ap (λ (o : OwnerState). o.history) gains

      answers_more : (front : ℕ) → answers_to front (so ++ one ∷ []) ≡ answers_to front so ++ answers_to front (one ∷ [])
      answers_more front = filter_map-append (λ (it : DoneJob). cond (it.sender == front) (Some it.answer) None) so (one ∷ [])

      own_answer : answers_to job.sender (one ∷ []) ≡ one.answer ∷ []
      own_answer = ap (λ b. cons_option (cond b (Some one.answer) None) []) (eq-eqb job.sender job.sender refl)

      other_answer : (front : ℕ) → job.sender ≢ front → answers_to front (one ∷ []) ≡ []
      other_answer front other = ap (λ b. cons_option (cond b (Some one.answer) None) []) (ne_eqb job.sender front other)

      ack_is : acknowledged_by did.ack ≡ one.answer
      ack_is = λ i. record { ticket = did.ticket i; step = record { write = did.write i; outcome = did.ack.outcome; stamp = did.ack.stamp } }

      list_is : sent.list ≡ box.list ++ did.ack ∷ []
      list_is = ap (λ (b : AckBox). b.list) did.sent

      sent_here : (was : AckBox) → slice_get before job.sender ≡ Some was → IsSent job.sender (so ++ one ∷ []) was sent
      sent_here was at =
          let it = so_far.served.sent job.sender was box at there in
          record {
            same = did.sent ∙ ap (λ (b : AckBox). ack_box b.queue b.table b.shape (box.list ++ did.ack ∷ [])) it.same ∙ ap (ack_box was.queue was.table was.shape) (sym list_is);
            answers = ap (map acknowledged_by) list_is ∙ map-append acknowledged_by box.list (did.ack ∷ [])
                ∙ (λ i. it.answers i ++ ack_is i ∷ []) ∙ sym (answers_more job.sender ∙ ap (λ l. answers_to job.sender so ++ l) own_answer);
          }

      sent_there : (front : ℕ) (was other : AckBox) → job.sender ≢ front → IsSent front so was other → IsSent front (so ++ one ∷ []) was other
      sent_there front was other differs it = record {
        same = it.same;
        answers = it.answers ∙ sym (answers_more front ∙ ap (λ l. answers_to front so ++ l) (other_answer front differs) ∙ append-nil (answers_to front so));
      }

      up : stamp_of (options_in mid) mid.history ≤ stamp_of (options_in new) new.history
      up =
          let more = prefix_rises (options_in mid) mid.history (mid.history ++ history_of (step ∷ [])) (history_of (step ∷ []), refl) in
          let same = ap (λ (y : Options × History). stamp_of y.0 y.1) (λ i. (new_options i, new_history i)) in
          omega arith

      shape_is : new.shape ≡ mid.shape
      shape_is = ap (λ (o : OwnerState). o.shape) gains

      no_above : (b : AckBox) → IsAckBoxOf home mid b → All (λ a. a.stamp ≤ stamp_of (options_in new) new.history) b.list
      no_above b it = All-weaker (λ a. a.stamp ≤ stamp_of (options_in mid) mid.history) (λ a. a.stamp ≤ stamp_of (options_in new) new.history) (λ a le. omega (arith, up, le)) b.list it.stamps

      each_here : AckedTo home new job.sender to.taken sent
      each_here = record {
        of = record {
          table = ap (λ (b : AckBox). b.table) did.sent ∙ here.of.table;
          shape = ap (λ (b : AckBox). b.shape) did.sent ∙ here.of.shape ∙ sym shape_is;
          stamps = All-same (λ a. a.stamp ≤ stamp_of (options_in new) new.history) sent.list (box.list ++ did.ack ∷ []) list_is
              (All-push (λ a. a.stamp ≤ stamp_of (options_in new) new.history) box.list did.ack (no_above box here.of) (omega (arith, did.stamped)));
        };
        below = λ bound all.
            let last = All-after (λ x. ticket_of x < bound) (sent_by job.sender now.taken) m (subst (All (λ x. ticket_of x < bound)) (sent_more job.sender ∙ ap (λ l. sent_by job.sender now.taken ++ l) own_message) all) in
            let ticket = ap ticket_of job_is in
            All-same (λ a. a.ticket < bound) sent.list (box.list ++ did.ack ∷ []) list_is
            (All-push (λ a. a.ticket < bound) box.list did.ack (below_still job.sender box here bound all) (omega (arith, last, ticket, did.ticket)));
      }
        where
          own_message : sent_by job.sender (m ∷ []) ≡ m ∷ []
          own_message = ap (λ b. cond b (m ∷ []) []) (eq-eqb (sender_of m) job.sender (ap sender_of job_is))

      each_there : (front : ℕ) (other : AckBox) → AckedTo home mid front now.taken other → AckedTo home new front to.taken other
      each_there front other it = record {
        of = record { table = it.of.table; shape = it.of.shape ∙ sym shape_is; stamps = no_above other it.of };
        below = below_still front other it;
      }

      pub serves_job : IsServing home new_home old new from to before (slice_set after job.sender sent)
      serves_job = record {
        home_is = did.home ∙ so_far.home_is;
        served = record {
          done = so ++ one ∷ [];
          worked = worked_to (worked_job m so_far.served.worked is low job job_is new did.ack.outcome did.ack.stamp did.step did.stamped);
          fronts = length-set after job.sender sent ∙ so_far.served.fronts;
          sent = λ front was other at at'.
              elim (set_cases after job.sender sent front other at') as (λ _. IsSent front (so ++ one ∷ []) was other) [
                | inl same ↦ subst (λ (y : ℕ × AckBox). IsSent y.0 (so ++ one ∷ []) was y.1) (λ i. (same.0 i, same.1 i)) (sent_here was (ap (slice_get before) same.0 ∙ at))
                | inr differs ↦ sent_there front was other differs.0 (so_far.served.sent front was other at differs.1)
              ];
        };
        each = λ front other at.
            elim (set_cases after job.sender sent front other at) as (λ _. AckedTo home new front to.taken other) [
              | inl same ↦ subst (λ (y : ℕ × AckBox). AckedTo home new y.0 to.taken y.1) (λ i. (same.0 i, same.1 i)) each_here
              | inr differs ↦ each_there front other (so_far.each front other differs.1)
            ];
      }

-- The acknowledgement of one step

module _ (mid new : OwnerState) (write : Write) (outcome : Outcome) (stamp : ℕ) (step : IsOwnerStep mid new write outcome) (stamped : stamp ≡ stamp_of (options_in new) new.history) where
  abbrev step_is : RunStep
  step_is = record { write = write; outcome = outcome; stamp = stamp }

  gained : new ≡ record mid { words = new.words; history = mid.history ++ history_of (step_is ∷ []) }
  gained = step_gains mid new write outcome stamp step

  same_shape : new.shape ≡ mid.shape
  same_shape = ap (λ (o : OwnerState). o.shape) gained

  stamp_is : stamp ≡ stamp_of (options_in mid) (mid.history ++ history_of (step_is ∷ []))
  stamp_is = stamped ∙ ap (λ (y : Shape × History). stamp_of (options_of y.0) y.1) (λ i. (same_shape i, ap (λ (o : OwnerState). o.history) gained i))

  may : MayGive (options_in new) mid.history write outcome
  may = subst (λ (s : Shape). MayGive (options_of s) mid.history write outcome) (sym same_shape) step.allowed

  pub step_acked : (note : ReaderState) → note ≡ lent new → new.phase ≡ Idle → IsAcked note write outcome stamp
  step_acked note is idle = subst (λ (r : ReaderState). IsAcked r write outcome stamp) (sym is) (record {
    cut = new.history;
    is_cut = record { begins = prefix_same new.history; stamped = sym stamped };
    ended = subst (λ (p : Phase). IsPrefix new.history (ended_in p new.history)) (sym idle) (prefix_same new.history);
    reply = subst (λ (h : History). IsReplyAt (is_accepted outcome) (options_in new) h write outcome) (sym (ap (λ (o : OwnerState). o.history) gained))
        (replied_at (options_in new) mid.history write outcome (is_accepted outcome) may);
  })

  stamp_no_less : stamp_of (options_in mid) mid.history ≤ stamp
  stamp_no_less = let more = prefix_rises (options_in mid) mid.history (mid.history ++ history_of (step_is ∷ [])) (history_of (step_is ∷ []), refl) in omega (arith, more, stamp_is)

  pub ack_may_follow : (home : TableId) (box : AckBox) (ack : Ack) → IsAckBoxOf home mid box → All (λ a. a.ticket < ack.ticket) box.list
      → note_home ack.note ≡ home → note_state ack.note ≡ lent new → ack.outcome ≡ outcome → ack.stamp ≡ stamp → AckMayFollow box.table box.shape box.list ack
  ack_may_follow home box ack of above at_home noted outcome_is same_stamp = record {
    note = at_home ∙ sym of.table;
    same = ap (λ (r : ReaderState). r.shape) noted ∙ same_shape ∙ sym of.shape;
    ticket = above;
    stamp = All-weaker (λ a. a.stamp ≤ stamp_of (options_in mid) mid.history) (λ a. a.stamp ≤ ack.stamp) (λ a le. omega (arith, le, stamp_no_less, same_stamp)) box.list of.stamps;
    accepted = λ yes.
        let up = raised (options_in mid) mid.history write (is_accepted outcome) (ap is_accepted (sym outcome_is) ∙ yes) in
        All-weaker (λ a. a.stamp ≤ stamp_of (options_in mid) mid.history) (λ a. a.stamp < ack.stamp) (λ a le. omega (arith, le, up, stamp_is, same_stamp)) box.list of.stamps;
  }
