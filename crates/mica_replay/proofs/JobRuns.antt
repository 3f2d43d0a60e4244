-- What an owner replies to one message more.
use Rattle.std.proofs.Common.{◌≡◌, ℕ, ◌+◌, ◌-◌, ◌*◌, ◌<◌, ◌≤◌, List, [], ◌∷◌, ◌++◌, length, map, refl, sym, ap, ◌∙◌, subst, arith, append-nil, append_assoc}
use Rattle.std.specs.List.{All}
use Rattle.std.proofs.lemmas.List.{length_push, length-map, map-append}
use Rattle.std.proofs.lemmas.List.Elements.{filter_map-append, recursion_from_All}
use Rattle.partition_model.specs.declared.write.Write.{Write}
use Rattle.partition_model.specs.declared.write.Outcome.{Outcome}
use Rattle.partition_model.specs.History.{stamp_of}
use Rattle.partition_model.specs.Run.{RunStep, history_of, IsRunFrom}
use Rattle.partition_words.specs.declared.state.OwnerState.{OwnerState}
use Rattle.partition_words.specs.OwnerState.{options_in}
use Rattle.partition_words.specs.OwnerStep.{IsOwnerStep}
use Rattle.owner_queue.specs.declared.message.Job.{Job}
use Rattle.owner_queue.specs.declared.message.Message.{Message}
use Rattle.owner_queue.specs.declared.message.Message.TheVariants as kind
use Rattle.owner_queue.specs.Messages.{sender_of, sent_by, MayFollow}
use Rattle.owner_queue.specs.JobEnds.{Inbox, inbox}
use Rattle.owner_queue.specs.Worked.{DoneJob, done_by, job_of, job_in, jobs_in, steps_of}
use Rattle.owner_queue.proofs.Counting.{AreCounted, none_counted, one_counted, few_jobs}
use Rattle.owner_queue.proofs.OnlySender.{all_sent_by}
use Rattle.owner_queue.proofs.Worked.{worked_none, worked_end, worked_job}
use Rattle.mica_replay.specs.Replies.{Reply, Replies, replies_with, reply_of, steps_with, HasWritten}
use Rattle.mica_replay.specs.JobReplies.{RepliesToJobs}

-- what was replied until now, and to how many jobs
pub record HasTakenJobs (old new : OwnerState) (from to : Inbox) (before after : Replies) (call : ℕ) : Type 0 where
  pub replied : RepliesToJobs old new from to before after
  pub counted : AreCounted from.senders from.jobs from.taken replied.messages
  pub calls : call ≡ length replied.done

pub fed_none : (o : OwnerState) (from : Inbox) (out : Replies) → HasTakenJobs o o from from out out 0
fed_none o from out = record {
  replied = record { messages = []; done = []; worked = worked_none o from; list = sym (append-nil out.list); room = omega arith };
  counted = none_counted from.senders from.jobs from.taken;
  calls = refl;
}

module _ (old mid : OwnerState) (from now to : Inbox) (before out : Replies) (call : ℕ) (m : Message) (so_far : HasTakenJobs old mid from now before out call)
    (is : to ≡ inbox now.queue now.senders now.jobs (now.taken ++ m ∷ [])) (low : sender_of m < now.senders) (may : MayFollow now.jobs (sent_by (sender_of m) now.taken) m) where
  abbrev messages : List Message
  messages = so_far.replied.messages

  abbrev done : List DoneJob
  done = so_far.replied.done

  counted_more : AreCounted from.senders from.jobs from.taken (messages ++ m ∷ [])
  counted_more =
      let taken_now = so_far.replied.worked.taken in
      one_counted from.senders from.jobs from.taken messages m so_far.counted (subst (λ (x : Inbox). sender_of m < x.senders) taken_now low)
      (subst (λ (x : Inbox). MayFollow x.jobs (sent_by (sender_of m) x.taken) m) taken_now may)

  pub fed_end : jobs_in (m ∷ []) ≡ [] → HasTakenJobs old mid from to before out call
  fed_end none = record {
    replied = record { messages = messages ++ m ∷ []; done = done; worked = worked_end m so_far.replied.worked is low none; list = so_far.replied.list; room = so_far.replied.room };
    counted = counted_more;
    calls = so_far.calls;
  }

  module _ (job : Job) (job_is : m ≡ kind.Job job) (room : from.senders * from.jobs ≤ before.spare) where
    count_more : length done + 1 ≤ before.spare
    count_more =
        let few = few_jobs from.senders from.jobs from.taken (messages ++ m ∷ []) counted_more in
        let more = ap length (filter_map-append job_in messages (m ∷ []) ∙ ap (λ (x : Message). jobs_in messages ++ jobs_in (x ∷ [])) job_is) ∙ length_push (jobs_in messages) job in
        omega (arith, few, more, ap length so_far.replied.worked.jobs, length-map done job_of, room)

    pub fed_room : 0 < out.spare
    fed_room = omega (arith, so_far.replied.room, count_more)

    pub fed_calls : call + 1 ≤ before.spare
    fed_calls = omega (arith, so_far.calls, count_more)

    pub fed_job : (new : OwnerState) (after : Replies) (outcome : Outcome) (stamp : ℕ) → IsOwnerStep mid new job.write outcome → stamp ≡ stamp_of (options_in new) new.history
        → after ≡ replies_with (out.list ++ (outcome, stamp) ∷ []) (out.spare - 1) → HasTakenJobs old new from to before after (call + 1)
    fed_job new after outcome stamp step stamped pushed =
        let one = done_by job outcome stamp in
        record {
          replied = record {
            messages = messages ++ m ∷ [];
            done = done ++ one ∷ [];
            worked = worked_job m so_far.replied.worked is low job job_is new outcome stamp step stamped;
            list = ap (λ (r : Replies). r.list) pushed ∙ ap (λ l. l ++ (outcome, stamp) ∷ []) so_far.replied.list ∙ append_assoc before.list (map reply_of done) ((outcome, stamp) ∷ [])
                ∙ ap (λ l. before.list ++ l) (sym (map-append reply_of done (one ∷ [])));
            room = omega (arith, ap (λ (r : Replies). r.spare) pushed, so_far.replied.room, fed_room, length_push done one);
          };
          counted = counted_more;
          calls = ap (λ n. n + 1) so_far.calls ∙ sym (length_push done one);
        }

-- the writes of the jobs that were done, with the replies to them, are the machine's steps
steps_done : (done : List DoneJob) → steps_with (map (λ (j : Job). j.write) (map job_of done)) (map reply_of done) ≡ steps_of done
steps_done [] = refl
steps_done (it ∷ done) = ap (λ l. it.answer.step ∷ l) (steps_done done)

-- An owner that took all that the one sender of a fresh queue sent ran the writes of these messages.
pub ran_all : (old new : OwnerState) (from to : Inbox) (before after : Replies) (sent : List Message) → from.taken ≡ [] → from.senders ≡ 1 → before.list ≡ [] → RepliesToJobs old new from to before after
    → sent_by 0 to.taken ≡ sent → HasWritten old new (map (λ (j : Job). j.write) (jobs_in sent)) after.list
ran_all old new from to before after sent fresh one none replied whole =
    let taken : to.taken ≡ replied.messages = ap (λ i. i.taken) replied.worked.taken ∙ ap (λ l. l ++ replied.messages) fresh in
    let low = recursion_from_All (λ m. sender_of m < 1) replied.messages (subst (λ (n : ℕ). All (λ m. sender_of m < n) replied.messages) one replied.worked.low) in
    let all : replied.messages ≡ sent = sym (all_sent_by replied.messages low) ∙ ap (sent_by 0) (sym taken) ∙ whole in
    let writes = ap (map (λ (j : Job). j.write)) (replied.worked.jobs ∙ ap jobs_in all) in
    let replies = sym (replied.list ∙ ap (λ l. l ++ map reply_of replied.done) none) in
    let steps = sym (steps_done replied.done) in
    let written : HasWritten old new (map (λ (j : Job). j.write) (map job_of replied.done)) (map reply_of replied.done) = record {
      many = length-map replied.done reply_of ∙ sym (length-map (map job_of replied.done) (λ (j : Job). j.write) ∙ length-map replied.done job_of);
      run = subst (IsRunFrom (options_in old) old.history) steps replied.worked.run;
      gained = replied.worked.gained ∙ ap (λ (l : List RunStep). record old { words = new.words; history = old.history ++ history_of l }) steps;
    } in
    subst (λ (y : List Write × List Reply). HasWritten old new y.0 y.1) (λ i. (writes i, replies i)) written
