-- What an owner has worked with one message more.
use Rattle.std.proofs.Common.{◌≡◌, ℕ, ◌<◌, List, [], ◌∷◌, ◌++◌, refl, sym, ap, ◌∙◌, subst, append-nil, append_assoc}
use Rattle.std.specs.List.{All}
use Rattle.std.proofs.lemmas.List.{map-append}
use Rattle.std.proofs.lemmas.List.Elements.{filter_map-append, All-nil, All-push}
use Rattle.partition_model.specs.declared.options.Options.{Options}
use Rattle.partition_model.specs.declared.write.Outcome.{Outcome}
use Rattle.partition_model.specs.History.{History, MayGive, stamp_of}
use Rattle.partition_model.specs.Run.{RunStep, history_of, IsRunFrom}
use Rattle.partition_model.proofs.Runs.{history-append, run-append}
use Rattle.partition_words.specs.declared.state.OwnerState.{OwnerState}
use Rattle.partition_words.specs.OwnerState.{options_in}
use Rattle.partition_words.specs.OwnerStep.{IsOwnerStep}
use Rattle.partition_words.proofs.StepGains.{step_gains}
use Rattle.owner_queue.specs.declared.message.Job.{Job}
use Rattle.owner_queue.specs.declared.message.Message.{Message}
use Rattle.owner_queue.specs.declared.message.Message.TheVariants as kind
use Rattle.owner_queue.specs.Messages.{sender_of}
use Rattle.owner_queue.specs.JobEnds.{Inbox, inbox}
use Rattle.owner_queue.specs.Worked.{DoneJob, done_by, job_of, job_in, jobs_in, steps_of, HasWorked}

pub worked_none : (o : OwnerState) (from : Inbox) → HasWorked o o from from [] []
worked_none o from = record {
  taken = ap (λ (l : List Message). inbox from.queue from.senders from.jobs l) (sym (append-nil from.taken));
  low = All-nil (λ m. sender_of m < from.senders);
  jobs = refl;
  run = tt;
  gained = ap (λ (h : History). record o { history = h }) (sym (append-nil o.history));
}

module _ {old mid : OwnerState} {from now to : Inbox} {messages : List Message} {done : List DoneJob} (m : Message) (so_far : HasWorked old mid from now messages done)
    (is : to ≡ inbox now.queue now.senders now.jobs (now.taken ++ m ∷ [])) (low : sender_of m < now.senders) where
  taken_more : to ≡ inbox from.queue from.senders from.jobs (from.taken ++ (messages ++ m ∷ []))
  taken_more =
      is ∙ ap (λ (x : Inbox). inbox x.queue x.senders x.jobs (x.taken ++ m ∷ [])) so_far.taken
      ∙ ap (λ (l : List Message). inbox from.queue from.senders from.jobs l) (append_assoc from.taken messages (m ∷ []))

  low_more : All (λ x. sender_of x < from.senders) (messages ++ m ∷ [])
  low_more = All-push (λ x. sender_of x < from.senders) messages m so_far.low (subst (λ (x : Inbox). sender_of m < x.senders) so_far.taken low)

  jobs_more : jobs_in (messages ++ m ∷ []) ≡ jobs_in messages ++ jobs_in (m ∷ [])
  jobs_more = filter_map-append job_in messages (m ∷ [])

  pub worked_end : jobs_in (m ∷ []) ≡ [] → HasWorked old mid from to (messages ++ m ∷ []) done
  worked_end none = record {
    taken = taken_more;
    low = low_more;
    jobs = so_far.jobs ∙ sym (jobs_more ∙ ap (λ l. jobs_in messages ++ l) none ∙ append-nil (jobs_in messages));
    run = so_far.run;
    gained = so_far.gained;
  }

  module _ (job : Job) (job_is : m ≡ kind.Job job) (new : OwnerState) (outcome : Outcome) (stamp : ℕ) (step : IsOwnerStep mid new job.write outcome) (stamped : stamp ≡ stamp_of (options_in new) new.history) where
    abbrev one : DoneJob
    one = done_by job outcome stamp

    abbrev steps : List RunStep
    steps = steps_of done

    gains : new ≡ record mid { words = new.words; history = mid.history ++ history_of (one.answer.step ∷ []) }
    gains = step_gains mid new job.write outcome stamp step

    mid_history : mid.history ≡ old.history ++ history_of steps
    mid_history = ap (λ (o : OwnerState). o.history) so_far.gained

    mid_options : options_in mid ≡ options_in old
    mid_options = ap options_in so_far.gained

    new_history : new.history ≡ (old.history ++ history_of steps) ++ history_of (one.answer.step ∷ [])
    new_history = ap (λ (o : OwnerState). o.history) gains ∙ ap (λ h. h ++ history_of (one.answer.step ∷ [])) mid_history

    steps_more : steps_of (done ++ one ∷ []) ≡ steps ++ one.answer.step ∷ []
    steps_more = map-append (λ (it : DoneJob). it.answer.step) done (one ∷ [])

    may : MayGive (options_in old) (old.history ++ history_of steps) job.write outcome
    may = subst (λ (y : Options × History). MayGive y.0 y.1 job.write outcome) (λ i. (mid_options i, mid_history i)) step.allowed

    stamp_is : stamp ≡ stamp_of (options_in old) ((old.history ++ history_of steps) ++ history_of (one.answer.step ∷ []))
    stamp_is = stamped ∙ ap (λ (y : Options × History). stamp_of y.0 y.1) (λ i. ((ap options_in gains ∙ mid_options) i, new_history i))

    pub worked_job : HasWorked old new from to (messages ++ m ∷ []) (done ++ one ∷ [])
    worked_job = record {
      taken = taken_more;
      low = low_more;
      jobs = map-append job_of done (one ∷ []) ∙ (λ i. so_far.jobs i ++ job ∷ []) ∙ sym (jobs_more ∙ ap (λ (x : Message). jobs_in messages ++ jobs_in (x ∷ [])) job_is);
      run = subst (IsRunFrom (options_in old) old.history) (sym steps_more) (run-append (options_in old) old.history steps (one.answer.step ∷ []) so_far.run (may, stamp_is, tt));
      gained = gains ∙ ap (λ (o : OwnerState). record o { words = new.words; history = o.history ++ history_of (one.answer.step ∷ []) }) so_far.gained
          ∙ ap (λ (h : History). record old { words = new.words; history = h })
          (append_assoc old.history (history_of steps) (history_of (one.answer.step ∷ [])) ∙ ap (λ h. old.history ++ h) (sym (history-append steps (one.answer.step ∷ [])) ∙ ap history_of (sym steps_more)));
    }
