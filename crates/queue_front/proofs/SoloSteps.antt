-- What a step of one partition makes of a front that is alone: its history alone gains.
use Rattle.std.proofs.Common.{◌≡◌, ℕ, zero, suc, ◌<◌, ◌≤◌, true, List, [], ◌∷◌, ◌++◌, length, map, slice_set, slice_index_or, refl, sym, ap, ◌∙◌, subst, arith}
use Rattle.std.specs.Prelude.{◌≢◌, Option}
use Rattle.std.proofs.Math.Seq.{map-set_same}
use Rattle.std.specs.List.{AllByRecursion}
use Rattle.std.proofs.lemmas.List.{append-nil, length-map, map-set}
use Rattle.partition_model.specs.declared.options.Options.{Options}
use Rattle.partition_model.specs.declared.write.Write.{Write}
use Rattle.partition_model.specs.declared.write.Outcome.{Outcome}
use Rattle.partition_model.specs.Write.{is_accepted}
use Rattle.partition_model.specs.declared.write.Answer.{Answer}
use Rattle.partition_model.specs.Answer.{IsAnswer}
use Rattle.partition_model.specs.History.{History, MayGive, stamp_of, answer_of}
use Rattle.partition_model.specs.Run.{RunStep, history_of}
use Rattle.partition_words.specs.declared.state.OwnerState.{OwnerState}
use Rattle.partition_words.specs.declared.shape.Shape.{Shape}
use Rattle.partition_words.specs.Shape.{shape_of, options_of}
use Rattle.partition_words.specs.OwnerState.{options_in, as_made}
use Rattle.partition_words.specs.OwnerStep.{IsOwnerStep}
use Rattle.partition_words.proofs.SameMachine.{same_may_give}
use Rattle.partition_words.proofs.StepGains.{step_gains}
use Rattle.fronts.specs.Session.{Session, Writes, ChangesOnly}
use Rattle.queue_front.specs.Solo.{Solo, StepsPartition, history_at, alone_with, sessions_in}
use Rattle.partition_model.proofs.Rises.{prefix_rises}
use Rattle.fronts.proofs.OneStep.{stamp_as, answer_as, replied_at, raised}

-- what a step makes of its owner's history, by the options
pub record Stepped (options : Options) (old new : OwnerState) (write : Write) (outcome : Outcome) : Type 0 where
  pub may : MayGive options old.history write outcome
  pub gained : (stamp : ℕ) → new.history ≡ old.history ++ history_of (record { write = write; outcome = outcome; stamp = stamp } ∷ [])
  pub shape : new.shape ≡ old.shape

pub stepped : (options : Options) (old new : OwnerState) (write : Write) (outcome : Outcome) → old.shape ≡ shape_of options → IsOwnerStep old new write outcome → Stepped options old new write outcome
stepped options old new write outcome shaped step = record {
  may = same_may_give options old.history write outcome (subst (λ s. MayGive (options_of s) old.history write outcome) shaped step.allowed);
  gained = λ stamp. ap (λ (o : OwnerState). o.history) (step_gains old new write outcome stamp step);
  shape = ap (λ (o : OwnerState). o.shape) (step_gains old new write outcome 0 step);
}

-- the history of a partition that was changed, and of another
pub history_set : (histories : List History) (p : ℕ) (history : History) → p < length histories → history_at (slice_set histories p history) p ≡ history
history_set [] p history lt = absurd (omega arith)
history_set (h ∷ histories) zero history lt = refl
history_set (h ∷ histories) (suc p) history lt = history_set histories p history (omega arith)

pub history_others : (histories : List History) (p q : ℕ) (history : History) → q ≢ p → history_at (slice_set histories p history) q ≡ history_at histories q
history_others [] p q history other = refl
history_others (h ∷ histories) zero zero history other = absurd (other refl)
history_others (h ∷ histories) zero (suc q) history other = refl
history_others (h ∷ histories) (suc p) zero history other = refl
history_others (h ∷ histories) (suc p) (suc q) history other = history_others histories p q history (λ e. other (ap suc e))

module _ {P : Type 0} (owner : P → OwnerState) where
  abbrev pub history_in : P → History
  history_in part = (owner part).history

  pub history_map : (parts : List P) (at : ℕ) (d : P) → at < length parts → history_at (map history_in parts) at ≡ history_in (slice_index_or parts at d)
  history_map [] at d lt = absurd (omega arith)
  history_map (part ∷ parts) zero d lt = refl
  history_map (part ∷ parts) (suc at) d lt = history_map parts at d (omega arith)

  -- partitions as made have no history
  pub none_made : (shape : Shape) (parts : List P) (p : ℕ) → AllByRecursion (λ part. owner part ≡ as_made shape) parts → history_at (map history_in parts) p ≡ []
  none_made shape [] p all = refl
  none_made shape (part ∷ parts) zero all = ap (λ (o : OwnerState). o.history) all.0
  none_made shape (part ∷ parts) (suc p) all = none_made shape parts p all.1

  -- one partition took a step, and was put back
  pub put_back : (options : Options) (parts : List P) (at : ℕ) (part new : P) (write : Write) (outcome : Outcome) (stamp : ℕ)
      → at < length parts → part ≡ slice_index_or parts at part → (owner (slice_index_or parts at part)).shape ≡ shape_of options
      → IsOwnerStep (owner part) (owner new) write outcome → stamp ≡ stamp_of (options_in (owner new)) (owner new).history
      → StepsPartition (record { options = options; histories = map history_in parts }) at (record { write = write; outcome = outcome; stamp = stamp })
      (record { options = options; histories = map history_in (slice_set parts at new) })
  put_back options parts at part new write outcome stamp below there shape step stamped =
      let shaped = ap (λ (p : P). (owner p).shape) there ∙ shape in
      let s = stepped options (owner part) (owner new) write outcome shaped step in
      let before : history_at (map history_in parts) at ≡ history_in part = history_map parts at part below ∙ ap history_in (sym there) in
      let gained : history_in new ≡ history_at (map history_in parts) at ++ history_of (record { write = write; outcome = outcome; stamp = stamp } ∷ []) =
      s.gained stamp ∙ ap (λ (h : History). h ++ history_of (record { write = write; outcome = outcome; stamp = stamp } ∷ [])) (sym before) in
      record {
        here = omega (arith, length-map parts history_in);
        may = subst (λ (h : History). MayGive options h write outcome) (sym before) s.may;
        stamped = stamped ∙ stamp_as options (owner new).shape (owner new).history (s.shape ∙ shaped) ∙ ap (stamp_of options) gained;
        gained = ap (λ (hs : List History). record { options = options; histories = hs })
            (map-set history_in parts at new ∙ ap (λ (h : History). slice_set (map history_in parts) at h) gained);
      }

  -- a partition answered, and was put back
  pub read_there : (options : Options) (parts : List P) (at p : ℕ) (part after : P) (key : List ℕ) (answer : Answer) (buffer : List ℕ) (stamp : ℕ)
      → at ≡ p → at < length parts → part ≡ slice_index_or parts at part → (owner (slice_index_or parts at part)).shape ≡ shape_of options → owner after ≡ owner part
      → IsAnswer answer buffer (answer_of (options_in (owner part)) (owner part).history key) → stamp ≡ stamp_of (options_in (owner after)) (owner after).history
      → IsAnswer answer buffer (answer_of options (history_at (map history_in parts) p) key) × (stamp ≡ stamp_of options (history_at (map history_in parts) p))
  read_there options parts at p part after key answer buffer stamp number below there shape same is stamped =
      let shaped = ap (λ (p : P). (owner p).shape) there ∙ shape in
      let here : history_in part ≡ history_at (map history_in parts) p =
      ap history_in there ∙ sym (history_map parts at part below) ∙ ap (history_at (map history_in parts)) number in (
        subst (λ (v : Option (List ℕ)). IsAnswer answer buffer v)
            (answer_as options (owner part).shape (owner part).history key shaped ∙ ap (λ (h : History). answer_of options h key) here) is,
        stamped ∙ ap (λ (o : OwnerState). stamp_of (options_in o) o.history) same ∙ stamp_as options (owner part).shape (owner part).history shaped ∙ ap (stamp_of options) here,
      )

  pub read_back : (parts : List P) (at : ℕ) (part after : P) → part ≡ slice_index_or parts at part → owner after ≡ owner part
      → map history_in (slice_set parts at after) ≡ map history_in parts
  read_back parts at part after there same = map-set_same history_in parts at after part (ap (λ (o : OwnerState). o.history) same ∙ ap history_in there)

module _ (old : Solo) (p : ℕ) (step : RunStep) (new : Solo) (h : StepsPartition old p step new) where
  before : History
  before = history_at old.histories p

  after : History
  after = before ++ history_of (step ∷ [])

  session : sessions_in new p ≡ alone_with old.options after
  unfolding before after
  session = ap (λ (s : Solo). alone_with s.options (history_at s.histories p)) h.gained ∙ ap (alone_with old.options) (history_set old.histories p _ h.here)

  grows : stamp_of old.options before ≤ step.stamp
  unfolding before after
  grows = omega (arith, h.stamped, prefix_rises old.options before (before ++ history_of (step ∷ [])) (history_of (step ∷ []), refl))

  -- the step is what a front that is alone answers
  pub writes_alone : Writes old.options true (sessions_in old p) step (sessions_in new p)
  unfolding before after
  writes_alone = subst (λ (s : Session). Writes old.options true (sessions_in old p) step s) (sym session) (record {
    grows = (history_of (step ∷ []), refl);
    cut = after;
    at = record { begins = ([], sym (append-nil after)); stamped = sym h.stamped };
    reply = replied_at old.options before step.write step.outcome (is_accepted step.outcome) h.may;
    done = (history_of (step ∷ []), refl);
    ended = ([], sym (append-nil after));
    order = grows;
    rises = λ accepted. let up = raised old.options before step.write (is_accepted step.outcome) accepted in omega (arith, up, h.stamped);
    last = sym h.stamped;
    alone = λ _. ((h.may, h.stamped, tt), refl);
    told = refl;
  })

  pub changes_only : ChangesOnly p (sessions_in old) (sessions_in new)
  changes_only q other = ap (λ (s : Solo). alone_with s.options (history_at s.histories q)) h.gained ∙ ap (alone_with old.options) (history_others old.histories p q _ other)
