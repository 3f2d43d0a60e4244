-- The jobs of a round stand in an order that their senders may send them in.
use Rattle.std.proofs.Common.{◌≡◌, ℕ, suc, ◌+◌, ◌<◌, ◌≤◌, ◌==◌, List, [], ◌∷◌, ◌++◌, length, map, filter, slice_get, Some, refl, sym, ap, ◌∙◌, subst, arith, cond, false, eq-eqb, length-append, ⊎_elim}
use Rattle.std.specs.List.{list_any, AllByRecursion}
use Rattle.std.specs.Vec.Iter.{into_iter_items}
use Rattle.std.proofs.lemmas.List.{map-append, length-map}
use Rattle.std.proofs.lemmas.Bool.{cases_lt}
use Rattle.std.proofs.lemmas.List.Elements.{filter-append, All-from_recursion}
use Rattle.list_laws.proofs.Places.{element_at, at_map}
use Rattle.partition_model.specs.declared.write.Write.{Write}
use Rattle.partition_model.specs.Write.{IsWrite}
use Rattle.owner_queue.specs.declared.message.Job.{Job}
use Rattle.owner_queue.specs.declared.message.Message.{Message}
use Rattle.owner_queue.specs.declared.message.Message.TheVariants as kind
use Rattle.owner_queue.specs.Messages.{sender_of, ticket_of, is_end, IsFit}
use Rattle.owner_queue.specs.Worked.{jobs_in}
use Rattle.owner_queue.specs.JobEnds.{Outbox, outbox}
use Rattle.mica_replay.specs.declared.feeder.Feed.{Feed}
use Rattle.mica_replay.specs.declared.feeder.Feeder.{Feeder}
use Rattle.mica_replay.specs.Feeds.{jobs_for, writes_for, IsReadyFeeder}
use Rattle.mica_replay.specs.RoundJobs.{jobs_from, AreNumbered}

-- What is known of a job between others of its queue.
record JobAt (n : ℕ) (writes : List Write) (before : List Message) (m : Message) : Type 0 where
  own : sender_of m ≡ 0
  job : is_end m ≡ false
  ticket : ticket_of m ≡ n + length before
  less : length before < length writes
  fit : IsFit m
  no_end : list_any is_end before ≡ false
  below : AllByRecursion (λ b. ticket_of b < n + length before) before

job_at : (n : ℕ) (writes : List Write) (before later : List Message) (m : Message) → AllByRecursion IsWrite writes → jobs_from n writes ≡ before ++ m ∷ later → JobAt n writes before m
job_at n [] before later m fits is = absurd (omega (arith, ap length is, length-append before (m ∷ later)))
job_at n (write ∷ writes) [] later m fits is =
    let head : kind.Job (record { sender = 0; ticket = n; write = write }) ≡ m = cc in
    subst (JobAt n (write ∷ writes) []) head (record { own = refl; job = refl; ticket = omega arith; less = omega arith; fit = fits.0; no_end = refl; below = tt })
job_at n (write ∷ writes) (x ∷ before) later m fits is =
    let head : kind.Job (record { sender = 0; ticket = n; write = write }) ≡ x = cc in
    let tail : jobs_from (n + 1) writes ≡ before ++ m ∷ later = cc in
    let rest = job_at (n + 1) writes before later m fits.1 tail in
    let up : (n + 1) + length before ≡ n + suc (length before) = omega arith in
    record {
      own = rest.own;
      job = rest.job;
      ticket = rest.ticket ∙ up;
      less = (let less = rest.less in omega arith);
      fit = rest.fit;
      no_end = subst (λ (y : Message). list_any is_end (y ∷ before) ≡ false) head rest.no_end;
      below = (subst (λ (y : Message). ticket_of y < n + suc (length before)) head (omega arith), subst (λ (k : ℕ). AllByRecursion (λ b. ticket_of b < k) before) up rest.below);
    }

jobs_for-append : (q : ℕ) (xs ys : List Feed) → jobs_for q (xs ++ ys) ≡ jobs_for q xs ++ jobs_for q ys
jobs_for-append q xs ys = ap (map (λ (feed : Feed). kind.Job feed.job)) (filter-append (λ feed. feed.queue == q) xs ys) ∙ map-append (λ (feed : Feed). kind.Job feed.job) (filter (λ feed. feed.queue == q) xs) (filter (λ feed. feed.queue == q) ys)

jobs_for-own : (feed : Feed) (feeds : List Feed) → jobs_for feed.queue (feed ∷ feeds) ≡ kind.Job feed.job ∷ jobs_for feed.queue feeds
jobs_for-own feed feeds = ap (λ b. map (λ (x : Feed). kind.Job x.job) (cond b (feed ∷ filter (λ x. x.queue == feed.queue) feeds) (filter (λ x. x.queue == feed.queue) feeds))) (eq-eqb feed.queue feed.queue refl)

-- The feeder of a round has jobs in order, where each sender may send as many as its queue has.
pub ready : (feeds : List Feed) (counts : List ℕ) (f : Feeder) → AreNumbered feeds counts → map (λ (s : Outbox). s.jobs) f.senders.items ≡ counts
    → ((p : ℕ) (sender : Outbox) → slice_get f.senders.items p ≡ Some sender → sender ≡ outbox sender.queue 0 sender.jobs []) → into_iter_items f.feeds ≡ feeds → IsReadyFeeder f
ready feeds counts f numbered counts_are fresh in_hand = record {
  none = λ p sender at. let it = fresh p sender at in (ap (λ (o : Outbox). o.sent) it, ap (λ (o : Outbox). o.number) it);
  order = λ before later feed is.
      let q : ℕ = feed.queue in
      let split : jobs_from 0 (writes_for q feeds) ≡ jobs_for q before ++ kind.Job feed.job ∷ jobs_for q later
      = sym (numbered.jobs q) ∙ ap (jobs_for q) (sym in_hand ∙ is) ∙ jobs_for-append q before (feed ∷ later) ∙ ap (λ l. jobs_for q before ++ l) (jobs_for-own feed later) in
      let here = job_at 0 (writes_for q feeds) (jobs_for q before) (jobs_for q later) (kind.Job feed.job) (numbered.fit q) split in
      let inside : q < length counts = within q (omega (arith, here.less)) in
      let sender = element_at f.senders.items q (omega (arith, ap length counts_are, length-map f.senders.items (λ (s : Outbox). s.jobs))) in
      let it = fresh q sender.0 sender.1 in
      let count = numbered.counted q sender.0.jobs (ap (λ l. slice_get l q) (sym counts_are) ∙ at_map (λ (s : Outbox). s.jobs) f.senders.items q sender.0 sender.1) in
      let ticket = here.ticket in (
        sender.0,
        sender.1,
        here.own ∙ sym (ap (λ (o : Outbox). o.number) it),
        record {
          no_end = here.no_end;
          in_range = λ _. omega (arith, here.ticket, here.less, count);
          rises = λ _. All-from_recursion (λ b. ticket_of b < feed.job.ticket) (jobs_for q before) (subst (λ (k : ℕ). AllByRecursion (λ b. ticket_of b < k) (jobs_for q before)) (sym ticket) here.below);
          fit = here.fit;
        },
      );
}
  where
    within : (q : ℕ) → 0 < length (writes_for q feeds) → q < length counts
    within q some =
        ⊎_elim (λ (less : q < length counts). less) (λ (far : length counts ≤ q). absurd (omega (arith, some, ap length (numbered.none q far)))) (cases_lt q (length counts))

-- the jobs, with the end behind them, are of the writes that they were made of
pub jobs_made : (n : ℕ) (writes : List Write) → map (λ (j : Job). j.write) (jobs_in (jobs_from n writes ++ kind.End 0 ∷ [])) ≡ writes
jobs_made n [] = refl
jobs_made n (write ∷ writes) = ap (λ l. write ∷ l) (jobs_made (n + 1) writes)
