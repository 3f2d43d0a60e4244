-- Jobs that a feeder sends, and then its ends.
use Rattle.std.proofs.Common.{◌≡◌, ℕ, ◌+◌, ◌<◌, ◌==◌, inl, inr, List, [], ◌∷◌, ◌++◌, length, map, filter, get_or, slice_get, slice_set, Some, refl, sym, ap, ◌∙◌, subst, arith, cond, true, false, eq-eqb, ne_eqb, append-nil, append_assoc}
use Rattle.std.specs.List.{list_any}
use Rattle.std.specs.Vec.Iter.{into_iter_items}
use Rattle.std.proofs.lemmas.List.{length-set}
use Rattle.std.proofs.lemmas.Option.{slice_get_read, slice_get_within}
use Rattle.list_laws.proofs.UpTo.{UpTo, up_one}
use Rattle.list_laws.proofs.Places.{element_at, set_cases}
use Rattle.owner_queue.specs.declared.message.Message.TheVariants as kind
use Rattle.owner_queue.specs.Messages.{is_end, MayFollow}
use Rattle.owner_queue.specs.JobEnds.{Outbox, outbox}
use Rattle.mica_replay.specs.declared.feeder.Feed.{Feed}
use Rattle.mica_replay.specs.declared.feeder.Feeder.{Feeder}
use Rattle.mica_replay.specs.Feeds.{jobs_for, IsReadyFeeder, HasFed}

-- the first of the jobs were sent
pub record IsFeeding (f h : Feeder) : Type 0 where
  pub sent : List Feed
  pub split : into_iter_items f.feeds ≡ sent ++ into_iter_items h.feeds
  pub many : length h.senders.items ≡ length f.senders.items
  pub each : (p : ℕ) (old new : Outbox) → slice_get f.senders.items p ≡ Some old → slice_get h.senders.items p ≡ Some new → new ≡ outbox old.queue old.number old.jobs (jobs_for p sent)

-- what is made of the jobs for one queue, with one more
pub for_push : {Z : Type 0} (h : Feed → Z) (queue : ℕ) (feeds : List Feed) (feed : Feed)
    → map h (filter (λ x. x.queue == queue) (feeds ++ feed ∷ [])) ≡ map h (filter (λ x. x.queue == queue) feeds) ++ cond (feed.queue == queue) (h feed ∷ []) []
for_push h queue [] feed = elim (feed.queue == queue) as (λ b. map h (cond b (feed ∷ []) []) ≡ cond b (h feed ∷ []) []) [ true ↦ refl | false ↦ refl ]
for_push h queue (x ∷ feeds) feed =
    elim (x.queue == queue) as (λ b. map h (cond b (x ∷ filter (λ y. y.queue == queue) (feeds ++ feed ∷ [])) (filter (λ y. y.queue == queue) (feeds ++ feed ∷ [])))
    ≡ map h (cond b (x ∷ filter (λ y. y.queue == queue) feeds) (filter (λ y. y.queue == queue) feeds)) ++ cond (feed.queue == queue) (h feed ∷ []) []) [
      | true ↦ ap (λ l. h x ∷ l) (for_push h queue feeds feed)
      | false ↦ for_push h queue feeds feed
    ]

-- the next job and its sender
module _ (f h : Feeder) (ready : IsReadyFeeder f) (so_far : IsFeeding f h) (feed : Feed) (rest : List Feed) (next : into_iter_items h.feeds ≡ feed ∷ rest) where
  ordered : (sender : Outbox) × (slice_get f.senders.items feed.queue ≡ Some sender) × (feed.job.sender ≡ sender.number) × MayFollow sender.jobs (jobs_for feed.queue so_far.sent) (kind.Job feed.job)
  ordered = ready.order so_far.sent rest feed (so_far.split ∙ ap (λ l. so_far.sent ++ l) next)

  pub in_range : feed.queue < length h.senders.items
  in_range =
      let it = ordered in
      let less = slice_get_within f.senders.items feed.queue it.0 it.1 in
      let many = so_far.many in
      omega arith

  module _ (now : Outbox) (at : slice_get h.senders.items feed.queue ≡ Some now) where
    pub feeds_one : (later : Feeder) → into_iter_items later.feeds ≡ rest → later.senders.items ≡ slice_set h.senders.items feed.queue (outbox now.queue now.number now.jobs (now.sent ++ kind.Job feed.job ∷ [])) → IsFeeding f later
    feeds_one later left set = record {
      sent = so_far.sent ++ feed ∷ [];
      split = so_far.split ∙ ap (λ l. so_far.sent ++ l) (next ∙ ap (λ l. feed ∷ l) (sym left)) ∙ sym (append_assoc so_far.sent (feed ∷ []) (into_iter_items later.feeds));
      many = ap length set ∙ length-set h.senders.items feed.queue _ ∙ so_far.many;
      each = λ p old new is_old is_new.
          elim (set_cases h.senders.items feed.queue (outbox now.queue now.number now.jobs (now.sent ++ kind.Job feed.job ∷ [])) p new (ap (λ l. slice_get l p) (sym set) ∙ is_new))
          as (λ _. new ≡ outbox old.queue old.number old.jobs (jobs_for p (so_far.sent ++ feed ∷ []))) [
            | inl same ↦
                let is_old_here : slice_get f.senders.items feed.queue ≡ Some old = subst (λ (n : ℕ). slice_get f.senders.items n ≡ Some old) (sym same.0) is_old in
                let was = so_far.each feed.queue old now is_old_here at in
                let pushed : jobs_for p (so_far.sent ++ feed ∷ []) ≡ jobs_for feed.queue so_far.sent ++ kind.Job feed.job ∷ []
                = for_push (λ (x : Feed). kind.Job x.job) p so_far.sent feed ∙ ap (λ b. jobs_for p so_far.sent ++ cond b (kind.Job feed.job ∷ []) []) (eq-eqb feed.queue p same.0) ∙ ap (λ n. jobs_for n so_far.sent ++ kind.Job feed.job ∷ []) (sym same.0) in
                sym same.1 ∙ ap (λ (o : Outbox). outbox o.queue o.number o.jobs (o.sent ++ kind.Job feed.job ∷ [])) was ∙ ap (λ l. outbox old.queue old.number old.jobs l) (sym pushed)
            | inr other ↦
                let pushed : jobs_for p (so_far.sent ++ feed ∷ []) ≡ jobs_for p so_far.sent
                = for_push (λ (x : Feed). kind.Job x.job) p so_far.sent feed ∙ ap (λ b. jobs_for p so_far.sent ++ cond b (kind.Job feed.job ∷ []) []) (ne_eqb feed.queue p other.0) ∙ append-nil (jobs_for p so_far.sent) in
                so_far.each p old new is_old other.1 ∙ ap (λ l. outbox old.queue old.number old.jobs l) (sym pushed)
          ];
    }

-- a sender has sent its end
abbrev pub HasEnded : Outbox → Outbox → Type 0
HasEnded old new = new ≡ outbox old.queue old.number old.jobs (old.sent ++ kind.End 0 ∷ [])

jobs_alone : (feeds : List Feed) → list_any is_end (map (λ (feed : Feed). kind.Job feed.job) feeds) ≡ false
jobs_alone [] = refl
jobs_alone (x ∷ feeds) = jobs_alone feeds

-- the jobs were all sent, and now the ends
module _ (f h : Feeder) (ready : IsReadyFeeder f) (so_far : IsFeeding f h) where
  pub all_sent : into_iter_items h.feeds ≡ [] → so_far.sent ≡ into_iter_items f.feeds
  all_sent none = sym (so_far.split ∙ ap (λ l. so_far.sent ++ l) none ∙ append-nil so_far.sent)

  module _ (items : List Outbox) (p : ℕ) (now : Outbox) (ends : UpTo HasEnded p h.senders.items items) (less : p < length items) (is : now ≡ get_or items p now) where
    at : slice_get items p ≡ Some now
    at = slice_get_read items (length items) p now refl less is

    was : (old : Outbox) × (slice_get f.senders.items p ≡ Some old) × (now ≡ outbox old.queue old.number old.jobs (jobs_for p so_far.sent))
    was =
        let many = ends.many in
        let all = so_far.many in
        let mid = element_at h.senders.items p (omega arith) in
        let old = element_at f.senders.items p (omega arith) in
        let same : now ≡ mid.0 = ends.later p mid.0 now (omega arith) mid.1 at in
        (old.0, old.1, same ∙ so_far.each p old.0 mid.0 old.1 mid.1)

    pub zero_is : 0 ≡ now.number
    zero_is = let it = was in sym (ap (λ (o : Outbox). o.number) it.2 ∙ (ready.none p it.0 it.1).1)

    pub may_end : MayFollow now.jobs now.sent (kind.End 0)
    may_end =
        let it = was in
        subst (λ (o : Outbox). MayFollow o.jobs o.sent (kind.End 0)) (sym it.2) (record {
          no_end = jobs_alone (filter (λ (feed : Feed). feed.queue == p) so_far.sent);
          in_range = λ no. absurd (cc);
          rises = λ no. absurd (cc);
          fit = tt;
        })

    pub ends_one : UpTo HasEnded (p + 1) h.senders.items (slice_set items p (outbox now.queue now.number now.jobs (now.sent ++ kind.End 0 ∷ [])))
    ends_one = up_one HasEnded p h.senders.items items now _ ends at refl

  pub has_fed : (last : Feeder) (n : ℕ) → length last.senders.items ≡ n → into_iter_items h.feeds ≡ [] → UpTo HasEnded n h.senders.items last.senders.items → HasFed f last.senders.items
  has_fed last n count none ends = record {
    many = ends.many ∙ so_far.many;
    each = λ p old new is_old is_new.
        let less = slice_get_within last.senders.items p new is_new in
        let many = ends.many in
        let mid = element_at h.senders.items p (omega arith) in
        let jobs = so_far.each p old mid.0 is_old mid.1 in
        let zero_here = (ready.none p old is_old).1 in
        ends.done p mid.0 new (omega arith) mid.1 is_new ∙ ap (λ (o : Outbox). outbox o.queue o.number o.jobs (o.sent ++ kind.End 0 ∷ [])) jobs
        ∙ ap (λ l. outbox old.queue old.number old.jobs (jobs_for p l ++ kind.End 0 ∷ [])) (all_sent none)
        ∙ ap (λ n. outbox old.queue old.number old.jobs (jobs_for p (into_iter_items f.feeds) ++ kind.End n ∷ [])) (sym zero_here);
  }
