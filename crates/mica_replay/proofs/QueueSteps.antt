-- One queue more, and one sender more that is taken in.
use Rattle.std.proofs.Common.{◌≡◌, ℕ, zero, suc, ◌+◌, ◌<◌, ◌≤◌, ◌⊎◌, inl, inr, List, [], ◌∷◌, ◌++◌, length, map, take, get_or, slice_get, slice_set, Some, refl, sym, ap, ◌∙◌, subst, arith, true, length-append}
use Rattle.std.proofs.lemmas.List.{length_push, length-set, map-append, take_more, take_all}
use Rattle.std.proofs.lemmas.Option.{slice_get_within, same_Some}
use Rattle.list_laws.proofs.Places.{at_seam, set_same, set_cases}
use Rattle.owner_queue.specs.Messages.{sent_by, has_end}
use Rattle.owner_queue.specs.JobEnds.{Outbox}
use Rattle.mica_replay.specs.declared.worker.OwnerWork.{OwnerWork}
use Rattle.mica_replay.specs.Queues.{HasQueue, HaveQueues, MayTakeIn, HaveTakenIn}

at_push : {X : Type 0} (xs : List X) (x : X) (i : ℕ) (y : X) → slice_get (xs ++ x ∷ []) i ≡ Some y → ((i ≡ length xs) × (x ≡ y)) ⊎ (slice_get xs i ≡ Some y)
at_push [] x zero y is = inl (refl, cc)
at_push [] x (suc i) y is = absurd (cc)
at_push (z ∷ xs) x zero y is = inr is
at_push (z ∷ xs) x (suc i) y is = elim (at_push xs x i y is) as (λ _. ((suc i ≡ suc (length xs)) × (x ≡ y)) ⊎ (slice_get xs i ≡ Some y)) [
  | inl here ↦ inl (ap suc here.0, here.1)
  | inr front ↦ inr front
]

-- the last of one element is the first
pub only_one : (items rest : List Outbox) (last first : Outbox) → items ≡ rest ++ last ∷ [] → length items ≡ 1 → slice_get items 0 ≡ Some first → last ≡ first
only_one items [] last first is one at = let e : slice_get (last ∷ []) 0 ≡ Some first = sym (ap (λ l. slice_get l 0) is) ∙ at in cc
only_one items (x ∷ rest) last first is one at = absurd (omega (arith, ap length is, one, length-append rest (last ∷ [])))

module _ {P : Type 0} where
  -- the first p owners have their queues
  pub record QueuesTo (counts : List ℕ) (p : ℕ) (olds news : List (OwnerWork P)) (senders : List Outbox) : Type 0 where
    pub many : length news ≡ length olds
    pub counts_are : map (λ s. s.jobs) senders ≡ take p counts
    pub senders_many : length senders ≡ p
    pub done : (i : ℕ) (old new : OwnerWork P) (sender : Outbox) → slice_get olds i ≡ Some old → slice_get news i ≡ Some new → slice_get senders i ≡ Some sender → HasQueue old new sender
    pub later : (i : ℕ) (old new : OwnerWork P) → p ≤ i → slice_get olds i ≡ Some old → slice_get news i ≡ Some new → new ≡ old

  pub queues_none : (counts : List ℕ) (olds : List (OwnerWork P)) → QueuesTo counts 0 olds olds []
  queues_none counts olds = record {
    many = refl;
    counts_are = refl;
    senders_many = refl;
    done = λ i old new sender is_old is_new is_sender. absurd (cc);
    later = λ i old new from is_old is_new. same_Some _ _ (sym is_new ∙ is_old);
  }

  pub queues_one : (counts : List ℕ) (p : ℕ) (olds mids : List (OwnerWork P)) (senders : List Outbox) (mid new : OwnerWork P) (sender : Outbox) → QueuesTo counts p olds mids senders → slice_get mids p ≡ Some mid
      → HasQueue mid new sender → p < length counts → sender.jobs ≡ get_or counts p 0 → QueuesTo counts (p + 1) olds (slice_set mids p new) (senders ++ sender ∷ [])
  queues_one counts p olds mids senders mid new sender so_far at one less count = record {
    many = length-set mids p new ∙ so_far.many;
    counts_are = map-append (λ s. s.jobs) senders (sender ∷ []) ∙ (λ i. so_far.counts_are i ++ count i ∷ []) ∙ sym (take_more counts p 0 less);
    senders_many = length_push senders sender ∙ ap (λ n. n + 1) so_far.senders_many;
    done = λ i old x s is_old is_new is_sender.
        elim (set_cases mids p new i x is_new) as (λ _. HasQueue old x s) [
          | inl here ↦
              let old_here : slice_get olds p ≡ Some old = subst (λ (n : ℕ). slice_get olds n ≡ Some old) (sym here.0) is_old in
              let was : mid ≡ old = so_far.later p old mid (omega arith) old_here at in
              elim (at_push senders sender i s is_sender) as (λ _. HasQueue old x s) [
                | inl s_here ↦ subst (λ (y : OwnerWork P × OwnerWork P × Outbox). HasQueue y.0 y.1 y.2) (λ i. (was i, here.1 i, s_here.1 i)) one
                | inr front ↦ let less = slice_get_within senders i s front in absurd (omega (arith, here.0, less, so_far.senders_many))
              ]
          | inr other ↦
              elim (at_push senders sender i s is_sender) as (λ _. HasQueue old x s) [
                | inl s_here ↦ absurd (other.0 (sym (s_here.0 ∙ so_far.senders_many)))
                | inr front ↦ so_far.done i old x s is_old other.1 front
              ]
        ];
    later = λ i old x from is_old is_new.
        elim (set_cases mids p new i x is_new) as (λ _. x ≡ old) [
          | inl here ↦ let same = here.0 in absurd (omega arith)
          | inr other ↦ so_far.later i old x (omega arith) is_old other.1
        ];
  }

  pub queues_all : (counts : List ℕ) (n : ℕ) (olds news : List (OwnerWork P)) (senders : List Outbox) → length olds ≡ n → length counts ≡ n → QueuesTo counts n olds news senders → HaveQueues counts olds news senders
  queues_all counts n olds news senders long counted all = record {
    many = all.many;
    counts_are = all.counts_are ∙ take_all n counts (omega arith);
    senders_many = all.senders_many ∙ sym long;
    each = all.done;
  }

  -- the owner at the place of the next sender takes it in, and is as it was
  pub takes_in_one : (olds news : List (OwnerWork P)) (senders : List Outbox) (sender : Outbox) (w new : OwnerWork P) → HaveTakenIn olds news senders → slice_get news (length senders) ≡ Some w
      → new ≡ w → sent_by sender.number w.jobs.taken ≡ sender.sent → HaveTakenIn olds (slice_set news (length senders) new) (senders ++ sender ∷ [])
  takes_in_one olds news senders sender w new so_far at same whole = record {
    same = ap (slice_set news (length senders)) same ∙ set_same news (length senders) w at ∙ so_far.same;
    whole = λ p x s is_x is_s.
        elim (at_push senders sender p s is_s) as (λ _. sent_by s.number x.jobs.taken ≡ s.sent) [
          | inl here ↦
              let the_owner : w ≡ x = same_Some _ _ (sym at ∙ ap (λ l. slice_get l (length senders)) so_far.same ∙ ap (slice_get olds) (sym here.0) ∙ is_x) in
              subst (λ (y : Outbox × OwnerWork P). sent_by y.0.number y.1.jobs.taken ≡ y.0.sent) (λ i. (here.1 i, the_owner i)) whole
          | inr front ↦ so_far.whole p x s is_x front
        ];
  }

  -- The next sender is the one at its place, of its owner's queue, whose end the owner took.
  module _ (olds news : List (OwnerWork P)) (senders yielded rest : List Outbox) (sender : Outbox) (may : MayTakeIn olds senders) (so_far : HaveTakenIn olds news yielded)
      (left : senders ≡ yielded ++ sender ∷ rest) where
    pub next_below : length yielded < length news
    next_below = omega (arith, ap length left, length-append yielded (sender ∷ rest), may.many, ap length so_far.same)

    pub next_may : (w : OwnerWork P) → slice_get news (length yielded) ≡ Some w → (sender.queue ≡ w.jobs.queue) × (has_end sender.number w.jobs.taken ≡ true)
    next_may w at = may.each (length yielded) w sender (ap (λ l. slice_get l (length yielded)) (sym so_far.same) ∙ at) (ap (λ l. slice_get l (length yielded)) left ∙ at_seam yielded sender rest)
