-- The jobs of one write more.
use Rattle.std.proofs.Common.{◌≡◌, ◌≢◌, ℕ, ◌+◌, ◌≤◌, ◌==◌, List, [], ◌∷◌, ◌++◌, length, slice_get, slice_set, inl, inr, Option, Some, None, refl, sym, ap, ◌∙◌, subst, arith, cond, Bool, true, false, eq-eqb, ne_eqb, append-nil}
use Rattle.std.specs.List.{cons_option, AllByRecursion}
use Rattle.std.proofs.lemmas.List.{length_push, length-set}
use Rattle.std.proofs.lemmas.List.Elements.{filter_map-append}
use Rattle.std.proofs.lemmas.Option.{slice_get_within}
use Rattle.list_laws.proofs.AllElements.{all_push}
use Rattle.list_laws.proofs.Places.{length-filter_map-le, set_cases}
use Rattle.ruled_queue.proofs.Keeps.{same_or_not}
use Rattle.partition_model.specs.declared.options.Options.{Options}
use Rattle.partition_model.specs.declared.write.Write.{Write}
use Rattle.partition_model.specs.Write.{IsWrite}
use Rattle.mica_trace.specs.declared.line.TraceLine.{TraceLine}
use Rattle.mica_trace.specs.Rounds.{partition_in, write_in, writes_of}
use Rattle.owner_queue.specs.declared.message.Message.TheVariants as kind
use Rattle.mica_replay.specs.declared.feeder.Feed.{Feed}
use Rattle.mica_replay.specs.Feeds.{jobs_for, writes_for}
use Rattle.mica_replay.specs.LineNumbers.{write_at}
use Rattle.mica_replay.specs.RoundJobs.{jobs_from, AreNumbered}
use Rattle.mica_replay.proofs.Feeders.{for_push}

jobs_from-push : (n : ℕ) (writes : List Write) (write : Write) → jobs_from n (writes ++ write ∷ []) ≡ jobs_from n writes ++ kind.Job (record { sender = 0; ticket = n + length writes; write = write }) ∷ []
jobs_from-push n [] write = ap (λ t. kind.Job (record { sender = 0; ticket = t; write = write }) ∷ []) (omega arith)
jobs_from-push n (w ∷ writes) write =
    ap (λ l. kind.Job (record { sender = 0; ticket = n; write = w }) ∷ l)
    (jobs_from-push (n + 1) writes write ∙ ap (λ t. jobs_from (n + 1) writes ++ kind.Job (record { sender = 0; ticket = t; write = write }) ∷ []) (omega arith))

-- the job of a write, behind those of its queue
module _ (feeds : List Feed) (counts : List ℕ) (q n : ℕ) (write : Write) (numbered : AreNumbered feeds counts) (at : slice_get counts q ≡ Some n) (fits : IsWrite write) where
  abbrev feed : Feed
  feed = record { queue = q; job = record { sender = 0; ticket = n; write = write } }

  pub own : writes_for q (feeds ++ feed ∷ []) ≡ writes_for q feeds ++ write ∷ []
  own = for_push (λ x. x.job.write) q feeds feed ∙ ap (λ b. writes_for q feeds ++ cond b (write ∷ []) []) (eq-eqb q q refl)

  pub others : (p : ℕ) → q ≢ p → writes_for p (feeds ++ feed ∷ []) ≡ writes_for p feeds
  others p differs = for_push (λ x. x.job.write) p feeds feed ∙ ap (λ b. writes_for p feeds ++ cond b (write ∷ []) []) (ne_eqb q p differs) ∙ append-nil (writes_for p feeds)

  own_jobs : jobs_for q (feeds ++ feed ∷ []) ≡ jobs_from 0 (writes_for q (feeds ++ feed ∷ []))
  own_jobs =
      let ticket : n ≡ 0 + length (writes_for q feeds) = omega (arith, numbered.counted q n at) in
      for_push (λ x. kind.Job x.job) q feeds feed ∙ ap (λ b. jobs_for q feeds ++ cond b (kind.Job feed.job ∷ []) []) (eq-eqb q q refl)
      ∙ (λ i. numbered.jobs q i ++ kind.Job (record { sender = 0; ticket = ticket i; write = write }) ∷ [])
      ∙ sym (ap (jobs_from 0) own ∙ jobs_from-push 0 (writes_for q feeds) write)

  other_jobs : (p : ℕ) → q ≢ p → jobs_for p (feeds ++ feed ∷ []) ≡ jobs_from 0 (writes_for p (feeds ++ feed ∷ []))
  other_jobs p differs =
      for_push (λ x. kind.Job x.job) p feeds feed ∙ ap (λ b. jobs_for p feeds ++ cond b (kind.Job feed.job ∷ []) []) (ne_eqb q p differs)
      ∙ append-nil (jobs_for p feeds) ∙ numbered.jobs p ∙ sym (ap (jobs_from 0) (others p differs))

  -- what holds of the queue, and of each other, holds of all
  at_all : (Q : ℕ → Type 0) → Q q → ((p : ℕ) → q ≢ p → Q p) → (p : ℕ) → Q p
  at_all Q here elsewhere p = elim (same_or_not q p) as (λ _. Q p) [
    | inl same ↦ subst Q same here
    | inr differs ↦ elsewhere p differs
  ]

  pub one_numbered : AreNumbered (feeds ++ feed ∷ []) (slice_set counts q (n + 1))
  one_numbered = record {
    jobs = at_all (λ p. jobs_for p (feeds ++ feed ∷ []) ≡ jobs_from 0 (writes_for p (feeds ++ feed ∷ []))) own_jobs other_jobs;
    fit = at_all (λ p. AllByRecursion IsWrite (writes_for p (feeds ++ feed ∷ []))) (subst (AllByRecursion IsWrite) (sym own) (all_push IsWrite (writes_for q feeds) write (numbered.fit q) fits))
        (λ p differs. subst (AllByRecursion IsWrite) (sym (others p differs)) (numbered.fit p));
    counted = λ p m is. elim (set_cases counts q (n + 1) p m is) as (λ _. m ≡ length (writes_for p (feeds ++ feed ∷ []))) [
      | inl here ↦ sym here.1 ∙ ap (λ k. k + 1) (numbered.counted q n at) ∙ sym (ap length own ∙ length_push (writes_for q feeds) write) ∙ ap (λ k. length (writes_for k (feeds ++ feed ∷ []))) here.0
      | inr other ↦ numbered.counted p m other.1 ∙ ap length (sym (others p other.0))
    ];
    none = λ p far.
        let long = length-set counts q (n + 1) in
        let less = slice_get_within counts q n at in
        others p (λ same. omega (arith, same, far, long, less)) ∙ numbered.none p (omega (arith, far, long));
  }

-- a queue has no more jobs than there are lines
pub few_jobs : (options : Options) (p : ℕ) (lines : List TraceLine) → length (writes_of options p lines) ≤ length lines
few_jobs options p lines = length-filter_map-le (write_in options p) lines

-- what the queues have of one line more
module _ (options : Options) (lines : List TraceLine) (line : TraceLine) (olds : ℕ → List Write) (so_far : (p : ℕ) → olds p ≡ writes_of options p lines) where
  writes_more : (p : ℕ) → writes_of options p (lines ++ line ∷ []) ≡ writes_of options p lines ++ cons_option (write_in options p line) []
  writes_more p = filter_map-append (write_in options p) lines (line ∷ [])

  either : (b : Bool) → cond {A = Option Write} b None None ≡ None
  either true = refl
  either false = refl

  pub queued_none : write_at line ≡ None → (p : ℕ) → olds p ≡ writes_of options p (lines ++ line ∷ [])
  queued_none none p = so_far p ∙ sym (writes_more p
      ∙ ap (λ o. writes_of options p lines ++ cons_option o []) (ap (λ o. cond (partition_in options line == p) o None) none ∙ either (partition_in options line == p)) ∙ append-nil (writes_of options p lines))

  pub queued_one : (news : ℕ → List Write) (write : Write) (q : ℕ) → write_at line ≡ Some write → q ≡ partition_in options line → news q ≡ olds q ++ write ∷ [] → ((p : ℕ) → q ≢ p → news p ≡ olds p)
      → (p : ℕ) → news p ≡ writes_of options p (lines ++ line ∷ [])
  queued_one news write q is here own others p =
      elim (same_or_not q p) as (λ _. news p ≡ writes_of options p (lines ++ line ∷ [])) [
        | inl same ↦ subst (λ k. news k ≡ writes_of options k (lines ++ line ∷ [])) same (own ∙ ap (λ ws. ws ++ write ∷ []) (so_far q) ∙ sym (more q true (eq-eqb (partition_in options line) q (sym here)) ∙ ap (λ o. writes_of options q lines ++ cons_option o []) is))
        | inr differs ↦ others p differs ∙ so_far p ∙ sym (more p false (ne_eqb (partition_in options line) p (λ e. differs (here ∙ e))) ∙ append-nil (writes_of options p lines))
      ]
    where
      more : (p : ℕ) (b : Bool) → (partition_in options line == p) ≡ b → writes_of options p (lines ++ line ∷ []) ≡ writes_of options p lines ++ cons_option (cond b (write_at line) None) []
      more p b e = writes_more p ∙ ap (λ x. writes_of options p lines ++ cons_option (cond x (write_at line) None) []) e
