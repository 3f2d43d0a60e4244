-- How many jobs come through a queue: of each sender no more than it has tickets.
use Rattle.std.proofs.Common.{◌≡◌, ◌≢◌, ℕ, zero, suc, ◌+◌, ◌*◌, ◌<◌, ◌≤◌, ◌==◌, ◌&&◌, not, List, [], ◌∷◌, ◌++◌, length, Some, refl, sym, ap, ◌∙◌, subst, arith, cond, Bool, true, false, true≢false, append-nil, append_assoc, eq-eqb, ne_eqb, eqb-true, suc-mul}
use Rattle.std.specs.List.{All, count_by}
use Rattle.std.proofs.lemmas.List.{length_push, get_or_push}
use Rattle.std.proofs.lemmas.List.Elements.{filter_map-append, All-pop}
use Rattle.std.proofs.lemmas.List.Sums.{sum_by-append, sum_by-cons}
use Rattle.ruled_queue.proofs.Keeps.{from_append}
use Rattle.owner_queue.specs.declared.message.Message.{Message}
use Rattle.owner_queue.specs.declared.message.Message.TheVariants as kind
use Rattle.owner_queue.specs.Messages.{sender_of, ticket_of, is_end, sent_by, MayFollow}
use Rattle.owner_queue.specs.Worked.{job_in, jobs_in}

-- f of each number below n, added up
abbrev sum_to : ℕ → (ℕ → ℕ) → ℕ
sum_to zero f = 0
sum_to (suc n) f = f n + sum_to n f

-- whether the message is a job of the sender
abbrev pub is_job_of : ℕ → Message → Bool
is_job_of p m = (sender_of m == p) && not (is_end m)

abbrev pub jobs_of : ℕ → List Message → ℕ
jobs_of p ms = count_by (is_job_of p) ms

-- Of the messages that came behind others, each sender's jobs are no more than its tickets allow, and all are their sum.
pub record AreCounted (senders jobs : ℕ) (before messages : List Message) : Type 0 where
  pub few : (p : ℕ) → jobs_of p messages ≤ jobs
  pub below : (p k : ℕ) → All (λ b. ticket_of b < k) (sent_by p (before ++ messages)) → jobs_of p messages ≤ k
  pub sum : length (jobs_in messages) ≡ sum_to senders (λ p. jobs_of p messages)

zeros : (n : ℕ) → 0 ≡ sum_to n (λ p. 0)
zeros zero = refl
zeros (suc n) = let rest = zeros n in omega arith

pub none_counted : (senders jobs : ℕ) (before : List Message) → AreCounted senders jobs before []
none_counted senders jobs before = record { few = λ p. omega arith; below = λ p k all. omega arith; sum = zeros senders }

jobs_push : (p : ℕ) (ms : List Message) (m : Message) → jobs_of p (ms ++ m ∷ []) ≡ jobs_of p ms + cond (is_job_of p m) 1 0
jobs_push p ms m =
    let one = sum_by-append (λ x. cond (is_job_of p x) 1 0) ms (m ∷ []) in
    let two = sum_by-cons (λ x. cond (is_job_of p x) 1 0) m [] in
    omega arith

all_jobs_push : (ms : List Message) (m : Message) → length (jobs_in (ms ++ m ∷ [])) ≡ length (jobs_in ms) + cond (not (is_end m)) 1 0
all_jobs_push ms (kind.Job j) = ap length (filter_map-append job_in ms (kind.Job j ∷ [])) ∙ length_push (jobs_in ms) j
all_jobs_push ms (kind.End p) = ap length (filter_map-append job_in ms (kind.End p ∷ []) ∙ append-nil (jobs_in ms)) ∙ omega arith

same_sums : (n : ℕ) (f h : ℕ → ℕ) → ((q : ℕ) → q < n → f q ≡ h q) → sum_to n f ≡ sum_to n h
same_sums zero f h same = refl
same_sums (suc n) f h same =
    let here = same n (omega arith) in
    let rest = same_sums n f h (λ q less. same q (omega arith)) in
    omega arith

one_more : (n r c : ℕ) (f h : ℕ → ℕ) → r < n → h r ≡ f r + c → ((q : ℕ) → r ≢ q → h q ≡ f q) → sum_to n h ≡ sum_to n f + c
one_more zero r c f h less one others = absurd (omega arith)
one_more (suc n) r c f h less one others =
    elim (r == n) as (λ b. (r == n) ≡ b → sum_to (suc n) h ≡ sum_to (suc n) f + c) [
      | true ↦ λ e.
          let at : r ≡ n = eqb-true r n e in
          let here : h n ≡ f n + c = subst (λ (m : ℕ). h m ≡ f m + c) at one in
          let rest = same_sums n h f (λ q below. others q (λ same. omega arith)) in
          omega arith
      | false ↦ λ e.
          let other : r ≢ n = λ same. absurd (true≢false (sym (eq-eqb r n same) ∙ e)) in
          let here = others n other in
          let rest = one_more n r c f h (omega arith) one others in
          omega arith
    ] refl

last_passes : {X : Type 0} (P : X → Type 0) (xs : List X) (x : X) → All P (xs ++ x ∷ []) → P x
last_passes P xs x all = subst P (get_or_push xs x x (length xs) refl) (all (length xs) x (let more = length_push xs x in omega arith))

from_push : (p : ℕ) (ms : List Message) (m : Message) → sent_by p (ms ++ m ∷ []) ≡ sent_by p ms ++ cond (sender_of m == p) (m ∷ []) []
from_push p ms m = from_append sender_of p ms (m ∷ [])

-- one message more
pub one_counted : (senders jobs : ℕ) (before messages : List Message) (m : Message) → AreCounted senders jobs before messages → sender_of m < senders
    → MayFollow jobs (sent_by (sender_of m) (before ++ messages)) m → AreCounted senders jobs before (messages ++ m ∷ [])
one_counted senders jobs before messages m so_far low may =
    let s = sender_of m in
    let own : (s == s) ≡ true = eq-eqb s s refl in
    record {
      few = λ p. few p (sender_of m == p) (is_end m) refl refl;
      below = λ p k all. below p k (sender_of m == p) (is_end m) refl refl all;
      sum = all_jobs_push messages m ∙ sums;
    }
  where
    few : (p : ℕ) (here end : Bool) → (sender_of m == p) ≡ here → is_end m ≡ end → jobs_of p (messages ++ m ∷ []) ≤ jobs
    few p true false here end =
        let same : sender_of m ≡ p = eqb-true (sender_of m) p here in
        let own = may.rises end in
        let count = so_far.below (sender_of m) (ticket_of m) own in
        let count_p : jobs_of p messages ≤ ticket_of m = subst (λ (q : ℕ). jobs_of q messages ≤ ticket_of m) same count in
        let range = may.in_range end in
        let one : cond {A = ℕ} (is_job_of p m) 1 0 ≡ 1 = ap (λ b. cond (b && not (is_end m)) 1 0) here ∙ ap (λ b. cond (not b) 1 0) end in
        let push = jobs_push p messages m in
        omega arith
    few p true true here end =
        let was = so_far.few p in
        let one : cond {A = ℕ} (is_job_of p m) 1 0 ≡ 0 = ap (λ b. cond (b && not (is_end m)) 1 0) here ∙ ap (λ b. cond (not b) 1 0) end in
        let push = jobs_push p messages m in
        omega arith
    few p false end here is_end_m =
        let was = so_far.few p in
        let one : cond {A = ℕ} (is_job_of p m) 1 0 ≡ 0 = ap (λ b. cond (b && not (is_end m)) 1 0) here in
        let push = jobs_push p messages m in
        omega arith

    pushed : (p k : ℕ) (here : Bool) → (sender_of m == p) ≡ here → All (λ b. ticket_of b < k) (sent_by p (before ++ (messages ++ m ∷ []))) → All (λ b. ticket_of b < k) (sent_by p (before ++ messages) ++ cond here (m ∷ []) [])
    pushed p k here is all =
        subst (All (λ b. ticket_of b < k)) (ap (sent_by p) (sym (append_assoc before messages (m ∷ []))) ∙ from_push p (before ++ messages) m ∙ ap (λ b. sent_by p (before ++ messages) ++ cond b (m ∷ []) []) is) all

    below : (p k : ℕ) (here end : Bool) → (sender_of m == p) ≡ here → is_end m ≡ end → All (λ b. ticket_of b < k) (sent_by p (before ++ (messages ++ m ∷ []))) → jobs_of p (messages ++ m ∷ []) ≤ k
    below p k true false here end all =
        let same : sender_of m ≡ p = eqb-true (sender_of m) p here in
        let own = may.rises end in
        let count = so_far.below (sender_of m) (ticket_of m) own in
        let count_p : jobs_of p messages ≤ ticket_of m = subst (λ (q : ℕ). jobs_of q messages ≤ ticket_of m) same count in
        let last : ticket_of m < k = last_passes (λ b. ticket_of b < k) (sent_by p (before ++ messages)) m (pushed p k true here all) in
        let one : cond {A = ℕ} (is_job_of p m) 1 0 ≡ 1 = ap (λ b. cond (b && not (is_end m)) 1 0) here ∙ ap (λ b. cond (not b) 1 0) end in
        let push = jobs_push p messages m in
        omega arith
    below p k true true here end all =
        let was = so_far.below p k (All-pop (λ b. ticket_of b < k) (sent_by p (before ++ messages) ++ m ∷ []) (sent_by p (before ++ messages)) (Some m) refl (pushed p k true here all)).0 in
        let one : cond {A = ℕ} (is_job_of p m) 1 0 ≡ 0 = ap (λ b. cond (b && not (is_end m)) 1 0) here ∙ ap (λ b. cond (not b) 1 0) end in
        let push = jobs_push p messages m in
        omega arith
    below p k false end here is_end_m all =
        let was = so_far.below p k (subst (All (λ b. ticket_of b < k)) (append-nil (sent_by p (before ++ messages))) (pushed p k false here all)) in
        let one : cond {A = ℕ} (is_job_of p m) 1 0 ≡ 0 = ap (λ b. cond (b && not (is_end m)) 1 0) here in
        let push = jobs_push p messages m in
        omega arith

    sums : length (jobs_in messages) + cond (not (is_end m)) 1 0 ≡ sum_to senders (λ p. jobs_of p (messages ++ m ∷ []))
    sums =
        let was = so_far.sum in
        let own : jobs_of (sender_of m) (messages ++ m ∷ []) ≡ jobs_of (sender_of m) messages + cond (not (is_end m)) 1 0
        = jobs_push (sender_of m) messages m ∙ ap (λ b. jobs_of (sender_of m) messages + cond (b && not (is_end m)) 1 0) (eq-eqb (sender_of m) (sender_of m) refl) in
        let others : (q : ℕ) → sender_of m ≢ q → jobs_of q (messages ++ m ∷ []) ≡ jobs_of q messages
        = λ q other. jobs_push q messages m ∙ ap (λ b. jobs_of q messages + cond (b && not (is_end m)) 1 0) (ne_eqb (sender_of m) q other) ∙ omega arith in
        let all = one_more senders (sender_of m) (cond (not (is_end m)) 1 0) (λ p. jobs_of p messages) (λ p. jobs_of p (messages ++ m ∷ [])) low own others in
        omega arith

sum_few : (n b : ℕ) (f : ℕ → ℕ) → ((q : ℕ) → f q ≤ b) → sum_to n f ≤ n * b
sum_few zero b f few = omega arith
sum_few (suc n) b f few =
    let here = few n in
    let rest = sum_few n b f few in
    let product = suc-mul n b in
    omega arith

pub few_jobs : (senders jobs : ℕ) (before messages : List Message) → AreCounted senders jobs before messages → length (jobs_in messages) ≤ senders * jobs
few_jobs senders jobs before messages counted =
    let all = sum_few senders jobs (λ p. jobs_of p messages) counted.few in
    let sum = counted.sum in
    omega arith
