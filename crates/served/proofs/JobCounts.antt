-- Each job that a front sent was answered once.
use Rattle.std.proofs.Common.{◌≡◌, ℕ, zero, suc, ◌+◌, ◌≤◌, Bool, true, false, cond, eqb, List, [], ◌∷◌, ◌++◌, length, map, take, Some, None, refl, ap, subst, slice_get, arith}
use Rattle.std.specs.Prelude.{sum_by}
use Rattle.std.specs.List.{cons_option, filter}
use Rattle.std.proofs.lemmas.List.{take_all}
use Rattle.std.proofs.lemmas.List.Sums.{sum_by_more}
use Rattle.std.proofs.lemmas.Option.{get_or_from_slice_get}
use Rattle.list_laws.proofs.Places.{element_at}
use Rattle.partition_model.specs.Run.{RunStep}
use Rattle.owner_queue.specs.declared.message.Job.{Job}
use Rattle.owner_queue.specs.declared.message.Message.{Message}
use Rattle.owner_queue.specs.declared.message.Message.TheVariants as message
use Rattle.owner_queue.specs.Messages.{sent_by}
use Rattle.fronts.specs.Placed.{steps_by, steps_in}
use Rattle.owner_queue.specs.Worked.{Acknowledged, DoneJob, jobs_in, job_of, steps_of}
use Rattle.queue_front.specs.OwnerWork.{placed_in, answers_to}
use Rattle.served.specs.Beside.{total_below}

-- the steps of a front are those of its answers
pub steps_answered : (f : ℕ) (done : List DoneJob) → steps_by f (placed_in done) ≡ map (λ (a : Acknowledged). a.step) (answers_to f done)
steps_answered f [] = refl
steps_answered f (it ∷ done) = by (eqb it.sender f) (steps_answered f done)
  where
    by : (b : Bool) → steps_by f (placed_in done) ≡ map (λ (a : Acknowledged). a.step) (answers_to f done)
        → cons_option (cond b (Some it.answer.step) None) (steps_by f (placed_in done)) ≡ map (λ (a : Acknowledged). a.step) (cons_option (cond b (Some it.answer) None) (answers_to f done))
    by true rest = ap (λ (l : List RunStep). it.answer.step ∷ l) rest
    by false rest = rest

-- they are the steps of the owner's work
pub steps_placed : (done : List DoneJob) → steps_in (placed_in done) ≡ steps_of done
steps_placed [] = refl
steps_placed (it ∷ done) = ap (λ (l : List RunStep). it.answer.step ∷ l) (steps_placed done)

answers_counted : (f : ℕ) (done : List DoneJob) → length (answers_to f done) ≡ length (filter (λ (j : Job). eqb j.sender f) (map job_of done))
answers_counted f [] = refl
answers_counted f (it ∷ done) = by (eqb it.sender f) (answers_counted f done)
  where
    by : (b : Bool) → length (answers_to f done) ≡ length (filter (λ (j : Job). eqb j.sender f) (map job_of done))
        → length (cons_option (cond b (Some it.answer) None) (answers_to f done))
        ≡ length (cond b (job_of it ∷ filter (λ (j : Job). eqb j.sender f) (map job_of done)) (filter (λ (j : Job). eqb j.sender f) (map job_of done)))
    by true rest = ap suc rest
    by false rest = rest

own_jobs : (f : ℕ) (messages : List Message) → filter (λ (j : Job). eqb j.sender f) (jobs_in messages) ≡ jobs_in (sent_by f messages)
own_jobs f [] = refl
own_jobs f (message.Job j ∷ messages) = by (eqb j.sender f) (own_jobs f messages)
  where
    by : (b : Bool) → filter (λ (j : Job). eqb j.sender f) (jobs_in messages) ≡ jobs_in (sent_by f messages)
        → cond b (j ∷ filter (λ (j : Job). eqb j.sender f) (jobs_in messages)) (filter (λ (j : Job). eqb j.sender f) (jobs_in messages))
        ≡ jobs_in (cond b (message.Job j ∷ sent_by f messages) (sent_by f messages))
    by true rest = ap (λ (l : List Job). j ∷ l) rest
    by false rest = rest
own_jobs f (message.End p ∷ messages) = by (eqb p f) (own_jobs f messages)
  where
    by : (b : Bool) → filter (λ (j : Job). eqb j.sender f) (jobs_in messages) ≡ jobs_in (sent_by f messages)
        → filter (λ (j : Job). eqb j.sender f) (jobs_in messages) ≡ jobs_in (cond b (message.End p ∷ sent_by f messages) (sent_by f messages))
    by true rest = rest
    by false rest = rest

few_jobs : (sent : List Message) (number : ℕ) → length (jobs_in (sent ++ message.End number ∷ [])) ≤ length sent
few_jobs [] number = omega arith
few_jobs (message.Job j ∷ sent) number = let rest = few_jobs sent number in omega arith
few_jobs (message.End p ∷ sent) number = let rest = few_jobs sent number in omega arith

-- of a front that sent so many jobs and then its end no more were answered
pub few_answered : (f : ℕ) (done : List DoneJob) (taken sent : List Message) (number : ℕ) → map job_of done ≡ jobs_in taken → sent_by f taken ≡ sent ++ message.End number ∷ []
    → length (steps_by f (placed_in done)) ≤ length sent
few_answered f done taken sent number jobs whole =
    let few = few_jobs sent number in
    let one = ap length (steps_answered f done) in
    let two = map_long (λ (a : Acknowledged). a.step) (answers_to f done) in
    let three = answers_counted f done in
    let four = ap (λ (l : List Job). length (filter (λ (j : Job). eqb j.sender f) l)) jobs in
    let five = ap length (own_jobs f taken) in
    let six = ap (λ (l : List Message). length (jobs_in l)) whole in
    omega arith
  where
    map_long : {X Y : Type 0} (g : X → Y) (xs : List X) → length (map g xs) ≡ length xs
    map_long g [] = refl
    map_long g (x ∷ xs) = ap suc (map_long g xs)

-- a sum over numbers is no more than one over a list that has no less at each place
pub total_few : {X : Type 0} (g : ℕ → ℕ) (h : X → ℕ) (xs : List X) → ((p : ℕ) (x : X) → slice_get xs p ≡ Some x → g p ≤ h x) → total_below (length xs) g ≤ sum_by h xs
total_few g h xs le = subst (λ (l : List _). total_below (length xs) g ≤ sum_by h l) (take_all (length xs) xs (omega arith)) (upto (length xs) (omega arith))
  where
    upto : (n : ℕ) → n ≤ length xs → total_below n g ≤ sum_by h (take n xs)
    upto zero low = omega arith
    upto (suc n) low =
        let rest = upto n (omega arith) in
        let x = element_at xs n (omega arith) in
        let one = le n x.0 x.1 in
        let more = sum_by_more h xs n x.0 (omega arith) in
        let same = ap h (get_or_from_slice_get xs n x.0 x.0 x.1) in
        let number : n + 1 ≡ suc n = omega arith in
        let last = ap (λ (m : ℕ). sum_by h (take m xs)) number in
        omega arith
