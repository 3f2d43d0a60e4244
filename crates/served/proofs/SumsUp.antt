-- The answers of fronts, added one after another.
use Rattle.std.proofs.Common.{◌≡◌, ℕ, ◌+◌, ◌*◌, ◌<◌, ◌≤◌, ◌⊎◌, inl, inr, Bool, true, false, List, [], ◌∷◌, ◌++◌, length, map, take, Some, refl, sym, ap, ◌∙◌, subst, slice_get, get_or, arith}
use Rattle.std.specs.Prelude.{◌≢◌, Result, Ok, Err}
use Rattle.std.proofs.lemmas.Bool.{cases_lt, true≢false}
use Rattle.std.proofs.lemmas.List.{map-append, take_more, take_all}
use Rattle.std.proofs.lemmas.List.Sums.{sum_by_push}
use Rattle.std.proofs.lemmas.Option.{slice_get_within, slice_get-get_or, get_or_from_slice_get}
use Rattle.server_words.specs.declared.limits.TheConstants.{MAX_BATCHES}
use Rattle.fronts.specs.declared.totals.Totals.{Totals}
use Rattle.fronts.specs.declared.totals.ServeFault.{ServeFault}
use Rattle.fronts.specs.declared.totals.ServeFault.TheVariants.{Net, NoMemory}
use Rattle.fronts.specs.Totals.{IsUpTo, added, none_counted}
use Rattle.served.specs.Others.{Others}
use Rattle.served.specs.FrontRuns.{sum_of_totals, SumsUp, ComesTo}

abbrev Answer : Type 0
Answer = Result Totals ServeFault

-- the first k answers are totals, and these are their sum
abbrev pub AreSummed : ℕ → List Answer → Totals → Type 0
AreSummed k answers totals = (all : List Totals) × (take k answers ≡ map (λ (t : Totals). Ok t) all) × (totals ≡ sum_of_totals all)

-- one of them is a fault of the net
abbrev pub HasFailed : ℕ → List Answer → Type 0
HasFailed k answers = (f : ℕ) × (f < k) × (slice_get answers f ≡ Some (Err Net))

-- What stands after the first k answers, where one is a fault or none is.
pub record SumsTo (k : ℕ) (answers : List Answer) (failed : Bool) (totals : Totals) : Type 0 where
  pub summed : failed ≡ false → AreSummed k answers totals
  pub fault : failed ≡ true → HasFailed k answers
  pub no_want : (i : ℕ) → i < k → slice_get answers i ≢ Some (Err NoMemory)
  pub batches : totals.batches ≤ MAX_BATCHES * k
  pub requests : totals.requests ≤ 255 * MAX_BATCHES * k
  pub refused : totals.bad ≤ MAX_BATCHES * k

pub sums_none : (answers : List Answer) → SumsTo 0 answers false none_counted
sums_none answers = record {
  summed = λ _. ([], refl, refl);
  fault = λ no. absurd (true≢false (sym no));
  no_want = λ i lt. absurd (omega arith);
  batches = omega arith;
  requests = omega arith;
  refused = omega arith;
}

pub answer_at : (answers : List Answer) (k : ℕ) (answer : Answer) → get_or answers k (Ok none_counted) ≡ answer → k < length answers → slice_get answers k ≡ Some answer
answer_at answers k answer is less = slice_get-get_or answers k (Ok none_counted) less ∙ ap Some is

taken : (k : ℕ) (answers : List Answer) (answer : Answer) → slice_get answers k ≡ Some answer → take (k + 1) answers ≡ take k answers ++ answer ∷ []
taken k answers answer is =
    take_more answers k answer (slice_get_within answers k answer is) ∙ ap (λ (a : Answer). take k answers ++ a ∷ []) (get_or_from_slice_get answers k answer answer is)

summed_more : (all : List Totals) (one : Totals) → added (sum_of_totals all) one ≡ sum_of_totals (all ++ one ∷ [])
summed_more all one = λ i. record {
  batches = sym (sum_by_push (λ (x : Totals). x.batches) all one) i;
  requests = sym (sum_by_push (λ (x : Totals). x.requests) all one) i;
  bad = sym (sum_by_push (λ (x : Totals). x.bad) all one) i;
}

wants_more : (k : ℕ) (answers : List Answer) (answer : Answer) → slice_get answers k ≡ Some answer → answer ≢ Err NoMemory
    → ((i : ℕ) → i < k → slice_get answers i ≢ Some (Err NoMemory)) → (i : ℕ) → i < k + 1 → slice_get answers i ≢ Some (Err NoMemory)
wants_more k answers answer is other before i lt = by (cases_lt i k)
  where
    by : (i < k) ⊎ (k ≤ i) → slice_get answers i ≢ Some (Err NoMemory)
    by (inl less) = before i less
    by (inr more) = λ e. let here : slice_get answers i ≡ Some answer = subst (λ (n : ℕ). slice_get answers n ≡ Some answer) (omega arith) is in other (cc)

pub sums_one : (k : ℕ) (answers : List Answer) (failed : Bool) (totals one : Totals) → SumsTo k answers failed totals → slice_get answers k ≡ Some (Ok one) → IsUpTo MAX_BATCHES one
    → SumsTo (k + 1) answers failed (added totals one)
sums_one k answers failed totals one s is small = record {
  summed = λ fine.
      let all = s.summed fine in (
        all.0 ++ one ∷ [],
        taken k answers (Ok one) is ∙ ap (λ (l : List Answer). l ++ Ok one ∷ []) all.1 ∙ sym (map-append (λ (t : Totals). Ok t) all.0 (one ∷ [])),
        ap (λ (t : Totals). added t one) all.2 ∙ summed_more all.0 one,
      );
  fault = λ bad. let f = s.fault bad in (f.0, omega (arith, f.1), f.2);
  no_want = wants_more k answers (Ok one) is (λ e. cc) s.no_want;
  batches = omega (arith, s.batches, small.datagrams);
  requests = omega (arith, s.requests, small.requests);
  refused = omega (arith, s.refused, small.refused);
}

pub sums_failed : (k : ℕ) (answers : List Answer) (failed : Bool) (totals : Totals) → SumsTo k answers failed totals → slice_get answers k ≡ Some (Err Net) → SumsTo (k + 1) answers true totals
sums_failed k answers failed totals s is = record {
  summed = λ no. absurd (true≢false no);
  fault = λ _. (k, omega arith, is);
  no_want = wants_more k answers (Err Net) is (λ e. cc) s.no_want;
  batches = omega (arith, s.batches);
  requests = omega (arith, s.requests);
  refused = omega (arith, s.refused);
}

pub sums_all : (answers : List Answer) (totals : Totals) → SumsTo (length answers) answers false totals → SumsUp answers (Ok totals)
sums_all answers totals s = let all = s.summed refl in (all.0, sym (take_all (length answers) answers (omega arith)) ∙ all.1, all.2)

pub sums_fault : (answers : List Answer) (totals : Totals) → SumsTo (length answers) answers true totals → SumsUp answers (Err Net)
sums_fault answers totals s = let f = s.fault refl in (f.0, f.2, no_want)
  where
    no_want : (i : ℕ) → slice_get answers i ≢ Some (Err NoMemory)
    no_want i = λ e. s.no_want i (slice_get_within answers i (Err NoMemory) e) e

-- what they sum up to is what all come to, where none of the others stopped
pub sums_beside : (others : Others) (answers : List Answer) (answer : Answer) → SumsUp answers answer → ComesTo others answers answer
sums_beside others answers (Ok totals) s = s
sums_beside others answers (Err Net) s = (inl (s.0, s.1), s.2)
sums_beside others answers (Err NoMemory) s = tt
