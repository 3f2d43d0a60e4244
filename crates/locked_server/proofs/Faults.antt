-- The faults of fronts of connections, looked for one after another.
use Rattle.std.proofs.Common.{◌≡◌, ℕ, ◌+◌, ◌<◌, inl, inr, Bool, true, false, List, length, Some, refl, sym, ap, ◌∙◌, slice_get, arith}
use Rattle.std.specs.Prelude.{◌≢◌, ⊤, Result, Ok, Err}
use Rattle.std.proofs.lemmas.Bool.{cases_lt, true≢false}
use Rattle.std.proofs.lemmas.Option.{slice_get_within}
use Rattle.fronts.specs.declared.totals.ServeFault.{ServeFault}
use Rattle.fronts.specs.declared.totals.ServeFault.TheVariants.{Net, NoMemory}
use Rattle.fronts.specs.declared.totals.Totals.{Totals}
use Rattle.served.specs.FrontRuns.{SumsUp}
use Rattle.list_laws.proofs.Places.{from_map}
use Rattle.locked_server.specs.Running.{IsFaultOf}

abbrev Answer : Type 0
Answer = Result ⊤ ServeFault

-- what stands after the first k answers: each fault among them is one of a port, and it was noted where there is one
pub record FaultTo (k : ℕ) (answers : List Answer) (failed : Bool) : Type 0 where
  pub found : failed ≡ true → (f : ℕ) × (slice_get answers f ≡ Some (Err Net))
  pub only : (f : ℕ) (fault : ServeFault) → f < k → slice_get answers f ≡ Some (Err fault) → (fault ≡ Net) × (failed ≡ true)

pub none_seen : (answers : List Answer) → FaultTo 0 answers false
none_seen answers = record { found = λ no. absurd (true≢false (sym no)); only = λ f fault low. absurd (omega arith) }

pub no_fault_more : (k : ℕ) (answers : List Answer) (failed : Bool) (all_well : ⊤) → FaultTo k answers failed → slice_get answers k ≡ Some (Ok all_well) → FaultTo (k + 1) answers failed
no_fault_more k answers failed all_well so_far here = record {
  found = so_far.found;
  only = λ f fault low at.
      elim (cases_lt f k) as (λ _. (fault ≡ Net) × (failed ≡ true)) [
        | inl before ↦ so_far.only f fault before at
        | inr past ↦ let same : f ≡ k = omega (arith, past, low) in let both = sym here ∙ ap (slice_get answers) (sym same) ∙ at in absurd (cc)
      ];
}

pub fault_more : (k : ℕ) (answers : List Answer) (failed : Bool) → FaultTo k answers failed → slice_get answers k ≡ Some (Err Net) → FaultTo (k + 1) answers true
fault_more k answers failed so_far here = record {
  found = λ _. (k, here);
  only = λ f fault low at.
      elim (cases_lt f k) as (λ _. (fault ≡ Net) × (true ≡ true)) [
        | inl before ↦ ((so_far.only f fault before at).0, refl)
        | inr past ↦ let same : f ≡ k = omega (arith, past, low) in let both : Some (Err fault) ≡ Some (Err Net) = sym at ∙ ap (slice_get answers) same ∙ here in (cc, refl)
      ];
}

pub fault_in : (k : ℕ) (answers : List Answer) → length answers ≡ k → FaultTo k answers true → IsFaultOf answers (Err Net)
fault_in k answers whole all = (
  λ f at. let low = slice_get_within answers f (Err NoMemory) at in let clash : NoMemory ≡ Net = (all.only f NoMemory (omega (arith, low, whole)) at).0 in cc,
  all.found refl,
)

pub no_fault : (k : ℕ) (answers : List Answer) → length answers ≡ k → FaultTo k answers false → (f : ℕ) (fault : ServeFault) → slice_get answers f ≢ Some (Err fault)
no_fault k answers whole all f fault at = let low = slice_get_within answers f (Err fault) at in true≢false (sym (all.only f fault (omega (arith, low, whole)) at).1)

abbrev as_ok : Totals → Result Totals ServeFault
as_ok totals = Ok totals

-- where all are counted, no front of datagrams lacks memory
pub all_counted : (fronts : List (Result Totals ServeFault)) (totals : Totals) → SumsUp fronts (Ok totals) → (f : ℕ) → slice_get fronts f ≢ Some (Err NoMemory)
all_counted fronts totals sums f at = let t = from_map as_ok sums.0 f (Err NoMemory) (ap (λ l. slice_get l f) (sym sums.1) ∙ at) in let clash : as_ok t.0 ≡ Err NoMemory = t.2 in cc
