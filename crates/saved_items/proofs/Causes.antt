-- Causes, from call to call.
use Rattle.std.proofs.Common.{◌≡◌, ◌≤◌, ℕ, inl, inr, subst, sym, arith}
use Rattle.std.specs.Prelude.{Result, Ok, Err, IsErrAnd, IfErr}
use Rattle.outside.specs.Faults.{Rose}
use Rattle.saved_items.specs.declared.fault.SavedFault.{SavedFault}
use Rattle.saved_items.specs.declared.fault.SavedFault.TheVariants as faults
use Rattle.saved_items.specs.Causes.{HasCause}

-- a count that rose since later, rose since earlier
rose_since : (first now after : ℕ) → first ≤ now → Rose now after → Rose first after
rose_since first now after less (inl rose) = inl (omega arith)
rose_since first now after less (inr last) = inr last

module _ (first now after : ℕ) (P Q : Type 0) (less : first ≤ now) (more : P → Q) where
  cause_since : (fault : SavedFault) → HasCause now after P fault → HasCause first after Q fault
  cause_since faults.Failed has = rose_since first now after less has
  cause_since faults.Refused has = more has
  cause_since fault has = tt

  -- with the fault as `?` hands it on
  pub handed_cause : {X : Type 0} (fault : SavedFault) (result : Result X SavedFault) → IsErrAnd result (λ e. e ≡ fault) → HasCause now after P fault → IfErr result (HasCause first after Q)
  handed_cause fault (Ok x) is has = absurd is
  handed_cause fault (Err e) is has = cause_since e (subst (HasCause now after P) (sym is) has)

  pub same_cause : {X : Type 0} (result : Result X SavedFault) → IfErr result (HasCause now after P) → IfErr result (HasCause first after Q)
  same_cause (Ok x) has = tt
  same_cause (Err e) has = cause_since e has

-- who takes entries refused one
pub refused_cause : {X : Type 0} (before after : ℕ) (P : Type 0) (result : Result X SavedFault) → IsErrAnd result (λ e. e ≡ faults.Refused) → P → IfErr result (HasCause before after P)
refused_cause before after P (Ok x) is has = absurd is
refused_cause before after P (Err e) is has = subst (HasCause before after P) (sym is) has
