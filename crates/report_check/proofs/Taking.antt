-- The step that is printed for a write, and what the machine says of it.
use Rattle.std.proofs.Common.{◌≡◌, ℕ, Bool, true, false, refl, sym, subst, eqb, MatchBool, arith}
use Rattle.std.proofs.lemmas.Grind.{common_steps}
use Rattle.partition_model.specs.declared.options.Options.{Options}
use Rattle.partition_model.specs.declared.write.Op.{Op}
use Rattle.partition_model.specs.declared.write.Write.{Write}
use Rattle.partition_model.specs.declared.write.Outcome.{Outcome}
use Rattle.partition_model.specs.Cache.{Cache}
use Rattle.partition_model.specs.CacheStep.{reply}
use Rattle.partition_model.specs.History.{History, State, cache_state, Allows, IsStep, state_of, stamp_in}
use Rattle.partition_model.specs.Run.{IsRunFrom}
use Rattle.partition_model.specs.Write.{write_of}
use Rattle.mica_trace.specs.declared.line.TraceLine.{TraceLine}
use Rattle.mica_trace.specs.declared.report.Line.TheVariants.{Wrote}
use Rattle.mica_trace.specs.Rounds.{op_of}
use Rattle.mica_trace.specs.LawfulReport.{IsReplyTo}
use Rattle.report_check.specs.declared.cache_buckets.CacheBuckets.{CacheBuckets}
use Rattle.report_check.specs.declared.machine.Machine.{Machine}
use Rattle.report_check.specs.declared.machine.Machine.TheVariants.{Cache as OfCache}
use Rattle.report_check.specs.Judged.{step_at, TakesStep}
use Rattle.report_check.specs.Machines.{options_in, AreBuckets, IsAt, IsAfter, TakesWrite, TakesInBuckets}

module _ (options : Options) (history : History) (line : TraceLine) (op : Op) (outcome : Outcome) (stamp : ℕ) (replies : IsReplyTo (op_of line.op) op) where
  abbrev write : Write
  write = write_of op line.key line.value

  module _ (old new : Machine) (was : IsAfter options history old) where
    -- the machine may take it, and then has a stamp
    pub stamped : (may : Bool) → MatchBool may (TakesWrite (state_of options history) write outcome old new) (¬ (Allows (options_in old) (state_of options history) write outcome)) → may ≡ true
        → (found : ℕ) → ((state : State) → IsAt state new → found ≡ stamp_in state)
        → MatchBool (eqb found stamp) (TakesStep options history line (Wrote op outcome stamp) new) (¬ (IsRunFrom options history (step_at line (Wrote op outcome stamp))))
    stamped may takes is found stamps = grind (arith, common_steps)

-- the machine of cache mode takes what its buckets do
pub machine_takes : (m new : CacheBuckets) (may : Bool) (write : Write) (outcome : Outcome)
    → ((cache : Cache) → AreBuckets cache m → MatchBool may (TakesInBuckets cache write outcome m new) (¬ (outcome ≡ reply m.options cache write)))
    → (self : Machine) → self ≡ OfCache m → (state : State) → IsAt state self → MatchBool may (TakesWrite state write outcome self (OfCache new)) (¬ (Allows (options_in self) state write outcome))
machine_takes m new true write outcome says self is state at =
    let here : IsAt state (OfCache m) = subst (IsAt state) is at in
    let taken = says here.0 here.2 in
    subst (λ (x : Machine). TakesWrite state write outcome x (OfCache new)) (sym is) (record {
      now = cache_state taken.now;
      step = subst (λ s. IsStep m.options s write outcome (cache_state taken.now)) (sym here.1) taken.step;
      at = (taken.now, refl, taken.buckets);
      options = taken.options;
    })
machine_takes m new false write outcome says self is state at = grind (arith, common_steps)
