-- What a front came to at its end.
use Rattle.std.proofs.Common.{◌≡◌, ℕ, true, refl, Some, None, Option, sym}
use Rattle.std.specs.Prelude.{is_some, false, IfOk, OnOk, IsErrOf, Result, Ok, Err, ⊤}
use Rattle.std.proofs.lemmas.Bool.{true≢false}
use Rattle.outside.specs.Faults.{Rose}
use Rattle.outside.specs.Traffic.{Traffic}
use Rattle.partition_model.specs.declared.options.Options.{Options}
use Rattle.fronts.specs.declared.totals.Totals.{Totals}
use Rattle.fronts.specs.declared.totals.ServeFault.{ServeFault}
use Rattle.fronts.specs.declared.totals.ServeFault.TheVariants.{Net, NoMemory}
use Rattle.served.specs.Ends.{EndFacts, KeepsEnd}
use Rattle.datagram_answers.specs.OneEnd.{OnTraffic, ServesEnd, LeavesEnd, WantsAtEnd}
use Rattle.fronts.specs.Totals.{IsUpTo}
use Rattle.served.specs.FrontRuns.{FrontRun, MeansForFront, RunsFront}

pub runs_front : (options : Options) (batches : ℕ) (run : FrontRun) (b a : EndFacts) → KeepsEnd b a
    → IfOk run.answer (λ totals. OnTraffic (ServesEnd options false run.old run.left batches a.has_ended totals run.new run.left_after) b.traffic a.traffic)
    → (IsErrOf run.answer Net → OnTraffic (LeavesEnd options false run.old run.left batches a.has_ended run.new run.left_after) b.traffic a.traffic)
    → (IsErrOf run.answer NoMemory → OnTraffic (WantsAtEnd batches) b.traffic a.traffic) → (IsErrOf run.answer Net → Rose b.faults a.faults)
    → IfOk run.answer (IsUpTo batches) → OnOk run.answer (b.has_script ≡ true → a.faults ≡ b.faults) → RunsFront options batches run b a
runs_front options batches run b a keeps served stopped wants cause small steady = record { keeps = keeps; means = by run.answer served stopped wants cause small steady }
  where
    by : (answer : Result Totals ServeFault)
        → IfOk answer (λ totals. OnTraffic (ServesEnd options false run.old run.left batches a.has_ended totals run.new run.left_after) b.traffic a.traffic)
        → (IsErrOf answer Net → OnTraffic (LeavesEnd options false run.old run.left batches a.has_ended run.new run.left_after) b.traffic a.traffic)
        → (IsErrOf answer NoMemory → OnTraffic (WantsAtEnd batches) b.traffic a.traffic) → (IsErrOf answer Net → Rose b.faults a.faults)
        → IfOk answer (IsUpTo batches) → OnOk answer (b.has_script ≡ true → a.faults ≡ b.faults) → MeansForFront answer options batches run b a
    by (Ok totals) served stopped wants cause small steady = (small, steady, served)
    by (Err Net) served stopped wants cause small steady = (cause refl, stopped refl)
    by (Err NoMemory) served stopped wants cause small steady = wants refl

-- an end that tells what waits at it goes on telling it
pub tells_still : (b a : Option Traffic) → OnTraffic (λ before after. ⊤) b a → is_some b ≡ true → is_some a ≡ true
tells_still None a on told = absurd (true≢false (sym told))
tells_still (Some b) None on told = absurd on
tells_still (Some b) (Some a) on told = refl
