-- What the fronts of a server came to, each beside the others, and what their owners took in of them.
use Rattle.std.specs.Prelude.{false, ◌≡◌, ◌≢◌, ◌+◌, ◌<◌, ◌≤◌, ◌⊎◌, ⊤, ℕ, true, List, ◌++◌, map, length, slice_get, Some, sum_by, Result, Ok, Err}
use Rattle.outside.specs.Faults.{Rose}
use Rattle.partition_model.specs.declared.options.Options.{Options}
use Rattle.partition_model.specs.History.{History, IsPrefix}
use Rattle.partition_model.specs.Run.{RunStep}
use Rattle.partition_table.specs.declared.tables.KeptSeat.{KeptSeat}
use Rattle.fronts.specs.declared.totals.Totals.{Totals}
use Rattle.fronts.specs.declared.totals.ServeFault.{ServeFault}
use Rattle.fronts.specs.declared.totals.ServeFault.TheVariants.{Net, NoMemory}
use Rattle.fronts.specs.Session.{Told, Sessions}
use Rattle.fronts.specs.Placed.{Placed, steps_by, history_in}
use Rattle.served.specs.Others.{Others}
use Rattle.served.specs.Beside.{closed_of, total_below, IsUntold, AreAnsweredBeside, RunsPartitions, HaveShapes, gets_answered}
use Rattle.served.specs.Ends.{EndFacts, KeepsEnd}
use Rattle.datagram_answers.specs.OneEnd.{OnTraffic, ServesEnd, LeavesEnd, WantsAtEnd}
use Rattle.fronts.specs.Totals.{IsUpTo}

-- a front before and after it was served: its answer, its sessions, and how many writes it could still be given
pub record FrontRun : Type 0 where
  pub answer : Result Totals ServeFault
  pub old : Sessions
  pub new : Sessions
  pub left : ℕ
  pub left_after : ℕ

-- what each answer of a front says of its end
abbrev pub MeansForFront : Result Totals ServeFault → Options → ℕ → FrontRun → EndFacts → EndFacts → Type 0
MeansForFront (Ok totals) options batches run before after =
    IsUpTo batches totals × (before.has_script ≡ true → after.faults ≡ before.faults)
    × OnTraffic (ServesEnd options false run.old run.left batches after.has_ended totals run.new run.left_after) before.traffic after.traffic
MeansForFront (Err Net) options batches run before after =
    Rose before.faults after.faults × OnTraffic (LeavesEnd options false run.old run.left batches after.has_ended run.new run.left_after) before.traffic after.traffic
MeansForFront (Err NoMemory) options batches run before after = OnTraffic (WantsAtEnd batches) before.traffic after.traffic

-- a front was served at its end
pub record RunsFront (options : Options) (batches : ℕ) (run : FrontRun) (before after : EndFacts) : Type 0 where
  pub keeps : KeepsEnd before after
  pub means : MeansForFront run.answer options batches run before after

-- each front was served at the end of its place
pub record RunFronts (options : Options) (batches : ℕ) (runs : List FrontRun) (before after : List EndFacts) : Type 0 where
  pub many_before : length before ≡ length runs
  pub many_after : length after ≡ length runs
  pub each : (f : ℕ) (run : FrontRun) (b a : EndFacts) → slice_get runs f ≡ Some run → slice_get before f ≡ Some b → slice_get after f ≡ Some a
      → RunsFront options batches run b a

-- how many tries of the front's seat of the partition answered
abbrev pub closed_in : ℕ → FrontRun → ℕ
closed_in p run = closed_of (run.new p).told

-- The owners took in all that a front had in hand: its seats, its jobs and the answers that it took.
pub record IsTakenIn (options : Options) (origin : ℕ → History) (runs : ℕ → List Placed) (f : ℕ) (run : FrontRun) : Type 0 where
  pub starts : (p : ℕ) → p < options.partitions → (told : Told) × ((run.old p).told ≡ Some told) × IsUntold told
  pub began : (p : ℕ) → p < options.partitions → (run.old p).seen ≡ origin p
  pub seen : (p : ℕ) → p < options.partitions → IsPrefix (run.new p).seen (origin p ++ history_in (runs p))
  pub took : (p : ℕ) (told : Told) → p < options.partitions → (run.new p).told ≡ Some told
      → (later : List RunStep) × (steps_by f (runs p) ≡ told.steps ++ later)
  pub sent : total_below options.partitions (λ p. length (steps_by f (runs p))) + run.left_after ≤ run.left

-- the owners took in all fronts, and the others before them, and these are the seats that they may leave
pub record AreTakenIn (others : Others) (options : Options) (origin : ℕ → History) (fronts : List FrontRun) (kept : List KeptSeat) : Type 0 where
  pub runs : ℕ → List Placed
  pub ran : RunsPartitions options origin (length others.answers + length fronts) runs
  pub before : AreAnsweredBeside options origin runs others.answers
  pub each : (f : ℕ) (run : FrontRun) → slice_get fronts f ≡ Some run → IsTakenIn options origin runs (length others.answers + f) run
  pub shapes : HaveShapes options kept
  pub history : (p : ℕ) (entry : KeptSeat) → slice_get kept p ≡ Some entry → entry.history ≡ origin p ++ history_in (runs p)
  pub closed : (p : ℕ) (entry : KeptSeat) → slice_get kept p ≡ Some entry → entry.closed ≡ gets_answered options p others.answers + sum_by (closed_in p) fronts

-- the workers of a server ran beside the others, and their owners took in all fronts
pub record RanAll (others : Others) (options : Options) (origin : ℕ → History) (batches : ℕ) (kept : List KeptSeat) (answers : List (Result Totals ServeFault)) (before after : List EndFacts) : Type 0 where
  pub fronts : List FrontRun
  pub answers_are : answers ≡ map (λ r. r.answer) fronts
  pub run : RunFronts options batches fronts before after
  pub taken : AreTakenIn others options origin fronts kept

-- the totals of all
abbrev pub sum_of_totals : List Totals → Totals
sum_of_totals all = record { batches = sum_by (λ t. t.batches) all; requests = sum_by (λ t. t.requests) all; bad = sum_by (λ t. t.bad) all }

-- Out of memory, if any front ran out of it; else a fault of any; else the totals are the sum.
abbrev pub SumsUp : List (Result Totals ServeFault) → Result Totals ServeFault → Type 0
SumsUp answers (Ok totals) = (all : List Totals) × (answers ≡ map Ok all) × (totals ≡ sum_of_totals all)
SumsUp answers (Err Net) = (f : ℕ) × (slice_get answers f ≡ Some (Err Net)) × ((i : ℕ) → slice_get answers i ≢ Some (Err NoMemory))
SumsUp answers (Err NoMemory) = (f : ℕ) × (slice_get answers f ≡ Some (Err NoMemory))

-- What fronts beside others come to: out of memory of any; else a fault of any, or that one of the others stopped; else the totals are the sum.
abbrev pub ComesTo : Others → List (Result Totals ServeFault) → Result Totals ServeFault → Type 0
ComesTo others answers (Ok totals) = SumsUp answers (Ok totals)
ComesTo others answers (Err Net) =
    (((f : ℕ) × (slice_get answers f ≡ Some (Err Net))) ⊎ others.stopped) × ((i : ℕ) → slice_get answers i ≢ Some (Err NoMemory))
ComesTo others answers (Err NoMemory) = ⊤
