-- What is known of fronts that were served beside each other, once their owners have taken in what each of them has in hand.
use Rattle.std.specs.Prelude.{false, ◌≡◌, ◌+◌, ◌<◌, ◌≤◌, ℕ, zero, suc, List, ◌++◌, [], length, slice_get, Option, Some, None, All, sum_by}
use Rattle.partition_model.specs.declared.options.Options.{Options}
use Rattle.partition_model.specs.History.{History, IsHistory, IsPrefix}
use Rattle.partition_model.specs.Run.{RunStep, IsRunFrom}
use Rattle.partition_words.specs.Shape.{shape_of}
use Rattle.partition_table.specs.declared.tables.KeptSeat.{KeptSeat}
use Rattle.server_words.specs.declared.ports.PortOptions.{PortOptions}
use Rattle.fronts.specs.declared.totals.Totals.{Totals}
use Rattle.outside.specs.PortStates.{PortStates}
use Rattle.fronts.specs.Answered.{Answered, gets_of, count_of_writes}
use Rattle.datagram_answers.specs.Dealing.{Dealing}
use Rattle.fronts.specs.Session.{Told, Sessions, AnswersInOrder}
use Rattle.fronts.specs.Placed.{Placed, steps_in, steps_by, history_in}
use Rattle.served.specs.Others.{Others, all_answers}
use Rattle.served.specs.Served.{Served}
use Rattle.datagram_answers.specs.DealingTotals.{AreTotalsOf}

-- how many tries a session closed
abbrev pub closed_of : Option Told → ℕ
closed_of None = 0
closed_of (Some told) = told.closed

-- the sum of a number for each partition
abbrev pub total_below : ℕ → (ℕ → ℕ) → ℕ
total_below zero f = 0
total_below (suc n) f = total_below n f + f n

-- nothing was told yet
pub record IsUntold (told : Told) : Type 0 where
  pub steps : told.steps ≡ []
  pub closed : told.closed ≡ 0

-- A front was answered so, in order. In each partition it saw at first what that began with, and what it has seen begins the history, and the answers that it took begin those to
-- its writes in the partition's run, in all of which together there are no more than it was asked for.
pub record AnsweredBeside (options : Options) (origin : ℕ → History) (runs : ℕ → List Placed) (f : ℕ) (answered : List Answered) (old new : Sessions) : Type 0 where
  pub answers : AnswersInOrder options false old answered new
  pub starts : (p : ℕ) → p < options.partitions → (told : Told) × ((old p).told ≡ Some told) × IsUntold told
  pub began : (p : ℕ) → p < options.partitions → (old p).seen ≡ origin p
  pub seen : (p : ℕ) → p < options.partitions → IsPrefix (new p).seen (origin p ++ history_in (runs p))
  pub took : (p : ℕ) (told : Told) → p < options.partitions → (new p).told ≡ Some told
      → (later : List RunStep) × (steps_by f (runs p) ≡ told.steps ++ later)
  pub few : total_below options.partitions (λ p. length (steps_by f (runs p))) ≤ count_of_writes answered

-- each front was answered beside all of these
abbrev pub AreAnsweredBeside : Options → (ℕ → History) → (ℕ → List Placed) → List (List Answered) → Type 0
AreAnsweredBeside options origin runs fronts =
    (f : ℕ) (answers : List Answered) → slice_get fronts f ≡ Some answers → (old : Sessions) × (new : Sessions) × AnsweredBeside options origin runs f answers old new

-- each partition's machine accepted what it began with, and ran from there on the writes of these fronts alone
pub record RunsPartitions (options : Options) (origin : ℕ → History) (fronts : ℕ) (runs : ℕ → List Placed) : Type 0 where
  pub filled : (p : ℕ) → p < options.partitions → IsHistory options (origin p)
  pub run : (p : ℕ) → p < options.partitions → IsRunFrom options (origin p) (steps_in (runs p))
  pub no_others : (p : ℕ) → p < options.partitions → All (λ q. q.front < fronts) (runs p)

-- how many gets the fronts answered in a partition
abbrev pub gets_answered : Options → ℕ → List (List Answered) → ℕ
gets_answered options p fronts = sum_by (λ answers. length (gets_of options p answers)) fronts

-- the seat of partition p has what that began with and then the fronts' accepted writes, and their seats closed one try for each get
pub record IsServedSeat (options : Options) (origin : ℕ → History) (fronts : List (List Answered)) (runs : ℕ → List Placed) (p : ℕ) (entry : KeptSeat) : Type 0 where
  pub history : entry.history ≡ origin p ++ history_in (runs p)
  pub closed : entry.closed ≡ gets_answered options p fronts

-- one seat for each partition, in order
pub record AreServedTables (options : Options) (origin : ℕ → History) (fronts : List (List Answered)) (runs : ℕ → List Placed) (kept : List KeptSeat) : Type 0 where
  pub each : (p : ℕ) (entry : KeptSeat) → slice_get kept p ≡ Some entry → IsServedSeat options origin fronts runs p entry

-- the fronts served beside the others, the totals count what they did, and these are their tables
pub record ServesOnTables (others : Others) (options : Options) (origin : ℕ → History) (ports : PortOptions) (totals : Totals) (kept : List KeptSeat) (before after : PortStates) : Type 0 where
  pub fronts : List (List Dealing)
  pub runs : ℕ → List Placed
  pub served : Served others options origin ports before after fronts runs
  pub counted : AreTotalsOf fronts totals
  pub tables : AreServedTables options origin (all_answers others fronts) runs kept

-- one seat of the options' shape for each partition
pub record HaveShapes (options : Options) (kept : List KeptSeat) : Type 0 where
  pub many : length kept ≡ options.partitions
  pub shapes : (p : ℕ) (entry : KeptSeat) → slice_get kept p ≡ Some entry → entry.shape ≡ shape_of options
