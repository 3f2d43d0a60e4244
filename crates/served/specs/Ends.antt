-- The ends behind which the fronts stand, as contracts see them.
use Rattle.std.specs.Prelude.{◌≡◌, ◌≢◌, ◌+◌, ◌<◌, ◌≤◌, ◌⊎◌, ℕ, Bool, true, false, List, [], take, drop, map, length, slice_get, nat_lt, Option, Some, is_some, IfSome, All, Result, Ok, Err}
use Rattle.outside.specs.Faults.{Rose}
use Rattle.outside.specs.declared.datagrams.Datagrams.{Ghosts as EndTells}
use Rattle.outside.specs.Traffic.{Datagram, Traffic, EndScript, new_traffic}
use Rattle.outside.specs.PortStates.{PortStates, waiting, out, back}
use Rattle.partition_model.specs.declared.options.Options.{Options}
use Rattle.partition_model.specs.History.{History}
use Rattle.fronts.specs.declared.totals.Totals.{Totals}
use Rattle.fronts.specs.declared.totals.ServeFault.{ServeFault}
use Rattle.fronts.specs.declared.totals.ServeFault.TheVariants.{Net, NoMemory}
use Rattle.partition_table.specs.declared.tables.KeptSeat.{KeptSeat}
use Rattle.datagram_answers.specs.Dealing.{Dealing, IsDealing, due_to}
use Rattle.fronts.specs.Placed.{Placed}
use Rattle.datagram_answers.specs.DealingTotals.{AreTotalsOf}
use Rattle.datagram_answers.specs.OneEnd.{BeginsEnd, IsShort}
use Rattle.served.specs.Others.{Others, all_answers}
use Rattle.served.specs.Served.{IsThrough}
use Rattle.served.specs.Beside.{AreAnsweredBeside, RunsPartitions, AreServedTables, HaveShapes}

-- what contracts see of an end at one moment
pub record EndFacts : Type 0 where
  pub port : ℕ
  pub traffic : Option Traffic
  pub faults : ℕ
  pub has_ended : Bool
  pub has_script : Bool

-- by what an end tells
abbrev pub end_facts : {D : Type 0} → EndTells D → D → EndFacts
end_facts end = λ e. record { port = end.port e; traffic = end.traffic e; faults = end.faults e; has_ended = end.has_ended e; has_script = is_some (end.script e) }

-- an end that was just bound to this port
pub record IsNewEnd (port : ℕ) (end : EndFacts) : Type 0 where
  pub port_is : end.port ≡ port
  pub no_faults : end.faults ≡ 0
  pub unended : end.has_ended ≡ false
  pub fresh : IfSome end.traffic (λ t. t ≡ new_traffic t.left)

-- the ends are new, at ports one after another
abbrev pub AreNewEnds : ℕ → List EndFacts → Type 0
AreNewEnds first ends = (i : ℕ) (end : EndFacts) → slice_get ends i ≡ Some end → IsNewEnd (first + i) end

-- the ends stand at ports one after another
abbrev pub AreAtPorts : ℕ → List EndFacts → Type 0
AreAtPorts first ends = (i : ℕ) (end : EndFacts) → slice_get ends i ≡ Some end → end.port ≡ first + i

-- no end has come to its end, received or sent
abbrev pub AreOpen : List EndFacts → Type 0
AreOpen ends = (i : ℕ) (end : EndFacts) → slice_get ends i ≡ Some end → (end.has_ended ≡ false) × IfSome end.traffic (λ t. t ≡ new_traffic t.left)

-- the end has left what its port had waiting
pub record WaitedAt (before : PortStates) (port : ℕ) (end : EndFacts) : Type 0 where
  pub datagrams : List Datagram
  pub foretold : EndScript
  pub waited : before port ≡ waiting datagrams foretold
  pub told : end.traffic ≡ Some (new_traffic datagrams)
  pub scripted : end.has_script ≡ true

-- the ports of the ends waited, and are out; no others changed
pub record BindsEnds (first : ℕ) (ends : List EndFacts) (before after : PortStates) : Type 0 where
  pub each : (i : ℕ) (end : EndFacts) → slice_get ends i ≡ Some end → WaitedAt before (first + i) end
  pub out : (i : ℕ) → i < length ends → after (first + i) ≡ out
  pub others : (q : ℕ) → ((i : ℕ) → i < length ends → q ≢ first + i) → after q ≡ before q

-- each end is back with what it tells, and no other port changed
pub record ReleasesEnds (first : ℕ) (ends : List EndFacts) (before after : PortStates) : Type 0 where
  pub each : (i : ℕ) (end : EndFacts) (traffic : Traffic) → slice_get ends i ≡ Some end → end.traffic ≡ Some traffic
      → after (first + i) ≡ back traffic end.has_ended
  pub others : (q : ℕ) → ((i : ℕ) → i < length ends → q ≢ first + i) → after q ≡ before q

-- What a front made of an end and what it left, without its answers: the datagrams, what was sent, and whether the end came.
pub record DealsWithEnd (batches : ℕ) (dealings : List Dealing) (before after : EndFacts) : Type 0 where
  pub had : Traffic
  pub had_is : before.traffic ≡ Some had
  pub each : All IsDealing dealings
  pub asked : map (λ d. d.datagram) dealings ≡ take batches had.left
  pub told : after.traffic ≡ Some (record { left = drop batches had.left; received = take batches had.left; sent = due_to dealings })
  pub at_end : after.has_ended ≡ nat_lt (length had.left) batches

-- what it made of an end in part, or left untouched
pub record DealsInPartWithEnd (batches : ℕ) (dealings : List Dealing) (unread : List Datagram) (before after : EndFacts) : Type 0 where
  pub had : Traffic
  pub has : Traffic
  pub had_is : before.traffic ≡ Some had
  pub has_is : after.traffic ≡ Some has
  pub begins : BeginsEnd batches dealings unread had has

-- each end was dealt with at least in part, and one datagram of it at most is unread
abbrev pub BeginsEnds : ℕ → List EndFacts → List EndFacts → Type 0
BeginsEnds batches before after =
    (i : ℕ) (old new : EndFacts) → slice_get before i ≡ Some old → slice_get after i ≡ Some new
    → (dealings : List Dealing) × (unread : List Datagram) × (length unread ≤ 1) × DealsInPartWithEnd batches dealings unread old new

-- it stopped at a fault
pub record StopsEnd (batches : ℕ) (before after : EndFacts) : Type 0 where
  pub dealings : List Dealing
  pub part : DealsInPartWithEnd batches dealings [] before after
  pub short : IsShort batches dealings after.has_ended part.has

-- it was dealt with in part, and to the end where no fault came
pub record MayStopAtEnd (batches : ℕ) (dealings : List Dealing) (before after : EndFacts) : Type 0 where
  pub part : DealsInPartWithEnd batches dealings [] before after
  pub through : IsThrough batches part.has after.has_ended dealings ⊎ Rose before.faults after.faults

-- an end keeps its port, its count does not fall, and it goes on telling what it told
pub record KeepsEnd (before after : EndFacts) : Type 0 where
  pub port : after.port ≡ before.port
  pub never_fall : before.faults ≤ after.faults
  pub tells : is_some before.traffic ≡ true → is_some after.traffic ≡ true
  pub scripted : after.has_script ≡ before.has_script

abbrev pub TellAll : List EndFacts → Type 0
TellAll ends = (i : ℕ) (end : EndFacts) → slice_get ends i ≡ Some end → is_some end.traffic ≡ true

-- each front dealt with its end, beside each other and the others, and these are the tables of their partitions
pub record ServesAll (others : Others) (options : Options) (origin : ℕ → History) (batches : ℕ) (totals : Totals) (kept : List KeptSeat) (before after : List EndFacts) : Type 0 where
  pub fronts : List (List Dealing)
  pub runs : ℕ → List Placed
  pub many : length fronts ≡ length before
  pub each : (f : ℕ) (dealings : List Dealing) (b a : EndFacts) → slice_get fronts f ≡ Some dealings → slice_get before f ≡ Some b → slice_get after f ≡ Some a
      → DealsWithEnd batches dealings b a
  pub ran : RunsPartitions options origin (length (all_answers others fronts)) runs
  pub answered : AreAnsweredBeside options origin runs (all_answers others fronts)
  pub counted : AreTotalsOf fronts totals
  pub tables : AreServedTables options origin (all_answers others fronts) runs kept

-- one of the fronts stopped at a fault
pub record StopsSome (batches : ℕ) (before after : List EndFacts) : Type 0 where
  pub front : ℕ
  pub old : EndFacts
  pub new : EndFacts
  pub was : slice_get before front ≡ Some old
  pub is : slice_get after front ≡ Some new
  pub rose : Rose old.faults new.faults
  pub stops : TellAll before → StopsEnd batches old new

-- no fault came at the ends that tell their scripts
abbrev pub HasNoEndFault : List EndFacts → List EndFacts → Type 0
HasNoEndFault before after = (i : ℕ) (old new : EndFacts) → slice_get before i ≡ Some old → slice_get after i ≡ Some new → old.has_script ≡ true
    → new.faults ≡ old.faults

-- each front dealt with its end in part, beside each other and the others
pub record StopsBeside (others : Others) (options : Options) (origin : ℕ → History) (batches : ℕ) (before after : List EndFacts) : Type 0 where
  pub fronts : List (List Dealing)
  pub runs : ℕ → List Placed
  pub many : length fronts ≡ length before
  pub each : (f : ℕ) (dealings : List Dealing) (b a : EndFacts) → slice_get fronts f ≡ Some dealings → slice_get before f ≡ Some b → slice_get after f ≡ Some a
      → MayStopAtEnd batches dealings b a
  pub ran : RunsPartitions options origin (length (all_answers others fronts)) runs
  pub answered : AreAnsweredBeside options origin runs (all_answers others fronts)

-- what each answer says of the ends and of the tables that are kept
abbrev pub MeansForEnds : Others → Result Totals ServeFault → Options → (ℕ → History) → ℕ → List KeptSeat → List EndFacts → List EndFacts → Type 0
MeansForEnds others (Ok totals) options origin batches kept before after =
    HaveShapes options kept × HasNoEndFault before after × (TellAll before → ServesAll others options origin batches totals kept before after)
MeansForEnds others (Err Net) options origin batches kept before after =
    (kept ≡ []) × (StopsSome batches before after ⊎ others.stopped) × (TellAll before → StopsBeside others options origin batches before after)
MeansForEnds others (Err NoMemory) options origin batches kept before after = kept ≡ []

-- the fronts were served, beside each other and the others
pub record ServesFronts (others : Others) (options : Options) (origin : ℕ → History) (batches : ℕ) (answer : Result Totals ServeFault) (kept : List KeptSeat)
    (before after : List EndFacts) : Type 0 where
  pub many : length after ≡ length before
  pub keeps : (i : ℕ) (b a : EndFacts) → slice_get before i ≡ Some b → slice_get after i ≡ Some a → KeepsEnd b a
  pub begins : TellAll before → BeginsEnds batches before after
  pub means : MeansForEnds others answer options origin batches kept before after
