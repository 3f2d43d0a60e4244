-- What a net tells before and after a call.
use Rattle.std.specs.Prelude.{◌≡◌, ◌≢◌, ◌+◌, ◌⊎◌, ℕ, ◌<◌, ◌≤◌, true, List, [], length, slice_get, Option, Some, None, is_some, IfSome, min, sum_by, Result, Ok, Err}
use Rattle.outside.specs.PortStates.{PortStates, out}
use Rattle.outside.specs.declared.net.Net.{Ghosts as NetTells}
use Rattle.outside.specs.Faults.{Rose, LAST_COUNT}
use Rattle.partition_model.specs.declared.options.Options.{Options}
use Rattle.partition_model.specs.History.{History, IsHistory}
use Rattle.server_words.specs.declared.ports.PortOptions.{PortOptions}
use Rattle.fronts.specs.declared.totals.Totals.{Totals}
use Rattle.fronts.specs.declared.totals.ServeFault.{ServeFault}
use Rattle.fronts.specs.declared.totals.ServeFault.TheVariants.{Net, NoMemory}
use Rattle.partition_table.specs.declared.tables.KeptSeat.{KeptSeat}
use Rattle.served.specs.Others.{Others, HaveAnsweredNothing}
use Rattle.served.specs.Served.{ServesAndCounts, StopsShort, BeginsPorts, LeavesUnserved}
use Rattle.served.specs.Beside.{ServesOnTables, HaveShapes}
use Rattle.served.specs.Ends.{EndFacts, AreNewEnds, BindsEnds, ReleasesEnds, KeepsEnd, TellAll, BeginsEnds, MeansForEnds}

-- what contracts see of a net at one moment
pub record NetFacts : Type 0 where
  pub faults : ℕ
  pub binds : ℕ
  pub first : ℕ
  pub refused : ℕ
  pub ports : Option PortStates
  pub fails : Option (List ℕ)

-- by what a net tells
abbrev pub net_facts : {N E : Type 0} → NetTells N E → N → NetFacts
net_facts net = λ n. record { faults = net.faults n; binds = net.binds n; first = net.first n; refused = net.refused n; ports = net.ports n; fails = net.fails n }

-- a fact of the ports before and after, where the net tells them; it goes on telling them, or telling nothing
abbrev pub OnPorts : (PortStates → PortStates → Type 0) → Option PortStates → Option PortStates → Type 0
OnPorts P None after = after ≡ None
OnPorts P (Some before) None = ⊥
OnPorts P (Some before) (Some after) = P before after

-- where a net tells its ports and its failing binds beforehand, no fault came
abbrev pub HasNoFault : NetFacts → NetFacts → Type 0
HasNoFault before after = IfSome before.ports (λ _. IfSome before.fails (λ _. after.faults ≡ before.faults))

-- the fronts served, and the totals count what they did
pub record HasServed (others : Others) (options : Options) (origin : ℕ → History) (ports : PortOptions) (totals : Totals) (before after : NetFacts) : Type 0 where
  pub served : OnPorts (ServesAndCounts others options origin ports totals) before.ports after.ports
  pub no_fault : HasNoFault before after

-- where the net tells its failing binds beforehand, its count rose by so many, as far as it can count
abbrev pub CountsFaults : NetFacts → NetFacts → ℕ → Type 0
CountsFaults before after faults = is_some before.fails ≡ true → min after.faults LAST_COUNT ≡ min (before.faults + faults) LAST_COUNT

-- A fault of the net stopped a front or a bind, or a fault came to one of the others. What was answered until then is lawful.
pub record HasStopped (others : Others) (options : Options) (origin : ℕ → History) (ports : PortOptions) (before after : NetFacts) : Type 0 where
  pub rose : Rose before.faults after.faults ⊎ others.stopped
  pub stopped : OnPorts (StopsShort others options origin ports (before.refused < after.refused) (CountsFaults before after)) before.ports after.ports

-- the fronts served, the totals count what they did, and these are the tables of their partitions
pub record HasServedOnTables (others : Others) (options : Options) (origin : ℕ → History) (ports : PortOptions) (totals : Totals) (kept : List KeptSeat) (before after : NetFacts) : Type 0 where
  pub served : OnPorts (ServesOnTables others options origin ports totals kept) before.ports after.ports
  pub no_fault : HasNoFault before after
  pub shapes : HaveShapes options kept

-- What each answer says of the net and of the tables that are kept. Out of memory says nothing more of the net than `KeepsNet`.
abbrev pub IsCauseOf : Others → Result Totals ServeFault → Options → (ℕ → History) → PortOptions → List KeptSeat → NetFacts → NetFacts → Type 0
IsCauseOf others (Ok totals) options origin ports kept before after = HasServedOnTables others options origin ports totals kept before after
IsCauseOf others (Err Net) options origin ports kept before after = (kept ≡ []) × HasStopped others options origin ports before after
IsCauseOf others (Err NoMemory) options origin ports kept before after = kept ≡ []

-- What an answer says where one was come to. Where there is none, the ports were bound, and the fronts were not served.
abbrev pub IsCauseOnceBound : Others → Option (Result Totals ServeFault) → Options → (ℕ → History) → PortOptions → List KeptSeat → NetFacts → NetFacts → Type 0
IsCauseOnceBound others (Some answer) options origin ports kept before after = IsCauseOf others answer options origin ports kept before after
IsCauseOnceBound others None options origin ports kept before after = (kept ≡ []) × OnPorts (LeavesUnserved ports) before.ports after.ports

-- no end is out that was not out before, and only ports of fronts changed
pub record ReleasesAll (ports : PortOptions) (before after : PortStates) : Type 0 where
  pub released : (port : ℕ) → after port ≡ out → before port ≡ out
  pub others : (port : ℕ) → ((f : ℕ) → f < ports.fronts → port ≢ ports.port + f) → after port ≡ before port

-- Whatever the answer: at most one bind for each front, from the first port on, each end is back, and what was sent is a beginning of what is due.
pub record KeepsNet (ports : PortOptions) (before after : NetFacts) : Type 0 where
  pub binds : after.binds ≤ ports.fronts
  pub first : 0 < after.binds → after.first ≡ ports.port
  pub never_fall : before.faults ≤ after.faults
  pub released : OnPorts (ReleasesAll ports) before.ports after.ports
  pub begins : OnPorts (BeginsPorts ports) before.ports after.ports

-- a bind failed, and no end was served
pub record FailsToBind (before after : NetFacts) (olds news : List EndFacts) : Type 0 where
  pub rose : Rose before.faults after.faults
  pub refused : before.refused < after.refused
  pub untouched : news ≡ olds

-- What each answer says, once the ends were bound; out of memory says nothing but that no table is kept. With no answer the ends were not served.
abbrev pub MeansForRun : Others → Option (Result Totals ServeFault) → Options → (ℕ → History) → PortOptions → List KeptSeat → NetFacts → NetFacts → List EndFacts → List EndFacts → Type 0
MeansForRun others (Some (Ok totals)) options origin ports kept before after olds news =
    (length olds ≡ ports.fronts) × (is_some before.fails ≡ true → after.faults ≡ before.faults)
    × MeansForEnds others (Ok totals) options origin ports.batches kept olds news
MeansForRun others (Some (Err Net)) options origin ports kept before after olds news =
    (FailsToBind before after olds news × (kept ≡ []) × HaveAnsweredNothing others)
    ⊎ ((length olds ≡ ports.fronts) × (is_some before.fails ≡ true → after.faults ≡ before.faults)
    × MeansForEnds others (Err Net) options origin ports.batches kept olds news)
MeansForRun others (Some (Err NoMemory)) options origin ports kept before after olds news = kept ≡ []
MeansForRun others None options origin ports kept before after olds news = (length olds ≡ ports.fronts) × (news ≡ olds) × (kept ≡ [])

-- The ports were bound, up to the first bind that failed, and the fronts served; these ends are left to be released.
pub record BindsAndServes (others : Others) (options : Options) (origin : ℕ → History) (ports : PortOptions) (answer : Option (Result Totals ServeFault)) (kept : List KeptSeat)
    (before after : NetFacts) (news : List EndFacts) : Type 0 where
  pub olds : List EndFacts
  pub are_new : AreNewEnds ports.port olds
  pub bound : OnPorts (BindsEnds ports.port olds) before.ports after.ports
  pub filled : (p : ℕ) → p < options.partitions → IsHistory options (origin p)
  pub within : length olds ≤ ports.fronts
  pub many : length news ≡ length olds
  pub keeps : (i : ℕ) (b a : EndFacts) → slice_get olds i ≡ Some b → slice_get news i ≡ Some a → KeepsEnd b a
  pub never_fall : before.faults ≤ after.faults
  pub fails : after.fails ≡ before.fails
  pub binds : after.binds ≤ ports.fronts
  pub first : 0 < after.binds → after.first ≡ ports.port
  pub begins : TellAll olds → BeginsEnds ports.batches olds news
  pub means : MeansForRun others answer options origin ports kept before after olds news

-- the ends were released, and the net tells what they tell
pub record ReleasesNet (first : ℕ) (ends : List EndFacts) (before after : NetFacts) : Type 0 where
  pub told : OnPorts (ReleasesEnds first ends) before.ports after.ports
  pub cause : (i : ℕ) (end : EndFacts) → slice_get ends i ≡ Some end → 0 < end.faults → Rose before.faults after.faults
  pub steady : is_some before.fails ≡ true → ((i : ℕ) (end : EndFacts) → slice_get ends i ≡ Some end → end.faults ≡ 0) → after.faults ≡ before.faults
  pub counted : CountsFaults before after (sum_by (λ e. e.faults) ends)
  pub never_fall : before.faults ≤ after.faults
  pub binds : after.binds ≡ before.binds
  pub first_is : after.first ≡ before.first
  pub refused : after.refused ≡ before.refused
