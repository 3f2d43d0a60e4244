-- What the fronts of a server received and replied to.
use Rattle.std.specs.Prelude.{◌≡◌, ◌+◌, ◌<◌, ◌≤◌, ◌⊎◌, ℕ, Bool, true, List, [], ◌∷◌, ◌++◌, ⊤, sum, take, drop, map, length, slice_get, nat_lt, Some, AllPairs, All}
use Rattle.outside.specs.Traffic.{Datagram, Traffic, EndScript}
use Rattle.outside.specs.PortStates.{Port, PortStates, waiting, back, is_waiting}
use Rattle.partition_model.specs.declared.options.Options.{Options}
use Rattle.partition_model.specs.History.{History, IsHistory, IsPrefix, stamp_of, answer_of}
use Rattle.partition_model.specs.Run.{RunStep, IsRunFrom, history_of}
use Rattle.server_words.specs.declared.ports.PortOptions.{PortOptions}
use Rattle.fronts.specs.declared.totals.Totals.{Totals}
use Rattle.fronts.specs.Looks.{Look, IsLookAt}
use Rattle.fronts.specs.Answered.{Answered, wrote, got, changed, kept, key_of, stamp_given, accepts, answers_of, writes_of, gets_of}
use Rattle.datagram_answers.specs.Dealing.{Dealing, IsDealing, due_to}
use Rattle.fronts.specs.Placed.{Placed, steps_by, steps_in, history_in}
use Rattle.datagram_answers.specs.OneEnd.{BeginsAs}
use Rattle.datagram_answers.specs.DealingTotals.{AreTotalsOf}
use Rattle.served.specs.Others.{Others, all_answers}

-- One front and its port

-- The front received the datagrams of its port in order, until so many of them, or until the end where there are fewer, and sent what is due to
-- each before it received the next one.
pub record ServesPort (batches : ℕ) (before after : Port) (dealings : List Dealing) : Type 0 where
  pub datagrams : List Datagram
  pub script : EndScript
  pub waited : before ≡ waiting datagrams script
  pub released : after ≡ back (record { left = drop batches datagrams; received = take batches datagrams; sent = due_to dealings })
      (nat_lt (length datagrams) batches)
  pub received : map (λ e. e.datagram) dealings ≡ take batches datagrams
  pub each : All IsDealing dealings

-- Partitions

-- no partition was filled
abbrev pub empty_origin : ℕ → History
empty_origin partition = []

-- The partition's machine accepted what it began with. The writes of all fronts are one run of it from there, in which those of each front stand in
-- the order in which they were answered.
pub record ServesWrites (options : Options) (origin : History) (partition : ℕ) (fronts : List (List Answered)) (placed : List Placed) : Type 0 where
  pub filled : IsHistory options origin
  pub run : IsRunFrom options origin (steps_in placed)
  pub each : (f : ℕ) (answers : List Answered) → slice_get fronts f ≡ Some answers → writes_of options partition answers ≡ steps_by f placed
  pub no_others : All (λ q. q.front < length fronts) placed

-- a get is answered as of a beginning of the history, with all that its partition began with
pub record ServesGet (options : Options) (origin history : History) (answered : Answered) : Type 0 where
  pub cut : History
  pub begins : IsPrefix cut history
  pub filled : IsPrefix origin cut
  pub is : answered ≡ got (key_of answered) (stamp_of options cut) (answer_of options cut (key_of answered))

-- The partition's run is some steps, then this one, then others: it was made of what the machine has behind those before it.
pub record ServesChange (options : Options) (origin : History) (run : List RunStep) (step : RunStep) (look : Look) : Type 0 where
  pub earlier : List RunStep
  pub later : List RunStep
  pub stands : run ≡ earlier ++ step ∷ later
  pub looked : IsLookAt options (origin ++ history_of earlier) step.write.key look

-- what was found and left is what the machine has behind a beginning of the history, with all that its partition began with
pub record ServesKept (options : Options) (origin history : History) (key : List ℕ) (stamp : ℕ) (look : Look) : Type 0 where
  pub cut : History
  pub begins : IsPrefix cut history
  pub filled : IsPrefix origin cut
  pub stamped : stamp ≡ stamp_of options cut
  pub looked : IsLookAt options cut key look

-- a look at a key, with the write that was made of it if any
abbrev pub ServesLook : Options → History → List RunStep → Answered → Type 0
ServesLook options origin run (wrote step) = ⊤
ServesLook options origin run (got key stamp value) = ⊤
ServesLook options origin run (changed step look) = ServesChange options origin run step look
ServesLook options origin run (kept key stamp look) = ServesKept options origin (origin ++ history_of run) key stamp look

-- No stamp falls, of a write or of a get, and an accepted write's is above all before it: so a get sees each write of its front that was accepted
-- before it, and none behind it.
abbrev pub NoFall : Answered → Answered → Type 0
NoFall earlier later =
    (stamp_given earlier ≤ stamp_given later) × (accepts later ≡ true → stamp_given earlier < stamp_given later)

-- All fronts

-- The writes of all fronts are one run of each partition's machine, from what it began with, each get is its answer, each look is what
-- it has there, with nothing between a look and the write made of it, and the stamps given to each front never fall.
pub record AnswersLawfully (options : Options) (origin : ℕ → History) (fronts : List (List Answered)) (runs : ℕ → List Placed) : Type 0 where
  pub writes : (p : ℕ) → p < options.partitions → ServesWrites options (origin p) p fronts (runs p)
  pub gets : (p f : ℕ) (answers : List Answered) → p < options.partitions → slice_get fronts f ≡ Some answers
      → All (ServesGet options (origin p) (origin p ++ history_in (runs p))) (gets_of options p answers)
  pub looks : (p f : ℕ) (answers : List Answered) → p < options.partitions → slice_get fronts f ≡ Some answers
      → All (ServesLook options (origin p) (steps_in (runs p))) (answers_of options p answers)
  pub order : (p f : ℕ) (answers : List Answered) → p < options.partitions → slice_get fronts f ≡ Some answers
      → AllPairs NoFall (answers_of options p answers)

-- What the ports of a net tell before and after, what each front made of its datagrams, and a run of each partition's machine, in which what the
-- others beside these fronts answered stands too.
pub record Served (others : Others) (options : Options) (origin : ℕ → History) (ports : PortOptions) (before after : PortStates) (fronts : List (List Dealing))
    (runs : ℕ → List Placed) : Type 0 where
  pub many : length fronts ≡ ports.fronts
  pub datagrams : (f : ℕ) (dealings : List Dealing) → slice_get fronts f ≡ Some dealings
      → ServesPort ports.batches (before (ports.port + f)) (after (ports.port + f)) dealings
  pub answered : AnswersLawfully options origin (all_answers others fronts) runs

-- the fronts served, and the totals count what they did
pub record ServesAndCounts (others : Others) (options : Options) (origin : ℕ → History) (ports : PortOptions) (totals : Totals) (before after : PortStates) : Type 0 where
  pub fronts : List (List Dealing)
  pub runs : ℕ → List Placed
  pub served : Served others options origin ports before after fronts runs
  pub counted : AreTotalsOf fronts totals

-- Where a fault came

-- The front received a beginning of the datagrams of its port, at most so many of them, dealt with all of these but the last ones that are
-- unread, and sent a beginning of what is due to those that it dealt with.
pub record BeginsPort (batches : ℕ) (before : Port) (traffic : Traffic) (dealings : List Dealing) (unread : List Datagram) : Type 0 where
  pub datagrams : List Datagram
  pub script : EndScript
  pub waited : before ≡ waiting datagrams script
  pub in_order : datagrams ≡ traffic.received ++ traffic.left
  pub few : length traffic.received ≤ batches
  pub received : map (λ e. e.datagram) dealings ++ unread ≡ traffic.received
  pub each : All IsDealing dealings
  pub sent : BeginsAs traffic.sent (due_to dealings)

-- the port of a front is as it was, or its end is back
abbrev pub LeavesPort : ℕ → Port → Port → List Dealing → List Datagram → Type 0
LeavesPort batches before after dealings unread =
    ((after ≡ before) × (dealings ≡ []) × (unread ≡ []))
    ⊎ ((traffic : Traffic) × (ended : Bool) × (after ≡ back traffic ended) × BeginsPort batches before traffic dealings unread)

-- nothing was received at the port of any front, and nothing was sent
abbrev pub LeavesUnserved : PortOptions → PortStates → PortStates → Type 0
LeavesUnserved ports before after =
    (f : ℕ) → f < ports.fronts → LeavesPort ports.batches (before (ports.port + f)) (after (ports.port + f)) [] []

-- what was sent from each port is a beginning of what is due to what came there, of which one datagram at most is unread
abbrev pub BeginsPorts : PortOptions → PortStates → PortStates → Type 0
BeginsPorts ports before after =
    (f : ℕ) → f < ports.fronts → (dealings : List Dealing) × (unread : List Datagram) × (length unread ≤ 1)
    × LeavesPort ports.batches (before (ports.port + f)) (after (ports.port + f)) dealings unread

-- all that is due was sent, and the datagrams ended, or so many were received
abbrev pub IsThrough : ℕ → Traffic → Bool → List Dealing → Type 0
IsThrough batches traffic ended dealings =
    (traffic.sent ≡ due_to dealings) × ((ended ≡ true) ⊎ (length traffic.received ≡ batches))

-- the end of a front is back, and the front is through
abbrev pub CameThrough : ℕ → Port → List Dealing → Type 0
CameThrough batches after dealings = (traffic : Traffic) × (ended : Bool) × (after ≡ back traffic ended) × IsThrough batches traffic ended dealings

-- the end of a front is back, and the front is not through, whatever else may be due to its datagrams
abbrev pub IsCutShort : ℕ → Port → Type 0
IsCutShort batches (back traffic ended) =
    (dealings : List Dealing) → All IsDealing dealings → map (λ e. e.datagram) dealings ≡ traffic.received
    → ¬ (IsThrough batches traffic ended dealings)
IsCutShort batches after = ⊥

-- the port of a front waited, and the front is not through
abbrev pub IsStopped : ℕ → Port → Port → Type 0
IsStopped batches before after = (is_waiting before ≡ true) × IsCutShort batches after

-- So many faults of each front's own are all that the net counted, and a front that had none came through.
pub record BlamesFronts (ports : PortOptions) (counts : ℕ → Type 0) (fronts : List (List Dealing)) (after : PortStates) : Type 0 where
  pub faults : List ℕ
  pub many : length faults ≡ ports.fronts
  pub counted : counts (sum faults)
  pub through : (f : ℕ) (dealings : List Dealing) → slice_get fronts f ≡ Some dealings → slice_get faults f ≡ Some 0
      → CameThrough ports.batches (after (ports.port + f)) dealings

-- Each front began its port with these dealings, and all that was answered is lawful. A bind failed, or some front is not through, or a fault came
-- to one of the others; and each front that is not through had a fault of its own.
pub record StopsShort (others : Others) (options : Options) (origin : ℕ → History) (ports : PortOptions) (bind_failed : Type 0) (counts : ℕ → Type 0) (before after : PortStates)
    : Type 0 where
  pub fronts : List (List Dealing)
  pub runs : ℕ → List Placed
  pub many : length fronts ≡ ports.fronts
  pub each : (f : ℕ) (dealings : List Dealing) → slice_get fronts f ≡ Some dealings
      → LeavesPort ports.batches (before (ports.port + f)) (after (ports.port + f)) dealings []
  pub answered : AnswersLawfully options origin (all_answers others fronts) runs
  pub some : bind_failed ⊎ ((f : ℕ) × (f < ports.fronts) × IsStopped ports.batches (before (ports.port + f)) (after (ports.port + f))) ⊎ others.stopped
  pub blamed : bind_failed ⊎ BlamesFronts ports counts fronts after
