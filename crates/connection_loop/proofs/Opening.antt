-- What each call of connections keeps open.
use Rattle.std.proofs.Common.{◌≡◌, ◌≢◌, ℕ, ◌+◌, ◌*◌, ◌<◌, ◌≤◌, List, [], ◌∷◌, length, refl, sym, ap, ◌∙◌, subst, arith}
use Rattle.std.specs.Prelude.{slice_get, take, min, is_some, Option, Some, None, Result, Ok, Err, IfSome}
use Rattle.std.proofs.lemmas.Option.{same_Some}
use Rattle.std.proofs.lemmas.Bool.{true≢false}
use Rattle.std.proofs.lemmas.List.{length-take-le}
use Rattle.connections.specs.declared.schedule.Change.{Change}
use Rattle.connections.specs.declared.schedule.Step.{Step}
use Rattle.connections.specs.declared.schedule.Step.TheVariants.{Opens, TurnsAway, Reports, Happens}
use Rattle.connections.specs.declared.connections.Event.{Event}
use Rattle.connections.specs.declared.connections.Event.TheVariants.{Opened, TurnedAway, Ready}
use Rattle.connections.specs.declared.connections.Input.{Input}
use Rattle.connections.specs.declared.connections.Input.TheVariants.{Bytes, All, Later, Ended}
use Rattle.connections.specs.declared.connections.Broken.{Broken}
use Rattle.connections.specs.Connection.{Connection, after_change, after_read, after_write}
use Rattle.connections.specs.State.{State, Entry, held, state_after, after_report, after_meeting}
use Rattle.connections.specs.Log.{Log, IsHeld, connections_of, state_of, now_of, with_entries, after_met, after_meeting_one}
use Rattle.connections.specs.Calls.{GivesSome, IsGiven, ReadGives, WriteTakes, MayAsk, Asks, Closes, ReportsNext, IsNext, gave, took, after_sending}
use Rattle.connection_loop.specs.Open.{asks_in, IsAt, IsOpen, IsOpenIn, Keeps, KeepsOthers, AsksOnce, OnLogs, IsOpened, gained}
use Rattle.connection_loop.proofs.Places.{KeepsOpen, changed_keeps, changed_here, there, asked_here, asked_others, closed_others, pushed, pushed_here}

pub change_keeps : (change : Change) → KeepsOpen (after_change change)
change_keeps change = record { number = λ x. refl; closed = λ x. refl; asks = λ x. omega arith }

pub read_keeps : (count : ℕ) → KeepsOpen (after_read count)
read_keeps count = record { number = λ x. refl; closed = λ x. refl; asks = λ x. omega arith }

pub write_keeps : (count : ℕ) → KeepsOpen (after_write count)
write_keeps count = record { number = λ x. refl; closed = λ x. refl; asks = λ x. omega arith }

pub met_one : (schedule : List Step) (entries : List Entry) (later : List Step) → (state_after schedule entries).later ≡ later → (n d a : ℕ)
    → IsAt n d a (state_after schedule entries).connections → IsAt n d a (state_after schedule (after_meeting_one later entries)).connections
met_one schedule entries [] is n d a at = at
met_one schedule entries (Opens window bytes ∷ later) is n d a at = at
met_one schedule entries (TurnsAway ∷ later) is n d a at = at
met_one schedule entries (Reports c change ∷ later) is n d a at = at
met_one schedule entries (Happens c change ∷ later) is n d a at =
    let s = state_after schedule entries in
    subst (λ l. IsAt n d a (after_meeting s l).connections) (sym is) (changed_keeps (after_change change) (change_keeps change) c s.connections n d a at)

pub met_at : (log : Log) (n d a : ℕ) → IsAt n d a (connections_of log) → IsAt n d a (connections_of (after_met log))
met_at log n d a at = met_one log.schedule log.entries (state_of log).later refl n d a at

-- all stay open as a read answers, and this one may be asked for so often
abbrev ReadAt : ℕ → ℕ → ℕ → ℕ → Connection → Result Input Broken → Log → Type 0
ReadAt t number c asks x answer met =
    ((n d a : ℕ) → IsAt n d a (connections_of met) → IsAt n d a (connections_of (with_entries (gave t c x answer) met)))
    × IsAt number c (asks + gained answer) (connections_of (with_entries (gave t c x answer) met))

some_at : (t number c asks most : ℕ) (x : Connection) (out : List ℕ) (count : ℕ) (met : Log) → slice_get (connections_of met) c ≡ Some x
    → IsAt number c asks (connections_of met) → GivesSome x most out count → ReadAt t number c asks x (Ok (Bytes count)) met
some_at t number c asks most x out count met is at given =
    let k = length (take count x.waiting) in
    let fits : count ≤ length x.waiting = let m = given.1 in omega (arith, m) in
    let same : k ≡ count = length-take-le count x.waiting fits in
    let here : asks_in (slice_get (connections_of met) c) ≡ x.asks = ap asks_in is in
    let after : asks_in (slice_get (connections_of (with_entries (gave t c x (Ok (Bytes count))) met)) c) ≡ x.asks + 2 * k =
    ap asks_in (changed_here c (after_read k) (connections_of met) x is) in
    let moved = changed_keeps (after_read k) (read_keeps k) c (connections_of met) in
    (moved, ((moved number c asks at).0, omega (arith, at.1, here, after, same)))

-- the answer of a read is taken note of
read_at : (t number c asks most : ℕ) (x : Connection) (out : List ℕ) (answer : Result Input Broken) (met : Log) → slice_get (connections_of met) c ≡ Some x
    → IsAt number c asks (connections_of met) → IsGiven x most out answer → ReadAt t number c asks x answer met
read_at t number c asks most x out (Ok (Bytes count)) met is at given = some_at t number c asks most x out count met is at given
read_at t number c asks most x out (Ok (All count)) met is at given = some_at t number c asks most x out count met is at given.0
read_at t number c asks most x out (Ok Later) met is at given = (λ n d a at. at, (at.0, omega (arith, at.1)))
read_at t number c asks most x out (Ok Ended) met is at given = (λ n d a at. at, (at.0, omega (arith, at.1)))
read_at t number c asks most x out (Err broken) met is at given = (λ n d a at. at, (at.0, omega (arith, at.1)))

sent_at : (c : ℕ) (bytes : List ℕ) (met : Log) (n d a : ℕ) → IsAt n d a (connections_of met) → IsAt n d a (connections_of (with_entries (after_sending c bytes) met))
sent_at c [] met n d a at = at
sent_at c (byte ∷ bytes) met n d a at =
    changed_keeps (after_write (length (byte ∷ bytes))) (write_keeps (length (byte ∷ bytes))) c (connections_of met) n d a at

took_at : (c : ℕ) (bytes : List ℕ) (answer : Result ℕ Broken) (met : Log) (n d a : ℕ) → IsAt n d a (connections_of met) → IsAt n d a (connections_of (with_entries (took c bytes answer) met))
took_at c bytes (Ok count) met n d a at = sent_at c (take count bytes) met n d a at
took_at c bytes (Err broken) met n d a at = at

-- of the connection under a number, by its place and what open there
pub found : {X : Type 0} (P : X → Type 0) (o : Option X) (c : X) → o ≡ Some c → IfSome o P → P c
found P o c is p = subst (λ h. IfSome h P) is p

-- what a call made of the log, where it was told
told : (old : Log) (new : Option Log) (made : Log) (P : Log → Log → Type 0) → new ≡ Some made → P old made → OnLogs P (Some old) new
told old new made P is p = subst (λ o. OnLogs P (Some old) o) (sym is) p

-- a read keeps all open, and lets its connection be asked for again more often
abbrev pub Receives : ℕ → ℕ → Log → Log → Type 0
Receives number asks old new = Keeps old new × IsOpen number asks new

read_told : (number room asks : ℕ) (out : List ℕ) (answer : Result Input Broken) (old : Log) (new : Option Log) → IsOpen number asks old
    → ReadGives number room out answer old new → OnLogs (Receives number (asks + gained answer)) (Some old) new
read_told number room asks out answer old new stands gives =
    let at = met_at old number stands.0 asks stands.1 in
    let x = there number stands.0 (connections_of (after_met old)) at.0 in
    let g = found _ (held number (connections_of old)) stands.0 stands.1.0 gives in
    let g' = found _ (slice_get (connections_of (after_met old)) stands.0) x.0 x.1 g in
    let t = now_of (after_met old) in
    let r = read_at t number stands.0 asks (min room old.script.piece) x.0 out answer (after_met old) x.1 at g'.0 in
    told old new (with_entries (gave t stands.0 x.0 answer) (after_met old)) (Receives number (asks + gained answer)) g'.1
    (λ n a o. (o.0, r.0 n o.0 a (met_at old n o.0 a o.1)), (stands.0, r.1))

pub receives : (number room asks : ℕ) (out : List ℕ) (answer : Result Input Broken) (old new : Option Log) → IfSome old (IsOpen number asks)
    → IfSome old (λ l. ReadGives number room out answer l new) → OnLogs (Receives number (asks + gained answer)) old new
receives number room asks out answer None new stands gives = tt
receives number room asks out answer (Some old) new stands gives = read_told number room asks out answer old new stands gives

write_told : (number asks : ℕ) (bytes : List ℕ) (answer : Result ℕ Broken) (old : Log) (new : Option Log) → IsOpen number asks old
    → WriteTakes number bytes answer old new → OnLogs Keeps (Some old) new
write_told number asks bytes answer old new stands takes =
    let at = met_at old number stands.0 asks stands.1 in
    let x = there number stands.0 (connections_of (after_met old)) at.0 in
    let g = found _ (held number (connections_of old)) stands.0 stands.1.0 takes in
    let g' = found _ (slice_get (connections_of (after_met old)) stands.0) x.0 x.1 g in
    told old new (with_entries (took stands.0 bytes answer) (after_met old)) Keeps g'.1
    (λ n a o. (o.0, took_at stands.0 bytes answer (after_met old) n o.0 a (met_at old n o.0 a o.1)))

pub sends : (number asks : ℕ) (bytes : List ℕ) (answer : Result ℕ Broken) (old new : Option Log) → IfSome old (IsOpen number asks)
    → IfSome old (λ l. WriteTakes number bytes answer l new) → OnLogs Keeps old new
sends number asks bytes answer None new stands takes = tt
sends number asks bytes answer (Some old) new stands takes = write_told number asks bytes answer old new stands takes

pub asks_once : (number asks : ℕ) (old new : Option Log) → IfSome old (IsOpen number asks) → IfSome old (λ l. Asks number l new) → OnLogs (AsksOnce number asks) old new
asks_once number asks None new stands asked = tt
asks_once number asks (Some old) new stands asked =
    told old new _ (AsksOnce number asks) (found _ (held number (connections_of old)) stands.0 stands.1.0 asked) (
      λ n a other o. (o.0, asked_others number stands.0 n o.0 a (connections_of old) other stands.1.0 o.1),
      (stands.0, asked_here number stands.0 asks (connections_of old) stands.1),
    )

pub closes : (number asks : ℕ) (old new : Option Log) → IfSome old (IsOpen number asks) → IfSome old (λ l. Closes number l new) → OnLogs (KeepsOthers number) old new
closes number asks None new stands closed = tt
closes number asks (Some old) new stands closed =
    told old new _ (KeepsOthers number) (found _ (held number (connections_of old)) stands.0 stands.1.0 closed)
    (λ n a other o. (o.0, closed_others number stands.0 n o.0 a (connections_of old) other stands.1.0 o.1))

-- what is open may be read, written, and asked for again
pub is_held : (number asks : ℕ) (old : Option Log) → IfSome old (IsOpen number asks) → IfSome old (IsHeld number)
is_held number asks None stands = tt
is_held number asks (Some old) stands = ap is_some stands.1.0

pub may_ask : (number asks : ℕ) (old : Option Log) → 0 < asks → IfSome old (IsOpen number asks) → IfSome old (MayAsk number)
may_ask number asks None some stands = tt
may_ask number asks (Some old) some stands =
    λ c is. let x = there number c (connections_of old) is in
    let same : stands.0 ≡ c = same_Some stands.0 c (sym stands.1.0 ∙ is) in
    let here : asks_in (slice_get (connections_of old) stands.0) ≡ x.0.asks = ap (λ d. asks_in (slice_get (connections_of old) d)) same ∙ ap asks_in x.1 in
    let more : 0 < x.0.asks = omega (arith, some, stands.1.1, here) in
    subst (λ o. IfSome o (λ connection. 0 < connection.asks)) (sym x.1) more

-- what is reported keeps all stands, and a new connection is open
abbrev pub Tells : Event → Log → Log → Type 0
Tells event old new = Keeps old new × IsOpened event new

-- the number under which it is entered; where a connection was turned away that is no matter
abbrev pub number_in : Event → ℕ
number_in (Opened number) = number
number_in TurnedAway = 0
number_in (Ready number) = number

pub next_at : (event : Event) (s : State) (later : List Step) → IsNext event s.connections later → (n d a : ℕ) → IsAt n d a s.connections
    → IsAt n d a (after_report (number_in event) s later).connections
next_at (Opened number) s [] is n d a at = absurd is
next_at (Opened number) s (Opens window bytes ∷ later) is n d a at = pushed n d a s.connections _ at
next_at (Opened number) s (TurnsAway ∷ later) is n d a at = absurd is
next_at (Opened number) s (Reports c change ∷ later) is n d a at = absurd is
next_at (Opened number) s (Happens c change ∷ later) is n d a at = absurd is
next_at TurnedAway s [] is n d a at = absurd is
next_at TurnedAway s (Opens window bytes ∷ later) is n d a at = absurd is
next_at TurnedAway s (TurnsAway ∷ later) is n d a at = at
next_at TurnedAway s (Reports c change ∷ later) is n d a at = absurd is
next_at TurnedAway s (Happens c change ∷ later) is n d a at = absurd is
next_at (Ready number) s [] is n d a at = absurd is
next_at (Ready number) s (Opens window bytes ∷ later) is n d a at = absurd is
next_at (Ready number) s (TurnsAway ∷ later) is n d a at = absurd is
next_at (Ready number) s (Reports c change ∷ later) is n d a at = changed_keeps (after_change change) (change_keeps change) c s.connections n d a at
next_at (Ready number) s (Happens c change ∷ later) is n d a at = changed_keeps (after_change change) (change_keeps change) c s.connections n d a at

opened_at : (number : ℕ) (s : State) (later : List Step) → IsNext (Opened number) s.connections later → IsOpenIn number 0 (after_report number s later).connections
opened_at number s [] is = absurd is
opened_at number s (Opens window bytes ∷ later) is = (length s.connections, pushed_here number window bytes s.connections is)
opened_at number s (TurnsAway ∷ later) is = absurd is
opened_at number s (Reports c change ∷ later) is = absurd is
opened_at number s (Happens c change ∷ later) is = absurd is

next_told : (event : Event) (old : Log) (new : Option Log) → ReportsNext old event new → OnLogs (Tells event) (Some old) new
next_told (Opened number) old new r =
    told old new _ (Tells (Opened number)) r.result
    (λ n a o. (o.0, next_at (Opened number) (state_of old) (state_of old).later r.next n o.0 a o.1), opened_at number (state_of old) (state_of old).later r.next)
next_told TurnedAway old new r =
    told old new _ (Tells TurnedAway) r.result (λ n a o. (o.0, next_at TurnedAway (state_of old) (state_of old).later r.next n o.0 a o.1), tt)
next_told (Ready number) old new r =
    told old new _ (Tells (Ready number)) r.result (λ n a o. (o.0, next_at (Ready number) (state_of old) (state_of old).later r.next n o.0 a o.1), tt)

-- What goes on from one moment to another

pub still_open : (number asks : ℕ) (old new : Option Log) → is_some new ≡ is_some old → OnLogs Keeps old new → IfSome old (IsOpen number asks) → IfSome new (IsOpen number asks)
still_open number asks None None same keeps stands = tt
still_open number asks None (Some new) same keeps stands = absurd (true≢false same)
still_open number asks (Some old) None same keeps stands = absurd keeps
still_open number asks (Some old) (Some new) same keeps stands = keeps number asks stands

pub others_open : (number asks one : ℕ) (old new : Option Log) → number ≢ one → is_some new ≡ is_some old → OnLogs (KeepsOthers one) old new → IfSome old (IsOpen number asks) → IfSome new (IsOpen number asks)
others_open number asks one None None other same keeps stands = tt
others_open number asks one None (Some new) other same keeps stands = absurd (true≢false same)
others_open number asks one (Some old) None other same keeps stands = absurd keeps
others_open number asks one (Some old) (Some new) other same keeps stands = keeps number asks other stands

pub keeps_on : (old between new : Option Log) → is_some between ≡ is_some old → OnLogs Keeps old between → OnLogs Keeps between new → OnLogs Keeps old new
keeps_on None between new same first second = tt
keeps_on (Some old) None new same first second = absurd first
keeps_on (Some old) (Some between) None same first second = absurd second
keeps_on (Some old) (Some between) (Some new) same first second = λ n a o. second n a (first n a o)

pub same_keeps : (old : Option Log) → OnLogs Keeps old old
same_keeps None = tt
same_keeps (Some old) = λ n a o. o

-- of a read: all stays open
pub received_keeps : (number asks : ℕ) (old new : Option Log) → OnLogs (Receives number asks) old new → OnLogs Keeps old new
received_keeps number asks None new r = tt
received_keeps number asks (Some old) None r = r
received_keeps number asks (Some old) (Some new) r = r.0

-- and its connection may be asked for again more often
pub received_open : (number asks : ℕ) (old new : Option Log) → is_some new ≡ is_some old → OnLogs (Receives number asks) old new → IfSome new (IsOpen number asks)
received_open number asks None None same r = tt
received_open number asks None (Some new) same r = absurd (true≢false same)
received_open number asks (Some old) None same r = absurd r
received_open number asks (Some old) (Some new) same r = r.1

-- who may ask more often may ask less often
pub fewer_asks : (number more asks : ℕ) (log : Option Log) → asks ≤ more → IfSome log (IsOpen number more) → IfSome log (IsOpen number asks)
fewer_asks number more asks None fewer stands = tt
fewer_asks number more asks (Some log) fewer stands = (stands.0, (stands.1.0, omega (arith, fewer, stands.1.1)))

-- of a report: all stays open, and what is new is
pub tells_keeps : (event : Event) (old new : Option Log) → IfSome old (λ l. ReportsNext l event new) → OnLogs Keeps old new
tells_keeps event None new next = tt
tells_keeps event (Some old) new next = only new (next_told event old new next)
  where
    only : (new : Option Log) → OnLogs (Tells event) (Some old) new → OnLogs Keeps (Some old) new
    only None t = t
    only (Some new) t = t.0

pub tells_opened : (event : Event) (old new : Option Log) → is_some new ≡ is_some old → IfSome old (λ l. ReportsNext l event new) → IfSome new (IsOpened event)
tells_opened event None None told next = tt
tells_opened event None (Some new) told next = absurd (true≢false told)
tells_opened event (Some old) new told next = only new (next_told event old new next)
  where
    only : (new : Option Log) → OnLogs (Tells event) (Some old) new → IfSome new (IsOpened event)
    only None t = tt
    only (Some new) t = t.1
