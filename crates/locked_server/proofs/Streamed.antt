-- A front that was served behind its share, by the answers that its log tells; where it tells none, by some.
use Rattle.std.proofs.Common.{◌≡◌, ◌≢◌, ◌-◌, ◌+◌, ◌≤◌, ◌⊎◌, inl, inr, ℕ, Bool, false, List, [], Option, None, Some, refl, arith}
use Rattle.std.specs.Prelude.{⊤, IfSome, Result, Ok, Err, IsErrOf, OnOk}
use Rattle.partition_model.specs.declared.options.Options.{Options}
use Rattle.connections.specs.Log.{Log}
use Rattle.fronts.specs.declared.totals.ServeFault.{ServeFault}
use Rattle.fronts.specs.declared.totals.ServeFault.TheVariants.{Net, NoMemory}
use Rattle.locked_front.specs.Parts.{most_turns}
use Rattle.connection_loop.specs.Going.{GoesBy}
use Rattle.connection_loop.specs.Open.{OnLogs}
use Rattle.connection_loop.specs.Serving.{FrontAt, IsFinished, ServesFromNone}
use Rattle.connection_loop.specs.declared.desk.TheConstants.{MOST_UNSENT}
use Rattle.locked_server.specs.Streams.{ServesClients}

-- it went on by these answers, and served its clients by them
pub record GoesAndServes (options : Options) (base : ℕ) (old new : FrontAt) (before after : Option Log) : Type 0 where
  pub goes : GoesBy options false old.sessions old.left new.sessions new.left
  pub clients : OnLogs (ServesClients options base old new goes.answers) before after

pub both_by : (options : Options) (base : ℕ) (old new : FrontAt) (before after : Option Log) → IfSome before (λ l. l.entries ≡ [])
    → GoesBy options false old.sessions old.left new.sessions new.left → OnLogs (ServesFromNone options false base MOST_UNSENT old new) before after
    → GoesAndServes options base old new before after
both_by options base old new None after fresh goes serves = record { goes = goes; clients = tt }
both_by options base old new (Some before) None fresh goes serves = absurd serves
both_by options base old new (Some before) (Some after) fresh goes serves =
    let log = serves fresh in
    let all = log.serves in
    record { goes = record { answers = all.answers; in_order = all.in_order; seconds = all.seconds; few = all.few }; clients = (log, refl) }

-- a front that had all its writes before has finished, by what it was given
pub finishes : (options : Options) (has_ended : Bool) (left writes : ℕ) → most_turns ≤ left + writes → IsFinished options has_ended left
    → IsFinished options has_ended (most_turns - writes)
finishes options has_ended left writes had is =
    elim is as (λ _. IsFinished options has_ended (most_turns - writes)) [ inl ended ↦ inl ended | inr spent ↦ inr (omega (arith, had, spent)) ]

pub finished_so : (answer : Result ⊤ ServeFault) {P Q : Type 0} → (P → Q) → OnOk answer P → OnOk answer Q
finished_so (Ok none) then is = then is
finished_so (Err fault) then is = tt

-- where it came to no fault
pub finished_at : (answer : Result ⊤ ServeFault) {P : Type 0} → ((fault : ServeFault) → answer ≢ Err fault) → OnOk answer P → P
finished_at (Ok none) well is = is
finished_at (Err fault) well is = absurd (well fault refl)

-- what one of its answers says
pub stops : (answer : Result ⊤ ServeFault) {P Q R : Type 0} → OnOk answer P → (IsErrOf answer Net → Q) → (IsErrOf answer NoMemory → R) → (P ⊎ Q) ⊎ R
stops (Ok none) finished failed unserved = inl (inl finished)
stops (Err Net) finished failed unserved = inl (inr (failed refl))
stops (Err NoMemory) finished failed unserved = inr (unserved refl)

-- where memory did not run out
pub stopped_at : (answer : Result ⊤ ServeFault) {P Q : Type 0} → answer ≢ Err NoMemory → OnOk answer P → (IsErrOf answer Net → Q) → P ⊎ Q
stopped_at answer {P} {Q} began finished failed = elim (stops answer finished failed began) as (λ _. P ⊎ Q) [ inl is ↦ is | inr none ↦ absurd none ]
