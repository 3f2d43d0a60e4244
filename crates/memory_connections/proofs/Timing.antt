-- Which second it is, as entries are made.
use Rattle.std.proofs.Common.{◌≡◌, ℕ, ◌+◌, ◌-◌, ◌<◌, ◌≤◌, List, [], ◌∷◌, refl, sym, ap, ◌∙◌, subst, arith}
use Rattle.connections.specs.declared.schedule.Step.{Step}
use Rattle.connections.specs.declared.schedule.Step.TheVariants.{Opens, TurnsAway, Reports, Happens}
use Rattle.connections.specs.Connection.{Connection}
use Rattle.connections.specs.State.{State, Entry, state_after, passing_by, second}
use Rattle.connections.specs.Log.{second_of, after_meeting_one}
use Rattle.memory_connections.specs.MemoryConnection.{pending}
use Rattle.memory_connections.specs.Stage.{IsStage, IsTimed, MOST_PASSING}

-- before any call
pub timed_new : (schedule : List Step) (room : ℕ) → room < 4294967296 → IsTimed schedule [] room 0 0
timed_new schedule room few = record { now_is = refl; told_is = refl; later = omega arith; fits = omega (arith, few) }

-- with its parts as they are called elsewhere
pub timed_as : {schedule : List Step} {entries : List Entry} {room now told : ℕ} → IsTimed schedule entries room now told
    → (entries' : List Entry) (room' now' told' : ℕ) → entries' ≡ entries → room' ≡ room → now' ≡ now → told' ≡ told → IsTimed schedule entries' room' now' told'
timed_as {schedule} {entries} {room} {now} {told} t entries' room' now' told' entries_are room_is now_is told_is =
    subst (λ es. IsTimed schedule es room' now' told') (sym entries_are)
    (subst (λ n. IsTimed schedule entries n now' told') (sym room_is)
    (subst (λ n. IsTimed schedule entries room n told') (sym now_is)
    (subst (λ n. IsTimed schedule entries room now n) (sym told_is) t)))

module _ (schedule : List Step) (entries : List Entry) (room now told : ℕ) (t : IsTimed schedule entries room now told) where
  -- by an entry by which no time passes and none is told
  pub timed_on : (entry : Entry) (k : ℕ) → passing_by entry (state_after schedule entries).later ≡ 0 → second_of (entry ∷ entries) ≡ second_of entries → IsTimed schedule (entry ∷ entries) (room - k) now told
  timed_on entry k still same = record {
    now_is = let is = t.now_is in omega (arith, is, still);
    told_is = t.told_is ∙ sym same;
    later = t.later;
    fits = let fits = t.fits in omega (arith, fits);
  }

  -- by one by which so many seconds pass
  pub timed_met : (entry : Entry) (p : ℕ) → passing_by entry (state_after schedule entries).later ≡ p → second_of (entry ∷ entries) ≡ second_of entries → p ≤ MOST_PASSING → 1 ≤ room
      → IsTimed schedule (entry ∷ entries) (room - 1) (now + p) told
  timed_met entry p passes same few some = record {
    now_is = let is = t.now_is in omega (arith, is, passes);
    told_is = t.told_is ∙ sym same;
    later = let later = t.later in omega (arith, later);
    fits = let fits = t.fits in omega (arith, fits, few, some);
  }

  -- and then it is told
  pub timed_told : (entry : Entry) (p : ℕ) → passing_by entry (state_after schedule entries).later ≡ p → p ≤ MOST_PASSING → 2 ≤ room
      → IsTimed schedule (second (now + p) ∷ entry ∷ entries) (room - 2) (now + p) (now + p)
  timed_told entry p passes few some = record {
    now_is = let is = t.now_is in omega (arith, is, passes);
    told_is = refl;
    later = omega arith;
    fits = let fits = t.fits in omega (arith, fits, few, some);
  }

-- by the next step
pub passes_by : (schedule : List Step) (at : ℕ) (reports : List ℕ) (paid : ℕ) (all : List Connection) (entries : List Entry) (room : ℕ) → IsStage schedule at reports paid all entries room
    → (entry : Entry) (later : List Step) → pending schedule at reports paid ≡ later → passing_by entry (state_after schedule entries).later ≡ passing_by entry later
passes_by schedule at reports paid all entries room s entry later is = ap (passing_by entry) (ap (λ (st : State). st.later) s.goes.stands ∙ is)

-- an entry and the second behind it
pub told_as : {schedule : List Step} {entries : List Entry} {room now told : ℕ} → IsTimed schedule entries room now told → (entry : Entry) (p : ℕ) → passing_by entry (state_after schedule entries).later ≡ p
    → p ≤ MOST_PASSING → 2 ≤ room → (n : ℕ) (entries' : List Entry) (room' : ℕ) → n ≡ now + p → entries' ≡ second n ∷ entry ∷ entries → room' ≡ room - 2 → IsTimed schedule entries' room' n n
told_as {schedule} {entries} {room} {now} {told} t entry p passes few some n entries' room' n_is entries_are room_is =
    timed_as (timed_told schedule entries room now told t entry p passes few some) entries' room' n n (entries_are ∙ ap (λ m. second m ∷ entry ∷ entries) n_is) room_is n_is n_is

-- what is told is not before what was told
pub told_rises : (schedule : List Step) (entries : List Entry) (room now told : ℕ) → IsTimed schedule entries room now told → (n : ℕ) (entry : Entry) (entries' : List Entry) → now ≤ n
    → entries' ≡ second n ∷ entry ∷ entries → second_of entries ≤ second_of entries'
told_rises schedule entries room now told t n entry entries' less is =
    let was = t.told_is in let later = t.later in let new : second_of entries' ≡ n = ap second_of is in omega (arith, was, later, new, less)

-- where a step was met nothing was told
pub met_untold : (later : List Step) (entries : List Entry) → second_of (after_meeting_one later entries) ≡ second_of entries
met_untold [] entries = refl
met_untold (Opens window bytes ∷ later) entries = refl
met_untold (TurnsAway ∷ later) entries = refl
met_untold (Reports c change ∷ later) entries = refl
met_untold (Happens c change ∷ later) entries = refl
