-- What contracts see of a front before each partition, and what an answer makes of it.
use Rattle.std.specs.Prelude.{◌≡◌, ◌≢◌, ◌+◌, ◌<◌, ◌≤◌, ◌++◌, ◌∷◌, [], ℕ, Bool, true, List, Option, Some, None}
use Rattle.partition_model.specs.declared.options.Options.{Options}
use Rattle.partition_model.specs.Write.{is_accepted}
use Rattle.partition_model.specs.History.{History, IsPrefix, IsCut}
use Rattle.partition_model.specs.Run.{RunStep, history_of, IsRunFrom, IsAnswerAt}
use Rattle.partition_model.specs.ReplyAt.{IsReplyAt}
use Rattle.fronts.specs.Answered.{Answered, wrote, got, changed, kept, partition_in}
use Rattle.fronts.specs.Looks.{Look, IsLookAt}

-- what a front tells: the steps whose answers it took, and how many tries its seat made, how many failed and how many answered
pub record Told : Type 0 where
  pub steps : List RunStep
  pub tried : ℕ
  pub failed : ℕ
  pub closed : ℕ

-- the history that the front has seen, the part of it that had ended, and the stamp that it answered last
pub record Session : Type 0 where
  pub seen : History
  pub done : History
  pub last : ℕ
  pub told : Option Told

-- one for each partition, by its number
abbrev pub Sessions : Type 0
Sessions = ℕ → Session

-- no session changed but this partition's
abbrev pub ChangesOnly : ℕ → Sessions → Sessions → Type 0
ChangesOnly partition old new = (q : ℕ) → q ≢ partition → new q ≡ old q

-- One or more answers to writes were taken, the last of them this one. What the seat learned with it may have made its list of failed tries longer.
pub record TellsStep (old : Told) (step : RunStep) (new : Told) : Type 0 where
  pub more : List RunStep
  pub steps : new.steps ≡ old.steps ++ more ++ step ∷ []
  pub tried : new.tried ≡ old.tried
  pub closed : new.closed ≡ old.closed

-- where answers are told, this write's was taken
abbrev pub TellsWrite : Option Told → RunStep → Option Told → Type 0
TellsWrite None step new = new ≡ None
TellsWrite (Some old) step new = (told : Told) × (new ≡ Some told) × TellsStep old step told

-- where they are told, one more try answered, after some that failed
abbrev pub TellsRead : Option Told → Option Told → Type 0
TellsRead None new = new ≡ None
TellsRead (Some old) new =
    (n : ℕ) × (new ≡ Some (record old { tried = old.tried + n + 1; failed = old.failed + n; closed = old.closed + 1 }))

-- the machine took the step, and the history gained nothing else
abbrev pub TakesStep : Options → History → RunStep → History → Type 0
TakesStep options old step new = IsRunFrom options old (step ∷ []) × (new ≡ old ++ history_of (step ∷ []))

-- A write was answered with a stamp, none below the one answered before, and above it where the write was accepted. Where nobody else writes, it
-- is the one step that the machine took.
pub record Writes (options : Options) (is_alone : Bool) (old : Session) (step : RunStep) (new : Session) : Type 0 where
  pub grows : IsPrefix old.seen new.seen
  pub cut : History
  pub at : IsCut options new.seen step.stamp cut
  pub reply : IsReplyAt (is_accepted step.outcome) options cut step.write step.outcome
  pub done : IsPrefix old.done new.done
  pub ended : IsPrefix cut new.done
  pub order : old.last ≤ step.stamp
  pub rises : is_accepted step.outcome ≡ true → old.last < step.stamp
  pub last : new.last ≡ step.stamp
  pub alone : is_alone ≡ true → TakesStep options old.seen step new.seen
  pub told : TellsWrite old.told step new.told

-- a get was answered as of all that the front has seen
pub record Reads (options : Options) (is_alone : Bool) (old : Session) (key : List ℕ) (stamp : ℕ) (value : Option (List ℕ)) (new : Session)
    : Type 0 where
  pub grows : IsPrefix old.seen new.seen
  pub answer : IsAnswerAt options new.seen key stamp value
  pub done : new.done ≡ old.done
  pub last : new.last ≡ stamp
  pub alone : is_alone ≡ true → new.seen ≡ old.seen
  pub told : TellsRead old.told new.told

-- The value was looked at behind a history that begins with all that the front had seen, and the write is the step that follows it, with nothing between.
pub record Changes (options : Options) (is_alone : Bool) (old : Session) (step : RunStep) (look : Look) (new : Session) : Type 0 where
  pub written : Writes options is_alone old step new
  pub before : History
  pub newest : IsPrefix old.seen before
  pub looked : IsLookAt options before step.write.key look
  pub next : written.cut ≡ before ++ history_of (step ∷ [])

-- where they are told, no answer was taken; what the seat learned may have made its list of failed tries longer
abbrev pub TellsLook : Option Told → Option Told → Type 0
TellsLook None new = new ≡ None
TellsLook (Some old) new = (n : ℕ) × (new ≡ Some (record old { failed = old.failed + n }))

-- The value was looked at behind a history that begins with all that the front had seen, and left. As for a get, the last write of that history may
-- still be on its way into the words.
pub record Keeps (options : Options) (old : Session) (key : List ℕ) (stamp : ℕ) (look : Look) (new : Session) : Type 0 where
  pub grows : IsPrefix old.seen new.seen
  pub cut : History
  pub at : IsCut options new.seen stamp cut
  pub newest : IsPrefix old.seen cut
  pub looked : IsLookAt options cut key look
  pub done : IsPrefix old.done new.done
  pub order : old.last ≤ stamp
  pub last : new.last ≡ stamp
  pub told : TellsLook old.told new.told

-- one partition's session is that of a front which was answered so
abbrev pub AnswersOne : Options → Bool → Session → Answered → Session → Type 0
AnswersOne options is_alone old (wrote step) new = Writes options is_alone old step new
AnswersOne options is_alone old (got key stamp value) new = Reads options is_alone old key stamp value new
AnswersOne options is_alone old (changed step look) new = Changes options is_alone old step look new
AnswersOne options is_alone old (kept key stamp look) new = Keeps options old key stamp look new

-- a partition answered
pub record Answers (options : Options) (is_alone : Bool) (old : Sessions) (answered : Answered) (new : Sessions) : Type 0 where
  pub one : AnswersOne options is_alone (old (partition_in options answered)) answered (new (partition_in options answered))
  pub others : ChangesOnly (partition_in options answered) old new

-- these were answered in order, each before the next was asked
abbrev pub AnswersInOrder : Options → Bool → Sessions → List Answered → Sessions → Type 0
AnswersInOrder options is_alone old [] new = (q : ℕ) → new q ≡ old q
AnswersInOrder options is_alone old (answered ∷ later) new =
    (between : Sessions) × Answers options is_alone old answered between × AnswersInOrder options is_alone between later new
