-- The answers of a partition, one behind another.
use Rattle.std.specs.Prelude.{◌≡◌, ◌<◌, ◌++◌, ◌==◌, ℕ, ⊤, List, [], ◌∷◌, length, slice_get, Some, None, if◌then◌else◌}
use Rattle.std.specs.List.{AllByRecursion, filter_map}
use Rattle.partition_model.specs.declared.options.Options.{Options}
use Rattle.partition_model.specs.History.{History, stamp_of}
use Rattle.partition_model.specs.Run.{history_of, IsRunFrom, IsAnswerAt}
use Rattle.fronts.specs.Answered.{Answered, wrote, got, changed, kept, answers_of}
use Rattle.fronts.specs.Looks.{IsLookAt}
use Rattle.fronts.specs.Placed.{Placed}
use Rattle.served.specs.Served.{AnswersLawfully}

-- an answer, and the front that it was given to
pub record Turn : Type 0 where
  pub front : ℕ
  pub answered : Answered

-- It is what the machine answers behind this history: to a write an outcome that it may give, and the stamp after it; else what it has for the key.
abbrev pub IsAnswerBehind : Options → History → Answered → Type 0
IsAnswerBehind options history (wrote step) = IsRunFrom options history (step ∷ [])
IsAnswerBehind options history (got key stamp value) = IsAnswerAt options history key stamp value
IsAnswerBehind options history (changed step look) = IsRunFrom options history (step ∷ []) × IsLookAt options history step.write.key look
IsAnswerBehind options history (kept key stamp look) = (stamp ≡ stamp_of options history) × IsLookAt options history key look

-- the history behind it: with its write, where that was accepted
abbrev pub behind : History → Answered → History
behind history (wrote step) = history ++ history_of (step ∷ [])
behind history (got key stamp value) = history
behind history (changed step look) = history ++ history_of (step ∷ [])
behind history (kept key stamp look) = history

-- each is the machine's answer behind those before it
abbrev pub AreInTurn : Options → History → List Turn → Type 0
AreInTurn options history [] = ⊤
AreInTurn options history (turn ∷ later) = IsAnswerBehind options history turn.answered × AreInTurn options (behind history turn.answered) later

-- what one front was answered, in order
abbrev pub answers_to : ℕ → List Turn → List Answered
answers_to front turns = filter_map (λ turn. if turn.front == front then Some turn.answered else None) turns

-- All answers of a partition stand in this order, from what it began with: those to each front as they were given to it, and no others.
pub record OneOrder (options : Options) (origin : History) (partition : ℕ) (fronts : List (List Answered)) : Type 0 where
  pub turns : List Turn
  pub in_turn : AreInTurn options origin turns
  pub each : (f : ℕ) (answers : List Answered) → slice_get fronts f ≡ Some answers → answers_to f turns ≡ answers_of options partition answers
  pub no_others : AllByRecursion (λ turn. turn.front < length fronts) turns

-- Lawful answers do, in each partition.
abbrev pub StandInOneOrder : Type 0
StandInOneOrder = (options : Options) (origin : ℕ → History) (fronts : List (List Answered)) (runs : ℕ → List Placed) → AnswersLawfully options origin fronts runs
    → (p : ℕ) → p < options.partitions → OneOrder options (origin p) p fronts
