-- What a front's answers make of its sessions, and at which seconds they were given.
use Rattle.std.specs.Prelude.{◌+◌, ◌≤◌, ℕ, Bool, List, [], ◌∷◌}
use Rattle.std.specs.List.{filter_map}
use Rattle.partition_model.specs.declared.options.Options.{Options}
use Rattle.fronts.specs.Answered.{Answered, count_of_writes}
use Rattle.fronts.specs.Session.{Sessions, AnswersInOrder}
use Rattle.command_answers.specs.Seconds.{second_in}

-- the seconds of all answers that have one, in order
abbrev pub seconds_of : Options → List Answered → List ℕ
seconds_of options answers = filter_map (second_in options) answers

-- These seconds never fall: the first is not before one, and the last not behind another. Where that is the same, so is each of them.
abbrev pub Rise : ℕ → List ℕ → ℕ → Type 0
Rise from [] to = from ≤ to
Rise from (second ∷ later) to = (from ≤ second) × Rise second later to

-- none is before one that stands earlier
abbrev pub NeverFall : List ℕ → Type 0
NeverFall seconds = (last : ℕ) × Rise 0 seconds last

-- They went on by some answers, in this order, and no others: of the writes that the front could still be given none is gone but those among them.
pub record GoesBy (options : Options) (is_alone : Bool) (old : Sessions) (left : ℕ) (new : Sessions) (left_after : ℕ) : Type 0 where
  pub answers : List Answered
  pub in_order : AnswersInOrder options is_alone old answers new
  pub seconds : NeverFall (seconds_of options answers)
  pub few : left ≤ left_after + count_of_writes answers

-- They went on by these answers, where this second was looked at last before, and that one behind them. At which second each was given is said where the log is
-- told (`GivenSince` in `Moments`).
pub record GoesByThese (options : Options) (is_alone : Bool) (old : Sessions) (left : ℕ) (told : ℕ) (answers : List Answered) (new : Sessions) (left_after : ℕ) (tells : ℕ) : Type 0 where
  pub in_order : AnswersInOrder options is_alone old answers new
  pub seconds : Rise told (seconds_of options answers) tells
  pub few : left ≤ left_after + count_of_writes answers

-- and of these P holds
abbrev pub GoesBySome : Options → Bool → Sessions → ℕ → ℕ → Sessions → ℕ → ℕ → (List Answered → Type 0) → Type 0
GoesBySome options is_alone old left told new left_after tells P =
    (answers : List Answered) × GoesByThese options is_alone old left told answers new left_after tells × P answers
