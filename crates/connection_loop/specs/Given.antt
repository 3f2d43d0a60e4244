-- What a front answered, and which connection each answer was given to.
use Rattle.std.specs.Prelude.{ℕ, ◌==◌, List, map, filter}
use Rattle.fronts.specs.Answered.{Answered}

-- an answer to what the client of a connection said, by the place of that among all that were made
pub record Given : Type 0 where
  pub to : ℕ
  pub answered : Answered

abbrev pub answers_in : List Given → List Answered
answers_in all = map (λ g. g.answered) all

-- the answers that were given to one connection, in order
abbrev pub given_to : ℕ → List Given → List Answered
given_to c all = answers_in (filter (λ g. g.to == c) all)
