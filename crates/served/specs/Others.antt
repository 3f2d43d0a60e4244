-- Fronts of another kind beside those over datagrams. They come first in number.
use Rattle.std.specs.Prelude.{◌≡◌, ℕ, List, [], ◌++◌, map, slice_get, Some}
use Rattle.fronts.specs.Answered.{Answered}
use Rattle.datagram_answers.specs.Dealing.{Dealing, answered_in}

-- what each of them answered, and that a fault came to one of them
pub record Others : Type 1 where
  pub answers : List (List Answered)
  pub stopped : Type 0

-- there are none
abbrev pub alone : Others
alone = record { answers = []; stopped = ⊥ }

-- what all fronts answered, those over datagrams behind the others
abbrev pub all_answers : Others → List (List Dealing) → List (List Answered)
all_answers others fronts = others.answers ++ map answered_in fronts

-- none of them answered anything
abbrev pub HaveAnsweredNothing : Others → Type 0
HaveAnsweredNothing others = (k : ℕ) (answers : List Answered) → slice_get others.answers k ≡ Some answers → answers ≡ []
