-- What goes through an owner's queue: numbers of lines, and then an end.
use Rattle.std.specs.Prelude.{◌≡◌, ℕ, ◌<◌, Bool, true, false, List, Option, Some, None}
use Rattle.std.specs.List.{list_any, filter_map}
use Rattle.exclusive_replay.specs.declared.queue.Sent.{Sent}
use Rattle.exclusive_replay.specs.declared.queue.Sent.TheVariants.{Line, End}

-- a queue has one sender
abbrev pub only_sender : Sent → ℕ
only_sender sent = 0

abbrev pub is_end : Sent → Bool
is_end (Line number) = false
is_end End = true

abbrev pub has_end : List Sent → Bool
has_end messages = list_any is_end messages

abbrev pub number_in : Sent → Option ℕ
number_in (Line number) = Some number
number_in End = None

-- the numbers of the lines, in order
abbrev pub numbers_in : List Sent → List ℕ
numbers_in messages = filter_map number_in messages

-- it names one of so many lines
abbrev pub IsLow : ℕ → Sent → Type 0
IsLow lines (Line number) = number < lines
IsLow lines End = Unit {0}

-- a message may follow others: no end is among them
pub record MayFollow (lines : ℕ) (before : List Sent) (sent : Sent) : Type 0 where
  pub no_end : has_end before ≡ false
  pub low : IsLow lines sent
