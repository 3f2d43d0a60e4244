-- Seconds that never fall.
use Rattle.std.specs.Prelude.{◌≡◌, ◌≤◌, ⊤, ℕ, List, [], ◌∷◌, drop, max, Option, Some, None}

-- The second that is told after this one. It is what the clock shows; but the same again where that is an earlier one, or where the clock can't be read.
abbrev pub second_after : ℕ → Option ℕ → ℕ
second_after last None = last
second_after last (Some shown) = max last shown

-- what a script of a clock shows next; nothing behind its end
abbrev pub shown_in : List (Option ℕ) → Option ℕ
shown_in [] = None
shown_in (shown ∷ later) = shown

-- What contracts see of a clock: the last second that it told, and the script of what it shows from now on, where it tells that.
pub record ClockView : Type 0 where
  pub last : ℕ
  pub shows : Option (List (Option ℕ))

-- it tells the second that its script shows, where it tells its script
abbrev pub IsShown : ℕ → Option (List (Option ℕ)) → ℕ → Type 0
IsShown last None second = ⊤
IsShown last (Some script) second = second ≡ second_after last (shown_in script)

-- The next reading of a clock gives this second.
abbrev pub IsReading : ClockView → ℕ → Type 0
IsReading clock second = (clock.last ≤ second) × IsShown clock.last clock.shows second

-- what it shows behind that
abbrev pub shows_later : Option (List (Option ℕ)) → Option (List (Option ℕ))
shows_later None = None
shows_later (Some script) = Some (drop 1 script)

-- a clock that gave this second
abbrev pub once_read : ℕ → ClockView → ClockView
once_read second clock = record { last = second; shows = shows_later clock.shows }
