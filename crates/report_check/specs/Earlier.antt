-- The earlier of two places.
use Rattle.std.specs.Prelude.{ℕ, Option, Some, None, if◌then◌else◌, nat_lt}

abbrev pub earlier : Option ℕ → ℕ → Option ℕ
earlier None place = Some place
earlier (Some other) place = if nat_lt other place then Some other else Some place
