-- The decisions that the tests of changes make.
use Rattle.std.specs.Prelude.{ℕ, ◌+◌, ◌*◌, ◌/◌, ◌%◌, ◌==◌, List, [], ◌∷◌, Option, Some, None, length, get_or, if◌then◌else◌}
use Rattle.partition_model.specs.declared.change.Change.{Change}
use Rattle.partition_model.specs.declared.change.Change.TheVariants.{Stay, Become, Go}
use Rattle.fronts.specs.Changing.{Becoming, stays, becomes, goes}

-- a decision that is made whatever the key has
abbrev pub fixed : Change → List ℕ → Becoming
fixed Stay value = stays
fixed Become value = becomes value
fixed Go value = goes

-- a count in two bytes, the lower first
abbrev pub count_in : Option (List ℕ) → ℕ
count_in None = 0
count_in (Some value) = if length value == 2 then get_or value 0 0 + 256 * get_or value 1 0 else 0

abbrev pub two_bytes : ℕ → List ℕ
two_bytes count = count % 256 ∷ count / 256 % 256 ∷ []

-- one more
abbrev pub counted : Option (List ℕ) → Becoming
counted value = becomes (two_bytes (count_in value + 1))
