-- How long a text may be.
use Rattle.std.specs.Prelude.{ℕ, ◌<◌, List, length}
use Rattle.server_words.specs.declared.limits.TheConstants.{MAX_SOURCE_LEN}

-- the bytes are more than a source may give
abbrev pub IsTooLong : List ℕ → Type 0
IsTooLong bytes = MAX_SOURCE_LEN < length bytes
