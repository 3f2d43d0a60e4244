-- The keys that words of clients spell.
use Rattle.std.specs.Prelude.{ℕ, Bool, true, false, List, [], Option, Some, None, if◌then◌else◌}
use Rattle.base64.specs.GeneralPurpose.{decoded_of}
use Rattle.base64.specs.Engines.{standard}
use Rattle.memcached_text.specs.Line.{is_short}

abbrev pub or_nothing : Option (List ℕ) → List ℕ
or_nothing None = []
or_nothing (Some key) = key

-- The key that a word spells: itself, or what it is the base64 of. It is empty where the word is no base64, or longer than a key may be.
abbrev pub spelled : Bool → List ℕ → List ℕ
spelled false word = word
spelled true word = if is_short word then or_nothing (decoded_of standard word) else []
