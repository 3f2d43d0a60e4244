-- The secret of the hash of keys, as a word gives it.
use Rattle.std.specs.Prelude.{ℕ, ◌+◌, ◌*◌, ◌-◌, ◌==◌, ◌&&◌, Bool, true, false, [], ◌∷◌, Option, Some, None, length, take, drop, nat_le, codes, if◌then◌else◌}
use Rattle.mica_words.specs.declared.hashing.Hashing.{Hashing}
use Rattle.mica_words.specs.declared.hashing.Hashing.TheVariants.{Fnv1a, SipHash}
use Rattle.daemon_words.specs.declared.host.Host.{Host}
use Rattle.option_words.specs.Words.{Text}
use Rattle.option_words.specs.Settings.{◌>>=◌}

abbrev pub is_from_to : ℕ → ℕ → ℕ → Bool
is_from_to first last byte = nat_le first byte && nat_le byte last

-- the value of a hexadecimal digit
abbrev pub digit_of : ℕ → Option ℕ
digit_of byte =
    if is_from_to 48 57 byte then Some (byte - 48)
    else if is_from_to 97 102 byte then Some (byte - 87)
    else if is_from_to 65 70 byte then Some (byte - 55)
    else None

-- the number that hexadecimal digits write behind those that wrote this one
abbrev pub number_from : ℕ → Text → Option ℕ
number_from number [] = Some number
number_from number (byte ∷ more) = digit_of byte >>= λ digit. number_from (number * 16 + digit) more

-- a secret has 32 hexadecimal digits, 16 for each of its words
abbrev pub secret_of : Text → Option Hashing
secret_of text =
    if length text == 32 then (number_from 0 (take 16 text) >>= λ k0. number_from 0 (drop 16 text) >>= λ k1. Some (SipHash k0 k1)) else None

abbrev pub secret_name : Text
secret_name = codes "hash-secret"

-- Keys of memcached's clients are hashed under the secret that is given, or that the host drew. Those of datagrams are hashed as their clients compute it, so
-- they have no secret.
abbrev pub hashing_by : Host → Bool → Option Text → Option Hashing
hashing_by host true None = Some (SipHash host.k0 host.k1)
hashing_by host true (Some text) = secret_of text
hashing_by host false None = Some Fnv1a
hashing_by host false (Some text) = None
