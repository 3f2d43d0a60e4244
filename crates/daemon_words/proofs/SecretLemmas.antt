-- What a hexadecimal digit is worth.
use Rattle.std.proofs.Common.{◌≡◌, ℕ, ◌-◌, ◌<◌, ◌≤◌, Bool, true, false, Some, None, refl, nat_le, if◌then◌else◌, arith}
use Rattle.std.proofs.lemmas.Bool.{and_parts, leb-true}
use Rattle.std.proofs.lemmas.Option.{none-some}
use Rattle.daemon_words.specs.Secret.{is_from_to, digit_of}

-- it is below 16
pub digit_below : (byte digit : ℕ) → digit_of byte ≡ Some digit → digit < 16
digit_below byte digit is = by (is_from_to 48 57 byte) (is_from_to 97 102 byte) (is_from_to 65 70 byte) refl refl refl is
  where
    ends : (first last : ℕ) → is_from_to first last byte ≡ true → (first ≤ byte) × (byte ≤ last)
    ends first last within =
        let both = and_parts (nat_le first byte) (nat_le byte last) within in
        (leb-true first byte both.0, leb-true byte last both.1)

    by : (a b c : Bool) → is_from_to 48 57 byte ≡ a → is_from_to 97 102 byte ≡ b → is_from_to 65 70 byte ≡ c
        → (if a then Some (byte - 48) else if b then Some (byte - 87) else if c then Some (byte - 55) else None) ≡ Some digit → digit < 16
    by true b c one two three is = let same : byte - 48 ≡ digit = cc in omega (arith, ends 48 57 one, same)
    by false true c one two three is = let same : byte - 87 ≡ digit = cc in omega (arith, ends 97 102 two, same)
    by false false true one two three is = let same : byte - 55 ≡ digit = cc in omega (arith, ends 65 70 three, same)
    by false false false one two three is = absurd (none-some digit is)
