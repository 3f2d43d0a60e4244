-- What a meta command asks has numbers and lifetimes such as a client may write.
use Rattle.std.proofs.Common.{◌≡◌, ℕ, ◌+◌, ◌%◌, ◌^◌, ◌<◌, ◌≤◌, Bool, true, false, eqb, cond, List, [], ◌∷◌, length, drop, Option, Some, None, arith, codes, mod-lt}
use Rattle.std.specs.Prelude.{⊤, ◌||◌, bytes_eq, option_map, option_and_then}
use Rattle.std.specs.Option.{IfSome}
use Rattle.std.specs.Str.Parse.{starts_with_minus}
use Rattle.memcached_text.specs.declared.limits.TheConstants.{MAX_TEXT_LEN}
use Rattle.memcached_text.specs.declared.lifetime.TheConstants.{MOST_ABOVE, MOST_BELOW}
use Rattle.memcached_text.specs.declared.lifetime.Lifetime.{Lifetime}
use Rattle.memcached_text.specs.declared.lifetime.Lifetime.TheVariants.{Forever, Over}
use Rattle.memcached_text.specs.declared.command.Wants.{Wants}
use Rattle.memcached_text.specs.declared.command.Wants.TheVariants.{Whatever, Absent, Present}
use Rattle.memcached_text.specs.declared.command.Side.TheVariants.{Front, Back}
use Rattle.memcached_text.specs.Lifetimes.{lifetime_at, lifetime_below, lifetime_of, IsLifetime}
use Rattle.memcached_text.specs.Numbers.{number_of}
use Rattle.memcached_text.specs.Fit.{IsKept, IsWant}
use Rattle.memcached_text.proofs.NumberLaws.{small_number}
use Rattle.memcached_text.proofs.FitLaws.{at_fits}
use Rattle.memcached_commands.specs.declared.ask.Ask.{Ask}
use Rattle.memcached_commands.specs.declared.ask.Ask.TheVariants as asks
use Rattle.memcached_commands.specs.Fit.{IsFitAsk, IsFitInitial}
use Rattle.memcached_meta.specs.declared.line.Verb.{Verb}
use Rattle.memcached_meta.specs.declared.line.Verb.TheVariants.{Get, Store, Delete, Count, Debug}
use Rattle.memcached_meta.specs.Flags.{is_flag, argument_of, has_flag, flag_lifetime, flag_number, flag_short, last_lifetime, vivified}
use Rattle.memcached_meta.specs.Asks.{or_else_this, mode_of, unless_zero, wants_number, wants_of, store_of, delete_of, initial_by, count_of, meta_ask}

below_fits : (n : ℕ) → IsLifetime (lifetime_below n)
below_fits n = go (eqb n 0)
  where
    go : (zero : Bool) → IsLifetime (cond zero Forever Over)
    go true = tt
    go false = tt

-- a lifetime that a word says
word_kept : (word : List ℕ) → IsKept (lifetime_of word)
unfolding lifetime_of
word_kept word = go (starts_with_minus word) (number_of MOST_BELOW _) (number_of MOST_ABOVE word)
  where
    go : (t : Bool) (a b : Option ℕ) → IsKept (cond t (option_map lifetime_below a) (option_map (λ n. lifetime_at (n % 2 ^ 32)) b))
    go true None b = tt
    go true (Some a) b = below_fits a
    go false a None = tt
    go false a (Some b) = let low : b % 2 ^ 32 < 2 ^ 32 = mod-lt b (omega arith) in at_fits (b % 2 ^ 32) (omega arith)

-- that of a flag
flag_kept : (o : Option (List ℕ)) → IsKept (option_and_then lifetime_of o)
flag_kept None = tt
flag_kept (Some word) = word_kept word

last_kept : (words : List (List ℕ)) (last : Option Lifetime) → IsKept last → IsKept (last_lifetime last words)
unfolding last_lifetime
last_kept [] last kept = kept
last_kept (word ∷ words) last kept = last_kept words _ (go (is_flag (codes "T") word || is_flag (codes "N") word))
  where
    go : (t : Bool) → IsKept (cond t (lifetime_of (drop 1 word)) last)
    go true = word_kept (drop 1 word)
    go false = kept

vivified_kept : (words : List (List ℕ)) → IsKept (vivified words)
vivified_kept words = go (has_flag (codes "N") words)
  where
    go : (t : Bool) → IsKept (cond t (last_lifetime None words) None)
    go true = last_kept words None tt
    go false = tt

-- numbers of flags
number_small : (most : ℕ) (o : Option (List ℕ)) → IfSome (option_and_then (number_of most) o) (λ n. n ≤ most)
number_small most None = tt
number_small most (Some word) = small_number most word

or_small : (most this : ℕ) (o : Option ℕ) → this ≤ most → IfSome o (λ n. n ≤ most) → or_else_this this o ≤ most
or_small most this None small is = small
or_small most this (Some n) small is = is

or_lifetime : (o : Option Lifetime) → IsKept o → IsLifetime (or_else_this Forever o)
or_lifetime None kept = tt
or_lifetime (Some lifetime) kept = kept

number_wanted : (stale : Bool) (o : Option ℕ) (wants : Wants) → IfSome o (λ n. n ≤ 18446744073709551615) → IsWant wants → IsWant (wants_number stale o wants)
number_wanted stale None wants small is = is
number_wanted true (Some n) wants small is = omega (arith, small)
number_wanted false (Some n) wants small is = omega (arith, small)

wanted : (flags : List (List ℕ)) → IsWant (wants_of flags)
wanted flags = go (bytes_eq (mode_of flags) (codes "E"))
  where
    present : (t : Bool) → IsWant (cond t Present Whatever)
    present true = tt
    present false = tt

    go : (t : Bool) → IsWant (cond t Absent (wants_number (has_flag (codes "I") flags) (flag_number (codes "C") flags) (cond (bytes_eq (mode_of flags) (codes "R")) Present Whatever)))
    go true = tt
    go false = number_wanted (has_flag (codes "I") flags) (flag_number (codes "C") flags) _ (number_small 18446744073709551615 (argument_of (codes "C") flags)) (present (bytes_eq (mode_of flags) (codes "R")))

store_fits : (flags : List (List ℕ)) (value : List ℕ) → length value ≤ MAX_TEXT_LEN → IsFitAsk (store_of flags value)
store_fits flags value short = go (bytes_eq (mode_of flags) (codes "A")) (bytes_eq (mode_of flags) (codes "P"))
  where
    low : or_else_this 0 (flag_short (codes "F") flags) ≤ 4294967295
    low = or_small 4294967295 0 (flag_short (codes "F") flags) (omega arith) (number_small 4294967295 (argument_of (codes "F") flags))

    go : (back front : Bool) → IsFitAsk (cond back (asks.Join Back (unless_zero (flag_number (codes "C") flags)) value) (cond front (asks.Join Front (unless_zero (flag_number (codes "C") flags)) value)
        (asks.Store (wants_of flags) (or_else_this 0 (flag_short (codes "F") flags)) (or_else_this Forever (flag_lifetime (codes "T") flags)) value)))
    go true front = short
    go false true = short
    go false false = (wanted flags, omega (arith, low), or_lifetime (flag_lifetime (codes "T") flags) (flag_kept (argument_of (codes "T") flags)), short)

delete_fits : (flags : List (List ℕ)) → IsFitAsk (delete_of flags)
delete_fits flags = go (has_flag (codes "I") flags)
  where
    go : (t : Bool) → IsFitAsk (cond t (asks.Mark (flag_number (codes "C") flags) (flag_lifetime (codes "T") flags)) (asks.Delete (flag_number (codes "C") flags)))
    go true = flag_kept (argument_of (codes "T") flags)
    go false = tt

initial_fits : (o : Option Lifetime) (number : ℕ) → IsKept o → number ≤ 18446744073709551615 → IsFitInitial (initial_by o number)
initial_fits None number kept small = tt
initial_fits (Some lifetime) number kept small = record { number = omega (arith, small); lifetime = kept }

count_fits : (flags : List (List ℕ)) → IsFitAsk (count_of flags)
count_fits flags =
    let delta = or_small 18446744073709551615 1 (flag_number (codes "D") flags) (omega arith) (number_small 18446744073709551615 (argument_of (codes "D") flags)) in
    let begins = or_small 18446744073709551615 0 (flag_number (codes "J") flags) (omega arith) (number_small 18446744073709551615 (argument_of (codes "J") flags)) in
    (omega (arith, delta), flag_kept (argument_of (codes "T") flags), initial_fits (vivified flags) (or_else_this 0 (flag_number (codes "J") flags)) (vivified_kept flags) begins)

pub ask_fits : (verb : Verb) (flags : List (List ℕ)) (value : List ℕ) → length value ≤ MAX_TEXT_LEN → IsFitAsk (meta_ask verb flags value)
ask_fits Get flags value short = (flag_kept (argument_of (codes "T") flags), vivified_kept flags, flag_kept (argument_of (codes "R") flags))
ask_fits Store flags value short = store_fits flags value short
ask_fits Delete flags value short = delete_fits flags
ask_fits Count flags value short = count_fits flags
ask_fits Debug flags value short = tt
