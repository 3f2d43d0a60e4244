-- Lines about keys: get, gets, gat, gats, delete, incr, decr, touch.
use Rattle.std.specs.Prelude.{ℕ, ◌&&◌, ◌||◌, Bool, true, false, List, [], ◌∷◌, codes, bytes_eq, Option, Some, None, option_map, if◌then◌else◌}
use Rattle.std.specs.List.{list_all}
use Rattle.memcached_text.specs.declared.fault.Fault.TheVariants.{Format, DeleteUsage, ExpiryFormat, DeltaFormat}
use Rattle.memcached_text.specs.declared.command.Direction.{Direction}
use Rattle.memcached_text.specs.declared.command.Command.TheVariants as commands
use Rattle.memcached_text.specs.declared.lifetime.Lifetime.{Lifetime}
use Rattle.memcached_text.specs.declared.line.Line.{Line}
use Rattle.memcached_text.specs.declared.line.Line.TheVariants.{Whole}
use Rattle.memcached_text.specs.Lifetimes.{lifetime_of}
use Rattle.memcached_text.specs.Line.{is_key, refused, is_noreply, quiet_tail}
use Rattle.memcached_text.specs.Numbers.{number_of}

-- Each of the lines below is of the words behind a command's name. None where they are too few or too many.

-- words, of which one may be no key
abbrev pub got : Bool → Option Lifetime → List (List ℕ) → Line
got unique lifetime keys =
    if list_all is_key keys then Whole (commands.Get keys unique lifetime) else refused Format false

-- keys, at least one
unfoldable pub get_line : Bool → List (List ℕ) → Option Line
get_line unique [] = None
get_line unique (key ∷ keys) = Some (got unique None (key ∷ keys))

-- the line of a get that touches, by its lifetime if that can be read
abbrev pub got_by : Bool → Option Lifetime → List (List ℕ) → Line
got_by unique None keys = refused ExpiryFormat false
got_by unique (Some lifetime) keys = got unique (Some lifetime) keys

-- an expiry time, and keys
unfoldable pub get_touch_line : Bool → List (List ℕ) → Option Line
get_touch_line unique [] = None
get_touch_line unique (expiry ∷ keys) = Some (got_by unique (lifetime_of expiry) keys)

-- a delete of a word, which may be no key
unfoldable pub deleted : List ℕ → Bool → Line
deleted key quiet = if is_key key then Whole (commands.Delete key quiet) else refused Format quiet

-- a key, a zero that may stand there, and whether a reply is wanted
unfoldable pub delete_line : List (List ℕ) → Option Line
delete_line [] = None
delete_line (key ∷ []) = Some (deleted key false)
delete_line (key ∷ second ∷ []) =
    Some (if bytes_eq second (codes "0") || is_noreply second then deleted key (is_noreply second)
    else refused DeleteUsage false)
delete_line (key ∷ second ∷ third ∷ []) =
    Some (if bytes_eq second (codes "0") && is_noreply third then deleted key true
    else refused DeleteUsage (is_noreply third))
delete_line (_ ∷ _ ∷ _ ∷ _ ∷ _) = None

-- the line of a count, by its number if that can be read
abbrev pub counted_by : Direction → List ℕ → Option ℕ → Bool → Line
counted_by direction key None quiet = refused DeltaFormat quiet
counted_by direction key (Some delta) quiet = Whole (commands.Count direction key delta quiet)

-- a count by a word that may be no number, of one that may be no key
unfoldable pub counted : Direction → List ℕ → List ℕ → Bool → Line
counted direction key delta quiet =
    if is_key key then counted_by direction key (number_of 18446744073709551615 delta) quiet else refused Format quiet

-- a key and a number to count by, and whether a reply is wanted
unfoldable pub count_line : Direction → List (List ℕ) → Option Line
count_line direction (key ∷ delta ∷ tail) = option_map (counted direction key delta) (quiet_tail delta tail)
count_line direction _ = None

-- the line of a touch, by its lifetime if that can be read
abbrev pub touched_by : List ℕ → Option Lifetime → Bool → Line
touched_by key None quiet = refused ExpiryFormat quiet
touched_by key (Some lifetime) quiet = Whole (commands.Touch key lifetime quiet)

-- a touch, whose expiry time may be no number, and its word no key
unfoldable pub touched : List ℕ → List ℕ → Bool → Line
touched key expiry quiet =
    if is_key key then touched_by key (lifetime_of expiry) quiet else refused Format quiet

-- a key and an expiry time, and whether a reply is wanted
unfoldable pub touch_line : List (List ℕ) → Option Line
touch_line (key ∷ expiry ∷ tail) = option_map (touched key expiry) (quiet_tail expiry tail)
touch_line _ = None
