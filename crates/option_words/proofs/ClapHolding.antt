-- How clap holds options, and what they were given.
use Rattle.std.proofs.Common.{◌≡◌, ℕ, ◌||◌, true, false, true≢false, List, [], ◌∷◌, ◌++◌, map, Option, Some, None, sym, refl, ap, append-nil, arith}
use Rattle.std.specs.Prelude.{if◌then◌else◌}
use Rattle.std.specs.Str.{bytes_eq}
use Rattle.std.proofs.lemmas.Slice.Eq.{bytes_eq-Decides}
use Rattle.std.proofs.lemmas.Grind.{common_steps}
use Rattle.clap.specs.Walk.{Rule, Row, Held, Walk, idle, option, arg_by_long, arg_by_id, arg_by_index, Waiting, more_values, has_row, at_row, used}
use Rattle.clap.specs.Simple.{Shape, built, filled, filled_from}
use Rattle.clap.specs.Kinds.{Kinds, or_else}
use Rattle.clap.specs.declared.parser.matches.ValueSource.TheVariants.{CommandLine}
use Rattle.clap.specs.Values.{reading_of}
use Rattle.clap.specs.declared.builder.value_parser.Reading.{Reading}
use Rattle.clap.specs.declared.builder.value_parser.ValueParser.TheVariants.{String}
use Rattle.option_words.specs.ClapCommand.{option_rule, command_shape}
use Rattle.option_words.specs.Words.{Text, Given, has_name, is_given}

-- the option as building leaves it
abbrev pub opt : Text → Rule
opt n = filled (option_rule n)

pub filled_options : (i : ℕ) (names : List Text) → filled_from i (map option_rule names) ≡ map opt names
filled_options i [] = refl
filled_options i (n ∷ ns) = ap (λ l. opt n ∷ l) (filled_options i ns)

pub same_text : (a b : Text) → bytes_eq a b ≡ true → a ≡ b
same_text a b e = (bytes_eq-Decides a b).0 e

pub same_bytes : (a : Text) → bytes_eq a a ≡ true
same_bytes a = (bytes_eq-Decides a a).1 refl

pub long_found : (n : Text) (names : List Text) → arg_by_long (map opt names) n ≡ (if has_name n names then Some (opt n) else None)
long_found n [] = refl
long_found n (m ∷ ms) = grind (arith, common_steps, same_text m n, long_found n ms)

pub no_index : (i : ℕ) (names : List Text) → arg_by_index (map opt names) i ≡ None
no_index i [] = refl
no_index i (n ∷ ns) = no_index i ns

pub id_found : (n : Text) (names : List Text) → has_name n names ≡ true → arg_by_id (map opt names) n ≡ Some (opt n)
id_found n [] e = absurd (true≢false (sym e))
id_found n (m ∷ ms) e = grind (arith, common_steps, same_text m n, id_found n ms)

-- the shape of the built command
abbrev pub shape : Text → List Text → Shape
shape command names = record (command_shape command names) { rules = map opt names; is_built = true; disable_help_subcommand = true }

-- what was given, as clap holds it
abbrev pub how : Reading
how = reading_of String

abbrev pub row : Text × Text → Row
row p = record { id = p.0; values = p.1 ∷ []; count = None; source = Some CommandLine; reading = how }

abbrev pub rows : Given → List Row
rows = map row

pub row_there : (n : Text) (given : Given) → has_row n (rows given) ≡ is_given n given
row_there n [] = refl
row_there n (p ∷ ps) = ap (λ b. bytes_eq p.0 n || b) (row_there n ps)

pub row_added : (n : Text) (change : Row → List Row) (missing rs : List Row) → has_row n rs ≡ false → at_row n change missing rs ≡ rs ++ missing
row_added n change missing [] e = refl
row_added n change missing (r ∷ rs) e = grind (arith, common_steps, row_added n change missing rs)

pub rows_more : (given : Given) (p : Text × Text) → rows given ++ row p ∷ [] ≡ rows (given ++ p ∷ [])
rows_more [] p = refl
rows_more (q ∷ qs) p = ap (λ l. row q ∷ l) (rows_more qs p)

pub use_is : (n v : Text) (given : Given) → is_given n given ≡ false → used (opt n) (v ∷ []) (rows given) ≡ rows (given ++ (n, v) ∷ [])
use_is n v given fresh =
    grind (arith, common_steps, row_there n given, row_added n, append-nil (rows given), row_added n (more_values CommandLine (v ∷ [])) (row (n, v) ∷ []) (rows given), rows_more given (n, v))

-- where a walk over the words may stand
abbrev pub hold : Given → Option (Text × List Text) → Held
hold given pending = record { rows = rows given; pending = pending; skip = 0 }

abbrev pub at : Held → Waiting → Walk
at h waiting = record { held = h; waiting = waiting; position = 1; is_trailing = false; stopped = None }

-- nothing waits; or the value of n was met and is not in the rows yet; or n waits for its value
abbrev pub resting : Given → Walk
resting given = at (hold given None) idle

abbrev pub met : Given → Text → Text → Walk
met given n v = at (hold given (Some (n, v ∷ []))) idle

abbrev pub awaiting : Given → Text → Walk
awaiting given n = at (hold given (Some (n, []))) (option n)

abbrev pub IsFault : Kinds → Type 0
IsFault [] = ⊥
IsFault (k ∷ ks) = Unit {0}

pub fault_first : (a b : Kinds) → IsFault a → IsFault (or_else a b)
fault_first [] b h = absurd h
fault_first (k ∷ ks) b h = tt
