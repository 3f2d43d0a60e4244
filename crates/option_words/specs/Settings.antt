-- Options, what their texts mean, and what words give by them.
use Rattle.std.specs.Prelude.{ℕ, ◌&&◌, Bool, false, List, [], ◌∷◌, Option, Some, None, if◌then◌else◌, option_and_then, codes, bytes_eq}
use Rattle.std.specs.Int.{is_power_of_two, is_in_range}
use Rattle.std.specs.Str.{all_ascii_digits}
use Rattle.std.specs.Str.Parse.{digits_value}
use Rattle.partition_model.specs.declared.options.Mode.{Mode}
use Rattle.partition_model.specs.declared.options.Mode.TheVariants.{Cache, Store}
use Rattle.option_words.specs.Words.{Text, given_by, text_of}

-- a digit, which is no zero where more follows
abbrev pub begins_number : Text → Bool
begins_number [] = false
begins_number (x ∷ []) = is_in_range 48 57 x
begins_number (x ∷ y ∷ ys) = is_in_range 49 57 x

-- digits alone, and no zero before others
abbrev pub is_number : Text → Bool
is_number text = begins_number text && all_ascii_digits text

-- the number that a text writes, where it is one of this range
abbrev pub number_of : ℕ → ℕ → Text → Option ℕ
number_of least most text =
    if is_number text && is_in_range least most (digits_value 10 text)
    then Some (digits_value 10 text)
    else None

-- the power of two that a text writes, where it is at most this
abbrev pub power_of_two_of : ℕ → Text → Option ℕ
power_of_two_of most text =
    option_and_then (λ n. if is_power_of_two n then Some n else None) (number_of 1 most text)

-- the mode that a text names, of those that the program has
abbrev pub mode_named : Text → Option Mode
mode_named text =
    if bytes_eq text (codes "cache") then Some Cache
    else (if bytes_eq text (codes "store") then Some Store else None)

-- an option: its name, what a text means as its value, and its value where it is not given;
-- without such a value it is required
pub record Setting (A : Type 0) : Type 0 where
  pub name : Text
  pub meaning : Text → Option A
  pub default : Option A

-- an option whose value is a number from `least` to `most`
abbrev pub number : Text → ℕ → ℕ → ℕ → Setting ℕ
number name least most default =
    record { name = name; meaning = number_of least most; default = Some default }

-- an option that is required, whose value is a number from `least` to `most`
abbrev pub required_number : Text → ℕ → ℕ → Setting ℕ
required_number name least most =
    record { name = name; meaning = number_of least most; default = None }

-- an option whose value is a power of two, at most this
abbrev pub power_of_two : Text → ℕ → ℕ → Setting ℕ
power_of_two name most default =
    record { name = name; meaning = power_of_two_of most; default = Some default }

-- options of several programs: the mode, how many tries a get has, and the first port of a server
abbrev pub mode : Setting Mode
mode = record { name = codes "mode"; meaning = mode_named; default = None }

abbrev pub tries : Setting ℕ
tries = number (codes "tries") 1 1000 100

abbrev pub port : Setting ℕ
port = required_number (codes "port") 1024 65000

-- the value of an option that was given this text, or none
abbrev pub value_by : {A : Type 0} → Setting A → Option Text → Option A
value_by setting None = setting.default
value_by setting (Some text) = setting.meaning text

-- the value of an option, where `given` says which text each option was given
abbrev pub value_of : {A : Type 0} → Setting A → (Text → Option Text) → Option A
value_of setting given = value_by setting (given setting.name)

-- the second, which takes what the first has, where both have something
infixr 20 ◌>>=◌
abbrev pub ◌>>=◌ : {A B : Type 0} → Option A → (A → Option B) → Option B
value >>= next = option_and_then next value

-- what words give as options of these names
abbrev pub read_as : {A : Type 0} → List Text → ((Text → Option Text) → Option A) → List Text → Option A
read_as names meaning words = given_by names words >>= λ given. meaning (text_of given)
