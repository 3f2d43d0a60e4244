-- Which words name options and give them values.
use Rattle.std.specs.Prelude.{ℕ, ◌==◌, Bool, false, List, [], ◌∷◌, ◌++◌, Option, Some, None, if◌then◌else◌, option_and_then, option_map, find, bytes_eq}
use Rattle.std.specs.List.{list_any, before_first, after_first}

-- a word or a part of one, as its bytes
abbrev pub Text : Type 0
Text = List ℕ

-- the texts that options were given, each behind its option's name, in the order of the words
abbrev pub Given : Type 0
Given = List (Text × Text)

-- the name is one of these
abbrev pub has_name : Text → List Text → Bool
has_name name names = list_any (λ n. bytes_eq n name) names

-- the option of this name was given a text
abbrev pub is_given : Text → Given → Bool
is_given name given = list_any (λ p. bytes_eq p.0 name) given

-- the text that an option was given
abbrev pub text_of : Given → Text → Option Text
text_of given name = option_map (λ p. p.1) (find (λ p. bytes_eq p.0 name) given)

-- the first byte is `-`
abbrev pub begins_with_hyphen : Text → Bool
begins_with_hyphen [] = false
begins_with_hyphen (x ∷ xs) = x == 45

-- the text behind a first hyphen
abbrev pub behind_hyphen : Text → Option Text
behind_hyphen [] = None
behind_hyphen (x ∷ xs) = if x == 45 then Some xs else None

-- the text behind two hyphens
abbrev pub behind_hyphens : Text → Option Text
behind_hyphens word = option_and_then behind_hyphen (behind_hyphen word)

-- the byte is `=`
abbrev pub is_equals_sign : ℕ → Bool
is_equals_sign x = x == 61

-- a word is `--name`, or `--name=value`, with the name of an option, or another word
pub data Word : Type 0 where
  named : Text → Word
  valued : Text → Text → Word
  other : Word

-- the word whose text behind its hyphens is this
abbrev pub option_word : List Text → Text → Word
option_word names text =
    if list_any is_equals_sign text
    then (if has_name (before_first is_equals_sign text) names
    then valued (before_first is_equals_sign text) (after_first is_equals_sign text)
    else other)
    else (if has_name text names then named text else other)

-- the kind of a word by what stands behind its two hyphens, if it begins with two
abbrev pub word_by : List Text → Option Text → Word
word_by names None = other
word_by names (Some text) = option_word names text

-- which of the three a word is, where the options have these names
abbrev pub word_of : List Text → Text → Word
word_of names word = word_by names (behind_hyphens word)

-- an option is given its text, unless it has one already
abbrev pub give : Text → Text → Given → (Given → Option Given) → Option Given
give name text given next = if is_given name given then None else next (given ++ (name, text) ∷ [])

-- what a word does to what was given
abbrev pub on_word : Word → Given → (Given → Option Text → Option Given) → Option Given
on_word (named name) given next = next given (Some name)
on_word (valued name text) given next = give name text given (λ g. next g None)
on_word other given next = None

-- what the words give to the options of these names, behind what was given before them; an option
-- that was named by the word before them waits for its text
abbrev pub given_after : List Text → Given → Option Text → List Text → Option Given
given_after names given None [] = Some given
given_after names given (Some name) [] = None
given_after names given None (word ∷ words) =
    on_word (word_of names word) given (λ g waiting. given_after names g waiting words)
given_after names given (Some name) (word ∷ words) =
    if begins_with_hyphen word then None
    else give name word given (λ g. given_after names g None words)

-- what the words give to the options of these names, where each word is an option's
abbrev pub given_by : List Text → List Text → Option Given
given_by names words = given_after names [] None words
