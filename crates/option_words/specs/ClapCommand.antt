-- What clap is told of a command.
use Rattle.std.specs.Prelude.{◌≡◌, Bool, ◌&&◌, List, [], ◌∷◌, Option, Some, None, true, false, map}
use Rattle.clap.specs.Walk.{Rule}
use Rattle.clap.specs.Simple.{App, Shape, new_rule, new_shape}
use Rattle.clap.specs.declared.builder.action.ArgAction.TheVariants.{Set}
use Rattle.option_words.specs.Words.{Text, Given, text_of, begins_with_hyphen, behind_hyphens}

-- an option `--name` of one value
abbrev pub option_rule : Text → Rule
option_rule name = record (new_rule name) { long = Some name; action = Some Set }

-- what clap keeps of a command itself
abbrev pub command_shape : Text → List Text → Shape
command_shape command names = record (new_shape command) {
  rules = map option_rule names;
  no_binary_name = true;
  disable_help_flag = true;
  disable_version_flag = true;
}

-- a command with options of these names and nothing else
abbrev pub app_with : Text → List Text → App
app_with command names = record { top = command_shape command names; subs = [] }

-- there is no text, or an empty one
abbrev pub is_blank : Option Text → Bool
is_blank None = true
is_blank (Some []) = true
is_blank (Some (x ∷ xs)) = false

-- a word that begins with a hyphen and is no `--` with a text behind it, so that no option takes it
abbrev pub is_stray : Text → Bool
is_stray word = begins_with_hyphen word && is_blank (behind_hyphens word)

-- `texts` says of each name which text the words gave to its option
abbrev pub GivesTexts : (Text → Option Text) → Option Given → Type 0
GivesTexts texts None = ⊥
GivesTexts texts (Some given) = (name : Text) → texts name ≡ text_of given name
