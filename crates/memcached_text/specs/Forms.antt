-- What a line says by itself, by cases on its words.
use Rattle.std.specs.Prelude.{ℕ, Bool, true, false, List, [], ◌∷◌, ◌++◌, nat_eq, codes, bytes_eq, find, Option, Some, None, option_and_then, if◌then◌else◌}
use Rattle.std.specs.List.{starts_with}
use Rattle.memcached_text.specs.declared.fault.Fault.TheVariants.{Unknown}
use Rattle.memcached_text.specs.declared.command.Command.TheVariants as commands
use Rattle.memcached_text.specs.declared.command.Wants.TheVariants.{Whatever, Absent, Present}
use Rattle.memcached_text.specs.declared.command.Side.TheVariants.{Front, Back}
use Rattle.memcached_text.specs.declared.command.Direction.TheVariants.{Up, Down}
use Rattle.memcached_text.specs.declared.storage_line.Verb.TheVariants.{Store, Join}
use Rattle.memcached_text.specs.declared.line.Line.{Line}
use Rattle.memcached_text.specs.declared.line.Line.TheVariants.{Whole}
use Rattle.memcached_text.specs.Line.{refused}
use Rattle.memcached_text.specs.StorageLine.{set_line, cas_line, drop_meta_line}
use Rattle.memcached_text.specs.KeyLine.{get_line, get_touch_line, delete_line, count_line, touch_line}
use Rattle.memcached_text.specs.ServerLine.{flush_line, stats_line, verbosity_line}

-- a command as it is read: its name, and what a line says that has these words behind it
pub record Form : Type 0 where
  pub name : List ℕ
  pub meaning : List (List ℕ) → Option Line

-- The commands that most clients send. A reader tries them first.
abbrev pub common_forms : List Form
common_forms =
    record { name = codes "get"; meaning = get_line false }
    ∷ record { name = codes "set"; meaning = set_line (Store Whatever) }
    ∷ record { name = codes "gets"; meaning = get_line true }
    ∷ []

-- All others. The last is not supported: it is read so that its block is dropped.
abbrev pub other_forms : List Form
other_forms =
    record { name = codes "gat"; meaning = get_touch_line false }
    ∷ record { name = codes "gats"; meaning = get_touch_line true }
    ∷ record { name = codes "add"; meaning = set_line (Store Absent) }
    ∷ record { name = codes "replace"; meaning = set_line (Store Present) }
    ∷ record { name = codes "append"; meaning = set_line (Join Back) }
    ∷ record { name = codes "prepend"; meaning = set_line (Join Front) }
    ∷ record { name = codes "cas"; meaning = cas_line }
    ∷ record { name = codes "incr"; meaning = count_line Up }
    ∷ record { name = codes "decr"; meaning = count_line Down }
    ∷ record { name = codes "delete"; meaning = delete_line }
    ∷ record { name = codes "touch"; meaning = touch_line }
    ∷ record { name = codes "flush_all"; meaning = flush_line }
    ∷ record { name = codes "stats"; meaning = stats_line }
    ∷ record { name = codes "version"; meaning = λ words. Some (Whole commands.Version) }
    ∷ record { name = codes "verbosity"; meaning = verbosity_line }
    ∷ record { name = codes "mn"; meaning = λ words. Some (Whole commands.Noop) }
    ∷ record { name = codes "quit"; meaning = λ words. Some (Whole commands.Quit) }
    ∷ record { name = codes "ms"; meaning = λ words. Some (drop_meta_line words) }
    ∷ []

-- all forms of lines
abbrev pub forms : List Form
forms = common_forms ++ other_forms

-- what a line of this name says by one of these forms, with these words behind it; none where there is no such command
abbrev pub line_by : List Form → List ℕ → List (List ℕ) → Option Line
line_by forms name words = option_and_then (λ (form : Form). form.meaning words) (find (λ form. bytes_eq name form.name) forms)

-- whether the last of these words is what a request of HTTP has there
unfoldable pub ends_as_http : List (List ℕ) → Bool
ends_as_http [] = false
ends_as_http (word ∷ []) = starts_with nat_eq word (codes "HTTP/")
ends_as_http (word ∷ next ∷ words) = ends_as_http (next ∷ words)

-- A line of these words that is no command. One of HTTP ends the connection, so that nothing which a browser is made to
-- send is read as a command.
abbrev pub or_unknown : List (List ℕ) → Option Line → Line
or_unknown words (Some line) = line
or_unknown words None = if ends_as_http words then Whole commands.Quit else refused Unknown false

-- what a line of these words says by itself: the first is the command's name
unfoldable pub line_of : List (List ℕ) → Line
line_of [] = refused Unknown false
line_of (name ∷ words) = or_unknown (name ∷ words) (line_by forms name words)
