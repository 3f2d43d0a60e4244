-- The commands, their options, and the command that words give.
use Rattle.std.specs.Prelude.{◌≡◌, ⊤, ℕ, true, List, [], ◌∷◌, ◌++◌, Result, Ok, Err, Option, Some, None, if◌then◌else◌, find, option_map, codes, bytes_eq}
use Rattle.mica_words.specs.declared.hashing.Hashing.TheVariants.{Fnv1a}
use Rattle.partition_model.specs.declared.options.TheConstants.{MAX_WEAR}
use Rattle.partition_model.specs.declared.options.Options.{Options}
use Rattle.partition_model.specs.declared.options.Mode.{Mode}
use Rattle.partition_model.specs.declared.options.Mode.TheVariants.{Store}
use Rattle.partition_model.specs.Options.{IsValid}
use Rattle.server_words.specs.declared.ports.PortOptions.{PortOptions}
use Rattle.server_words.specs.PortOptions.{IsValidPorts}
use Rattle.server_words.specs.declared.ask_options.AskOptions.{AskOptions}
use Rattle.server_words.specs.AskOptions.{IsValidAsk}
use Rattle.option_words.specs.declared.words_fault.WordsFault.{WordsFault}
use Rattle.option_words.specs.declared.words_fault.WordsFault.TheVariants.{Usage, NoMemory}
use Rattle.option_words.specs.Words.{Text}
use Rattle.option_words.specs.Settings.{Setting, number, required_number, power_of_two, mode, tries, port, value_of, read_as, ◌>>=◌}
use Rattle.mica_commands.specs.declared.command.Command.{Command}
use Rattle.mica_commands.specs.declared.command.Command.TheVariants.{Replay, Serve, Gen, Bench, Check, Exclusive, Ask, Image, Unpack}
use Rattle.mica_commands.specs.declared.gen_options.GenOptions.{GenOptions}
use Rattle.mica_commands.specs.GenOptions.{is_valid}

-- each option by its name; a number by its name, its least and greatest value, and its default
abbrev pub partitions : Setting ℕ
partitions = number (codes "partitions") 1 16 4

abbrev pub buckets : Setting ℕ
buckets = power_of_two (codes "buckets") 65536 1024

abbrev pub spares : Setting ℕ
spares = number (codes "spares") 0 65536 1024

abbrev pub words : Setting ℕ
words = number (codes "words") 256 1048576 65536

abbrev pub readers : Setting ℕ
readers = number (codes "readers") 1 16 4

abbrev pub wear : Setting ℕ
wear = number (codes "wear") 1 MAX_WEAR MAX_WEAR

-- the options of a server beside its first port: how many fronts it has, and how many datagrams each of them takes
abbrev pub fronts : Setting ℕ
fronts = number (codes "fronts") 1 16 1

abbrev pub batches : Setting ℕ
batches = required_number (codes "batches") 1 1000000

-- the most requests of a client's batch
abbrev pub per : Setting ℕ
per = number (codes "per") 1 255 32

-- the seconds of silence after which a client gives up
abbrev pub wait : Setting ℕ
wait = number (codes "wait") 1 3600 5

-- the options of a generated trace
abbrev pub seed : Setting ℕ
seed = number (codes "seed") 0 18446744073709551615 1

abbrev pub ops : Setting ℕ
ops = number (codes "ops") 1 100000 20000

abbrev pub keys : Setting ℕ
keys = number (codes "keys") 1 65536 1000

abbrev pub key_len : Setting ℕ
key_len = number (codes "key-len") 8 255 16

abbrev pub value_len : Setting ℕ
value_len = number (codes "value-len") 8 1024 64

abbrev pub gets : Setting ℕ
gets = number (codes "gets") 0 100 95

abbrev pub dels : Setting ℕ
dels = number (codes "dels") 0 100 0

abbrev pub hot : Setting ℕ
hot = number (codes "hot") 0 100 0

abbrev pub every : Setting ℕ
every = number (codes "every") 1 100000 1000

-- the names of the options of `replay`
abbrev pub replay_names : List Text
replay_names = mode.name ∷ partitions.name ∷ buckets.name ∷ spares.name ∷ words.name ∷ readers.name ∷ tries.name ∷ wear.name ∷ []

-- the options of partitions of this mode
abbrev pub options_with : Mode → (Text → Option Text) → Option Options
options_with mode given =
    value_of partitions given >>= λ partitions.
    value_of buckets given >>= λ buckets.
    value_of spares given >>= λ spares.
    value_of words given >>= λ words.
    value_of readers given >>= λ readers.
    value_of tries given >>= λ tries.
    value_of wear given >>= λ wear.
    Some (record {
      mode = mode;
      partitions = partitions;
      buckets = buckets;
      spares = spares;
      words = words;
      readers = readers;
      tries = tries;
      wear = wear;
      hashing = Fnv1a;
    })

-- the options of `replay`, which gives the mode too
abbrev pub replay_options : (Text → Option Text) → Option Options
replay_options given = value_of mode given >>= λ mode. options_with mode given

-- the names of the options of `serve`
abbrev pub serve_names : List Text
serve_names = mode.name ∷ partitions.name ∷ buckets.name ∷ spares.name ∷ words.name ∷ tries.name ∷ wear.name ∷ port.name ∷ fronts.name ∷ batches.name ∷ []

-- the partitions of `serve`, which has no option `--readers`: the number stands at 1
abbrev pub serve_options : (Text → Option Text) → Option Options
serve_options given = option_map (λ (options : Options). record options { readers = 1 }) (replay_options given)

-- the names of the options of `image`
abbrev pub image_names : List Text
image_names = partitions.name ∷ buckets.name ∷ spares.name ∷ words.name ∷ wear.name ∷ []

-- the names of the options of `exclusive`
abbrev pub exclusive_names : List Text
exclusive_names = mode.name ∷ image_names

-- options of a run in which owners alone read: the numbers of readers and of tries stand at 1
abbrev pub without_readers : Options → Options
without_readers options = record options { readers = 1; tries = 1 }

-- the options of `exclusive`
abbrev pub exclusive_options : (Text → Option Text) → Option Options
exclusive_options given = option_map without_readers (replay_options given)

-- the options of `image`, which is in store mode
abbrev pub image_options : (Text → Option Text) → Option Options
image_options given = option_map without_readers (options_with Store given)

-- `unpack` has no options
abbrev pub unpack_names : List Text
unpack_names = []

-- the names of the options of `ask`
abbrev pub ask_names : List Text
ask_names = port.name ∷ partitions.name ∷ fronts.name ∷ per.name ∷ wait.name ∷ []

-- the options of `ask`
abbrev pub ask_options : (Text → Option Text) → Option AskOptions
ask_options given =
    value_of port given >>= λ port.
    value_of partitions given >>= λ partitions.
    value_of fronts given >>= λ fronts.
    value_of per given >>= λ per.
    value_of wait given >>= λ wait.
    Some (record { port = port; partitions = partitions; fronts = fronts; per = per; wait = wait })

-- the ports of `serve`
abbrev pub port_options : (Text → Option Text) → Option PortOptions
port_options given =
    value_of port given >>= λ port.
    value_of fronts given >>= λ fronts.
    value_of batches given >>= λ batches.
    Some (record { port = port; fronts = fronts; batches = batches })

-- options that are valid
abbrev pub if_valid : GenOptions → Option GenOptions
if_valid options = if is_valid options then Some options else None

-- the names of the options of `gen`
abbrev pub gen_names : List Text
gen_names = seed.name ∷ ops.name ∷ keys.name ∷ key_len.name ∷ value_len.name ∷ gets.name ∷ dels.name ∷ hot.name ∷ every.name ∷ []

-- the options of a generated trace, where they are valid together
abbrev pub gen_options : (Text → Option Text) → Option GenOptions
gen_options given =
    value_of seed given >>= λ seed.
    value_of ops given >>= λ ops.
    value_of keys given >>= λ keys.
    value_of key_len given >>= λ key_len.
    value_of value_len given >>= λ value_len.
    value_of gets given >>= λ gets.
    value_of dels given >>= λ dels.
    value_of hot given >>= λ hot.
    value_of every given >>= λ every.
    if_valid (record {
      seed = seed;
      ops = ops;
      keys = keys;
      key_len = key_len;
      value_len = value_len;
      gets = gets;
      dels = dels;
      hot = hot;
      every = every;
    })

-- the names of the options of `bench`
abbrev pub bench_names : List Text
bench_names = replay_names ++ gen_names

-- each command, from the texts that its options were given
abbrev pub replay_given : (Text → Option Text) → Option Command
replay_given given = option_map (λ options. Replay options) (replay_options given)

abbrev pub serve_given : (Text → Option Text) → Option Command
serve_given given = serve_options given >>= λ options. option_map (λ ports. Serve options ports) (port_options given)

abbrev pub gen_given : (Text → Option Text) → Option Command
gen_given given = option_map (λ generator. Gen generator) (gen_options given)

abbrev pub bench_given : (Text → Option Text) → Option Command
bench_given given = replay_options given >>= λ options. option_map (λ generator. Bench options generator) (gen_options given)

abbrev pub check_given : (Text → Option Text) → Option Command
check_given given = option_map (λ options. Check options) (replay_options given)

abbrev pub exclusive_given : (Text → Option Text) → Option Command
exclusive_given given = option_map (λ options. Exclusive options) (exclusive_options given)

abbrev pub ask_given : (Text → Option Text) → Option Command
ask_given given = option_map (λ options. Ask options) (ask_options given)

abbrev pub image_given : (Text → Option Text) → Option Command
image_given given = option_map (λ options. Image options) (image_options given)

abbrev pub unpack_given : (Text → Option Text) → Option Command
unpack_given given = Some Unpack

-- a command as it is read: its name, the names of its options, and what it is by the texts that they were given
pub record Form : Type 0 where
  pub name : Text
  pub options : List Text
  pub meaning : (Text → Option Text) → Option Command

-- all commands
abbrev pub forms : List Form
forms =
    record { name = codes "replay"; options = replay_names; meaning = replay_given }
    ∷ record { name = codes "serve"; options = serve_names; meaning = serve_given }
    ∷ record { name = codes "gen"; options = gen_names; meaning = gen_given }
    ∷ record { name = codes "bench"; options = bench_names; meaning = bench_given }
    ∷ record { name = codes "check"; options = replay_names; meaning = check_given }
    ∷ record { name = codes "exclusive"; options = exclusive_names; meaning = exclusive_given }
    ∷ record { name = codes "ask"; options = ask_names; meaning = ask_given }
    ∷ record { name = codes "image"; options = image_names; meaning = image_given }
    ∷ record { name = codes "unpack"; options = unpack_names; meaning = unpack_given }
    ∷ []

-- the command of this name, with these words behind it
abbrev pub command_named : Text → List Text → Option Command
command_named name words = find (λ form. bytes_eq name form.name) forms >>= λ form. read_as form.options form.meaning words

-- the command that words give: the first is its name, and the rest are its options
abbrev pub command_of : List Text → Option Command
command_of [] = None
command_of (name ∷ words) = command_named name words

-- the options of a command lie in their ranges
abbrev pub IsValidCommand : Command → Type 0
IsValidCommand (Replay options) = IsValid options
IsValidCommand (Serve options ports) = IsValid options × IsValidPorts ports
IsValidCommand (Gen generator) = is_valid generator ≡ true
IsValidCommand (Bench options generator) = IsValid options × (is_valid generator ≡ true)
IsValidCommand (Check options) = IsValid options
IsValidCommand (Exclusive options) = IsValid options
IsValidCommand (Ask options) = IsValidAsk options
IsValidCommand (Image options) = IsValid options × (options.mode ≡ Store)
IsValidCommand Unpack = ⊤

-- what is read of words that give this command, or none: out of memory may come with any
abbrev pub IsReadingOf : Option Command → Result Command WordsFault → Type 0
IsReadingOf given (Ok command) = (given ≡ Some command) × IsValidCommand command
IsReadingOf given (Err Usage) = given ≡ None
IsReadingOf given (Err NoMemory) = ⊤
