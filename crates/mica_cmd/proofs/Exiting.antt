-- How the process ends with what its words ask for.
use Rattle.std.proofs.Common.{◌≡◌, ℕ, List, Option, Some, None, refl, sym, subst, map, drop}
use Rattle.std.specs.Prelude.{option_map}
use Rattle.mica_cmd.specs.declared.status.Status.{Status}
use Rattle.mica_cmd.specs.declared.status.Status.TheVariants.{NoMemory}
use Rattle.option_words.specs.Words.{Text}
use Rattle.mica_commands.specs.CommandLine.{command_of}
use Rattle.mica_cmd.specs.Outside.{Outside}
use Rattle.mica_cmd.specs.Promise.{KeepsPromise}
use Rattle.mica_cmd.specs.Promises.{promise_of}
use Rattle.mica_cmd.specs.Exit.{exit_number, Exits}
use Rattle.option_words.proofs.ProgramWords.{words_behind}
use Rattle.mica_cmd.proofs.Settled.{memory_promise}

pub no_memory_exits : (words : Option (List Text)) (outside : Outside) (number : ℕ) → outside.net.binds ≡ 0 → number ≡ exit_number NoMemory → Exits words outside outside number
no_memory_exits None outside number none told = (told, refl)
no_memory_exits (Some words) outside number none told = (NoMemory, told, memory_promise (command_of words) outside none)

-- the words behind the first of all words are those that the command was read from
pub words_exit : {S : Type 0} (text : S → Text) (all : Option (List Text)) (words behind : List S) (status : Status) → all ≡ Some (map text words) → behind ≡ drop 1 words
    → (old new : Outside) (number : ℕ) → number ≡ exit_number status → KeepsPromise (promise_of (command_of (map text behind))) old new status
    → Exits (option_map (λ ws. drop 1 ws) all) old new number
words_exit text all words behind status are is old new number told kept =
    subst (λ ws. Exits ws old new number) (sym (words_behind text all words behind are is)) (status, told, kept)

-- whatever is known of the words, the number is that of a status
pub ends_with_status : (words : Option (List Text)) (old new : Outside) (number : ℕ) → Exits words old new number → (status : Status) × (number ≡ exit_number status)
ends_with_status None old new number exits = (NoMemory, exits.0)
ends_with_status (Some words) old new number exits = (exits.0, exits.1)
