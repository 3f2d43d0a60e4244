-- How the process ends.
use Rattle.std.specs.Prelude.{◌≡◌, ℕ, List, Option, Some, None}
use Rattle.mica_cmd.specs.declared.status.Status.{Status}
use Rattle.mica_cmd.specs.declared.status.Status.TheVariants.{Done, Usage, NoMemory, TraceRefused, TraceLong, ReadFault, WriteFault, NetFault, Unlawful, ReportRefused, ReplyRefused, LinkFault, ImageRefused}
use Rattle.option_words.specs.Words.{Text}
use Rattle.mica_commands.specs.CommandLine.{command_of}
use Rattle.mica_cmd.specs.Outside.{Outside}
use Rattle.mica_cmd.specs.Promise.{KeepsPromise}
use Rattle.mica_cmd.specs.Promises.{promise_of}

-- the number that the process ends with for a status
abbrev pub exit_number : Status → ℕ
exit_number Done = 0
exit_number Usage = 1
exit_number NoMemory = 2
exit_number TraceRefused = 3
exit_number TraceLong = 4
exit_number ReadFault = 5
exit_number WriteFault = 6
exit_number NetFault = 7
exit_number Unlawful = 8
exit_number ReportRefused = 9
exit_number ReplyRefused = 10
exit_number LinkFault = 11
exit_number ImageRefused = 12

-- The process ends with the number of a status that keeps the promises for these words, or with that of out of memory where nothing is
-- known of them.
abbrev pub Exits : Option (List Text) → Outside → Outside → ℕ → Type 0
Exits None old new number = (number ≡ exit_number NoMemory) × (new ≡ old)
Exits (Some words) old new number =
    (status : Status) × (number ≡ exit_number status) × KeepsPromise (promise_of (command_of words)) old new status
