-- The number that the process ends with.
use Rattle.std.specs.Prelude.{ℕ}
use Rattle.daemon.specs.declared.status.DaemonStatus.{DaemonStatus}
use Rattle.daemon.specs.declared.status.Ending.{Ending}
use Rattle.daemon.specs.declared.status.Ending.TheVariants.{Answered, Ended}
use Rattle.daemon.specs.declared.status.DaemonStatus.TheVariants.{Usage, NoMemory, TraceLong, ReadFault, WriteFault, NetFault, ImageRefused, UsedUp, Stopped}

-- of a status; 0 is of one that was told to stop
abbrev pub exit_number : DaemonStatus → ℕ
exit_number Usage = 1
exit_number NoMemory = 2
exit_number TraceLong = 4
exit_number ReadFault = 5
exit_number WriteFault = 6
exit_number NetFault = 7
exit_number ImageRefused = 12
exit_number UsedUp = 13
exit_number Stopped = 0

-- of what words came to: 0 exactly where a question of theirs was answered, or their server was told to stop
abbrev pub ending_number : Ending → ℕ
ending_number Answered = 0
ending_number (Ended status) = exit_number status
