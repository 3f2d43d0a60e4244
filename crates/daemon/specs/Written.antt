-- What a server that stays up has written, by its status.
use Rattle.std.specs.Prelude.{◌≡◌, ℕ, ◌⊎◌, List}
use Rattle.std.specs.Io.KnownBytes.{Appends, Keeps}
use Rattle.outside.specs.Faults.{Rose}
use Rattle.server_words.specs.Output.{SinkFacts, AppendsPart}
use Rattle.daemon.specs.declared.status.DaemonStatus.{DaemonStatus}
use Rattle.daemon.specs.declared.status.DaemonStatus.TheVariants.{NoMemory, WriteFault}

-- with each status this is due, but nothing with out of memory, nor with a write that failed
abbrev pub IsDue : (DaemonStatus → List ℕ → Type 0) → DaemonStatus → List ℕ → Type 0
IsDue is_due NoMemory text = ⊥
IsDue is_due WriteFault text = ⊥
IsDue is_due status text = is_due status text

-- the text was written as due with the status, or a part of it, where a write failed
abbrev pub IsWritten : DaemonStatus → List ℕ → SinkFacts → SinkFacts → DaemonStatus → Type 0
IsWritten status text old new result =
    ((result ≡ status) × Appends old.taken new.taken text)
    ⊎ ((result ≡ WriteFault) × Rose old.faults new.faults × AppendsPart old new text)

-- there was no memory, and nothing was written
abbrev pub IsUnwritten : SinkFacts → SinkFacts → DaemonStatus → Type 0
IsUnwritten old new result = (result ≡ NoMemory) × Keeps old.taken new.taken

-- one of the texts that are due was written, or there was no memory for it
abbrev pub WritesDue : (DaemonStatus → List ℕ → Type 0) → SinkFacts → SinkFacts → DaemonStatus → Type 0
WritesDue is_due old new result =
    IsUnwritten old new result ⊎ ((status : DaemonStatus) × (text : List ℕ) × IsDue is_due status text × IsWritten status text old new result)

-- the text was written as due with the status, or there was no memory for it
abbrev pub IsTold : DaemonStatus → List ℕ → SinkFacts → SinkFacts → DaemonStatus → Type 0
IsTold status text old new result = IsUnwritten old new result ⊎ IsWritten status text old new result
