-- What a run of a command promises, whichever command it is.
use Rattle.std.specs.Prelude.{◌≡◌, ℕ, ◌⊎◌, List}
use Rattle.std.specs.Io.KnownBytes.{Appends, Keeps}
use Rattle.outside.specs.Faults.{Rose}
use Rattle.served.specs.NetRun.{NetFacts}
use Rattle.mica_cmd.specs.declared.status.Status.{Status}
use Rattle.mica_cmd.specs.declared.status.Status.TheVariants.{NoMemory, WriteFault}
use Rattle.server_words.specs.Output.{SinkFacts, AppendsPart}
use Rattle.mica_cmd.specs.Outside.{SourceFacts, Outside}

-- the promises of one command, of what was outside before a run and is after it
pub record Promise : Type 1 where
  -- this text is due with the status
  pub is_due : Outside → Outside → Status → List ℕ → Type 0
  -- nothing hinders the run from ending with this status: no count of faults of what it uses rose, and what was told before is of its kind
  pub unhindered : Outside → Outside → Status → Type 0
  -- what it reads
  pub reads : SourceFacts → SourceFacts → Type 0
  -- what becomes of the net, whatever the status
  pub net : NetFacts → NetFacts → Type 0
  -- what becomes of the tables
  pub tables : Outside → Outside → Status → Type 0
  -- what becomes of the link, whatever the status
  pub link : Outside → Outside → Type 0

-- The table of what is due: with each status what the command promises, but nothing with out of memory, nor with a write that failed.
abbrev pub IsDue : (Status → List ℕ → Type 0) → Status → List ℕ → Type 0
IsDue is_due NoMemory text = ⊥
IsDue is_due WriteFault text = ⊥
IsDue is_due status text = is_due status text

-- the sink took a text of this kind, and nothing else
abbrev pub Prints : (List ℕ → Type 0) → SinkFacts → SinkFacts → Type 0
Prints is_due old new = (text : List ℕ) × is_due text × Appends old.taken new.taken text

-- What each status means: nothing written, as memory ran out; a proper prefix of what was due, where a write failed; or the text that is
-- due, and nothing else. For a replay that ends with Done this is the headline.
abbrev pub Ends : (Status → List ℕ → Type 0) → SinkFacts → SinkFacts → Status → Type 0
Ends is_due old new NoMemory = Keeps old.taken new.taken
Ends is_due old new WriteFault =
    Rose old.faults new.faults × ((status : Status) × (text : List ℕ) × IsDue is_due status text × AppendsPart old new text)
Ends is_due old new status = Prints (IsDue is_due status) old new

-- A run keeps the promises of its command.
pub record KeepsPromise (promise : Promise) (old new : Outside) (status : Status) : Type 0 where
  -- each status has its meaning
  pub ended : Ends (promise.is_due old new) old.sink new.sink status
  -- an unhindered status comes, unless memory runs out
  pub complete : (free : Status) → promise.unhindered old new free → (status ≡ free) ⊎ (status ≡ NoMemory)
  pub reads : promise.reads old.source new.source
  pub net : promise.net old.net new.net
  pub tables : promise.tables old new status
  pub link : promise.link old new

-- the text was written as due with the status, or a part of it, where a write failed
abbrev pub IsWritten : Status → List ℕ → SinkFacts → SinkFacts → Status → Type 0
IsWritten status text old new result =
    ((result ≡ status) × Appends old.taken new.taken text)
    ⊎ ((result ≡ WriteFault) × Rose old.faults new.faults × AppendsPart old new text)

-- there was no memory, and nothing was written
abbrev pub IsUnwritten : SinkFacts → SinkFacts → Status → Type 0
IsUnwritten old new result = (result ≡ NoMemory) × Keeps old.taken new.taken

-- one of the texts that are due was written, or there was no memory for it
abbrev pub WritesDue : (Status → List ℕ → Type 0) → SinkFacts → SinkFacts → Status → Type 0
WritesDue is_due old new result =
    IsUnwritten old new result ⊎ ((status : Status) × (text : List ℕ) × IsDue is_due status text × IsWritten status text old new result)

-- the text was written as due with the status, or there was no memory for it
abbrev pub IsTold : Status → List ℕ → SinkFacts → SinkFacts → Status → Type 0
IsTold status text old new result = IsUnwritten old new result ⊎ IsWritten status text old new result
