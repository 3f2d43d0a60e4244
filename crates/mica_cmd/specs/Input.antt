-- What is due of a command that reads the source, and what it reads.
use Rattle.std.specs.Prelude.{◌≡◌, ◌≢◌, ℕ, ◌+◌, ◌<◌, ◌≤◌, ◌⊎◌, false, List, length, codes, IfSome}
use Rattle.std.specs.Option.{IsSomeAnd}
use Rattle.std.specs.Io.KnownBytes.{Consumes}
use Rattle.outside.specs.Faults.{Rose}
use Rattle.mica_trace.specs.declared.line.TraceLine.{TraceLine}
use Rattle.mica_trace.specs.declared.line.TraceFault.{TraceFault}
use Rattle.mica_trace.specs.declared.line.TraceFault.TheVariants.{NoMemory as NoRoom}
use Rattle.mica_trace.specs.TraceGrammar.{IsTrace, IsNoTrace, Refuses, fault_text}
use Rattle.server_words.specs.declared.limits.TheConstants.{MAX_SOURCE_LEN}
use Rattle.mica_cmd.specs.declared.status.Status.{Status}
use Rattle.mica_cmd.specs.declared.status.Status.TheVariants.{Done, TraceRefused, TraceLong, ReadFault}
use Rattle.server_words.specs.Output.{SinkFacts, with_line_feed}
use Rattle.mica_cmd.specs.Outside.{SourceFacts, Outside}
use Rattle.server_words.specs.Limits.{IsTooLong}
use Rattle.mica_cmd.specs.Headline.{ReadsWhole}
use Rattle.mica_cmd.specs.Promise.{IsUnwritten, IsWritten}

-- a text of this kind is due with Done, and none with another status
abbrev pub AtDone : (List ℕ → Type 0) → Status → List ℕ → Type 0
AtDone is_due Done text = is_due text
AtDone is_due _ text = ⊥

-- the reads gave more bytes than a source may give, also where it tells no bytes, and none has answered that it ended
pub record GivesTooMany (old new : SourceFacts) : Type 0 where
  pub many : IfSome old.left IsTooLong
  pub given : old.given + MAX_SOURCE_LEN < new.given
  pub goes_on : new.has_ended ≡ false

-- the text is due by the bytes that the source gave
abbrev pub IsDueByBytes : (List ℕ → List ℕ → Type 0) → SourceFacts → SourceFacts → List ℕ → Type 0
IsDueByBytes is_due old new text = (bytes : List ℕ) × ReadsWhole old new bytes × is_due bytes text

-- the text is due by the trace that the bytes spell
abbrev pub IsDueByTrace : (List TraceLine → List ℕ → Type 0) → List ℕ → List ℕ → Type 0
IsDueByTrace is_due bytes text = (trace : List TraceLine) × IsTrace bytes trace × is_due trace text

-- the text that is due of a source: the line of too many bytes, the line of a read that failed, or what is due by all its bytes
abbrev pub IsDueOfInput : (Status → List ℕ → List ℕ → Type 0) → SourceFacts → SourceFacts → Status → List ℕ → Type 0
IsDueOfInput is_due old new TraceLong text = GivesTooMany old new × (text ≡ with_line_feed (codes "trace too long"))
IsDueOfInput is_due old new ReadFault text = Rose old.faults new.faults × (text ≡ with_line_feed (codes "read fault"))
IsDueOfInput is_due old new status text = IsDueByBytes (is_due status) old new text

-- the line of the first fault of bytes that are no trace
pub record IsRefusalLine (bytes text : List ℕ) : Type 0 where
  pub fault : TraceFault
  pub named : fault ≢ NoRoom
  pub refused : Refuses bytes fault
  pub no_trace : IsNoTrace bytes
  pub spelled : text ≡ with_line_feed (fault_text fault)

-- the text that is due of bytes: the line of their first fault, or what is due by the trace that they spell
abbrev pub IsDueOfTrace : (Status → List TraceLine → List ℕ → Type 0) → Status → List ℕ → List ℕ → Type 0
IsDueOfTrace is_due TraceRefused bytes text = IsRefusalLine bytes text
IsDueOfTrace is_due status bytes text = IsDueByTrace (is_due status) bytes text

-- no count of faults of source and sink rose
pub record IsUntroubled (old new : Outside) : Type 0 where
  pub source : ¬ (Rose old.source.faults new.source.faults)
  pub sink : ¬ (Rose old.sink.faults new.sink.faults)

-- the source tells too many bytes, or bytes of this kind
abbrev pub TellsInput : (Status → List ℕ → Type 0) → SourceFacts → Status → Type 0
TellsInput is_kind source status =
    IsSomeAnd source.left (λ bytes. ((status ≡ TraceLong) × IsTooLong bytes) ⊎ (¬ (IsTooLong bytes) × is_kind status bytes))

-- the bytes are no trace, or one with which this status comes
abbrev pub IsKindOfTrace : (Status → List TraceLine → Type 0) → Status → List ℕ → Type 0
IsKindOfTrace is_kind status bytes =
    ((status ≡ TraceRefused) × IsNoTrace bytes) ⊎ ((trace : List TraceLine) × IsTrace bytes trace × is_kind status trace)

-- nothing is due by bytes, or by a trace, that were only read
abbrev pub NoneByBytes : Status → List ℕ → List ℕ → Type 0
NoneByBytes status bytes text = ⊥

abbrev pub NoneByTrace : Status → List TraceLine → List ℕ → Type 0
NoneByTrace status trace text = ⊥

-- the source gave at most one byte more than shows that a trace is too long
abbrev pub ReadsInput : SourceFacts → SourceFacts → Type 0
ReadsInput old new = (bytes : List ℕ) × (length bytes ≤ MAX_SOURCE_LEN + 1) × Consumes old.left new.left bytes

-- the source gave this trace, and was read to its end
abbrev pub GivesTrace : SourceFacts → SourceFacts → List TraceLine → Type 0
GivesTrace old new trace = (bytes : List ℕ) × ReadsWhole old new bytes × IsTrace bytes trace

-- what became of a trace that was refused for the fault
abbrev pub IsRefusedWith : TraceFault → SinkFacts → SinkFacts → Status → Type 0
IsRefusedWith fault old new result =
    IsUnwritten old new result ⊎ ((fault ≢ NoRoom) × IsWritten TraceRefused (with_line_feed (fault_text fault)) old new result)
