-- What a round, run whole, makes of its owners and readers.
use Rattle.std.specs.Prelude.{◌≡◌, ℕ, ◌<◌, ◌≤◌, ◌^◌, ◌+◌, ◌-◌, List, [], length, map, take, drop, slice_get, Option, Some, IfSome, All}
use Rattle.atomic_table.specs.Seated.{TableId}
use Rattle.partition_model.specs.declared.options.Options.{Options}
use Rattle.partition_model.specs.declared.write.Write.{Write}
use Rattle.mica_trace.specs.declared.line.TraceLine.{TraceLine}
use Rattle.mica_trace.specs.declared.report.Line.{Line}
use Rattle.partition_words.specs.Shape.{shape_of}
use Rattle.partition_words.specs.OwnerState.{as_made}
use Rattle.partition_words.specs.declared.reader.ReaderState.{ReaderState}
use Rattle.mica_replay.specs.declared.worker.ReaderWork.{ReaderWork}
use Rattle.mica_trace.specs.Rounds.{writes_of}
use Rattle.mica_trace.specs.RoundReport.{EndsRound, IsOneRound, gets_of}
use Rattle.partition_words.specs.declared.state.OwnerState.{OwnerState}
use Rattle.mica_replay.specs.Each.{Each}
use Rattle.mica_replay.specs.LineNumbers.{lines_at, NamesGet}
use Rattle.mica_replay.specs.ReaderGets.{HaveRead}
use Rattle.mica_replay.specs.Replies.{Reply, HasWritten}
use Rattle.mica_replay.specs.Lending.{OwnerPart, lent_part}
use Rattle.partition_table.specs.declared.tables.KeptSeat.{KeptSeat}
use Rattle.partition_table.specs.Tabled.{kept_seat_in}
use Rattle.mica_replay.specs.Between.{HasMet}

-- a reader's seats with their tables, and its part of a round
pub record ReaderPart : Type 0 where
  pub seats : List ReaderState
  pub tables : List TableId
  pub worker : ℕ
  pub gets : List ℕ
  pub found : Option (List Line)

abbrev pub reader_part : {R : Type 0} → (R → ReaderState) → (R → TableId) → ReaderWork R → ReaderPart
reader_part reader home r = record {
  seats = map (λ s. reader s) r.seats.items;
  tables = map (λ s. home s) r.seats.items;
  worker = r.worker;
  gets = r.gets.items;
  found = r.found;
}

-- a reader with lines to get, and no seat yet
pub record IsReadyReaderPart (trace : List TraceLine) (t : ReaderPart) : Type 0 where
  pub seats : t.seats ≡ []
  pub named : All (NamesGet trace) t.gets
  pub few : length t.gets < 2 ^ 32

pub record AreReady (trace : List TraceLine) (options : Options) (owner_parts : List OwnerPart) (reader_parts : List ReaderPart) : Type 0 where
  pub owners : length owner_parts ≡ options.partitions
  pub readers : 0 < length reader_parts
  pub shapes : (p : ℕ) (w : OwnerPart) → slice_get owner_parts p ≡ Some w → w.state.shape ≡ shape_of options
  pub each_reader : (q : ℕ) (t : ReaderPart) → slice_get reader_parts q ≡ Some t → IsReadyReaderPart trace t

-- An owner ran these writes, and has its replies to them.
pub record HasRunWrites (writes : List Write) (old new : OwnerPart) : Type 0 where
  pub written : HasWritten old.state new.state writes new.done.list
  pub table : new.table ≡ old.table
  pub worker : new.worker ≡ old.worker

-- A reader answered its gets with seats that all owners had lent, and has given them back. There is nothing found where there was no memory.
pub record HasReadWith (trace : List TraceLine) (options : Options) (owner_parts : List OwnerPart) (own : List ReaderState) (old new : ReaderPart) : Type 0 where
  pub many : length own ≡ length owner_parts
  pub none : new.seats ≡ []
  pub gets : new.gets ≡ old.gets
  pub worker : new.worker ≡ old.worker
  pub read : IfSome new.found (λ lines. HaveRead options (lines_at trace old.gets) lines (map lent_part owner_parts) own)

-- an owner that ran its writes has met the seats of its partition
pub record HasMetReaders (readers : ℕ) (seats : List (List ReaderState)) (p : ℕ) (ran new : OwnerPart) : Type 0 where
  pub met : HasMet readers seats p ran.state new.state
  pub table : new.table ≡ ran.table
  pub worker : new.worker ≡ ran.worker
  pub done : new.done ≡ ran.done

-- Each owner ran the writes of its queue and then met one seat of each reader. The seats had been lent before, and had answered the reader's gets.
pub record HasRunRound (trace : List TraceLine) (options : Options) (writes : ℕ → List Write) (owner_parts news : List OwnerPart) (reader_parts left_readers : List ReaderPart) : Type 0 where
  pub ran_owners : List OwnerPart
  pub seats : List (List ReaderState)
  pub met : length news ≡ length owner_parts
  pub seated : length seats ≡ length reader_parts
  pub left : length left_readers ≡ length reader_parts
  pub ran : Each (λ p. HasRunWrites (writes p)) owner_parts ran_owners
  pub read : (q : ℕ) (old new : ReaderPart) (own : List ReaderState) → slice_get reader_parts q ≡ Some old → slice_get left_readers q ≡ Some new → slice_get seats q ≡ Some own → HasReadWith trace options owner_parts own old new
  pub meets : (p : ℕ) (ran new : OwnerPart) → slice_get ran_owners p ≡ Some ran → slice_get news p ≡ Some new → HasMetReaders (length reader_parts) seats p ran new

-- The lines of a round are shared out, in trace order: to each queue its partition's writes, and to each reader its gets, by their numbers.
pub record IsSplit (options : Options) (trace : List TraceLine) (g : ℕ) (round : List TraceLine) (writes : ℕ → List Write) (owner_parts : List OwnerPart) (reader_parts : List ReaderPart) : Type 0 where
  pub owners : length owner_parts ≡ options.partitions
  pub readers : length reader_parts ≡ options.readers
  pub queued : (p : ℕ) → writes p ≡ writes_of options p round
  pub gets : (q : ℕ) (t : ReaderPart) → slice_get reader_parts q ≡ Some t → lines_at trace t.gets ≡ gets_of options q g round

abbrev pub state_of_owner : OwnerPart → OwnerState
state_of_owner w = w.state

abbrev pub replies_of : OwnerPart → List Reply
replies_of w = w.done.list

abbrev pub found_of : ReaderPart → Option (List Line)
found_of t = t.found

-- readers without seats, as they are between two rounds
pub record AreFree (options : Options) (reader_parts : List ReaderPart) : Type 0 where
  pub many : length reader_parts ≡ options.readers
  pub none : (q : ℕ) (t : ReaderPart) → slice_get reader_parts q ≡ Some t → t.seats ≡ []

-- one owner for each partition, as made
pub record AreMade (options : Options) (owner_parts : List OwnerPart) : Type 0 where
  pub many : length owner_parts ≡ options.partitions
  pub each : (p : ℕ) (w : OwnerPart) → slice_get owner_parts p ≡ Some w → w.state ≡ as_made (shape_of options)

-- what is kept of an owner
abbrev pub kept_of : OwnerPart → KeptSeat
kept_of w = kept_seat_in w.state

-- line `sync` ends the round that begins at line `from`
pub record IsRoundTo (lines : List TraceLine) (from sync : ℕ) : Type 0 where
  pub low : from ≤ sync
  pub less : sync < length lines
  pub one : IsOneRound (take (sync + 1 - from) (drop from lines))
  pub ends : EndsRound (take (sync + 1) lines)
