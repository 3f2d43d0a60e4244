-- What a split and a join make of the states of owners and readers.
use Rattle.std.specs.Prelude.{◌+◌, [], ◌∷◌, ◌++◌, length, nat_lt, if◌then◌else◌, None}
use Rattle.partition_model.specs.History.{History}
use Rattle.partition_words.specs.declared.state.OwnerState.{OwnerState}
use Rattle.partition_words.specs.declared.state.Phase.{Phase}
use Rattle.partition_words.specs.declared.state.Phase.TheVariants.{Marked}
use Rattle.partition_words.specs.declared.reader.Known.{Known}
use Rattle.partition_words.specs.declared.reader.ReaderState.{ReaderState}
use Rattle.partition_words.specs.ReaderState.{newcomer}

-- the part of the history whose writes have ended
abbrev pub ended_in : Phase → History → History
ended_in (Marked b write before) history = before
ended_in _ history = history

-- the seat or the note that an owner splits off
abbrev pub lent : OwnerState → ReaderState
lent o = newcomer o.shape o.history (ended_in o.phase o.history)

-- the note that a reader splits off
abbrev pub note_of : ReaderState → ReaderState
note_of r = newcomer r.shape r.seen r.done

-- the owner that a seat was joined into
abbrev pub met_by : OwnerState → ReaderState → OwnerState
met_by o r = record o { met = record { seen = r.seen; fails = r.fails }; closed = o.closed + r.closed }

-- the longer of two histories
abbrev pub longer : History → History → History
longer one other = if nat_lt (length one) (length other) then other else one

-- what others may learn of a reader: what it has seen and what it closed
abbrev pub known : ReaderState → Known
known r = record { seen = r.seen; done = r.done }

-- the reader that a note was joined into, whose open try is given up
abbrev pub told : ReaderState → ReaderState → ReaderState
told r note = record r {
  seen = longer r.seen note.seen;
  done = longer r.done note.done;
  met = known r ∷ known note ∷ [];
  fails = r.fails ++ note.fails;
  current = None;
}
