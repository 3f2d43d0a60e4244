-- What contracts see of an owner in a round, and what a meeting makes of it.
use Rattle.std.specs.Prelude.{◌≡◌, ℕ, ◌+◌, List, length, slice_get, Some}
use Rattle.atomic_table.specs.Seated.{TableId}
use Rattle.partition_model.specs.History.{IsPrefix}
use Rattle.partition_words.specs.declared.state.OwnerState.{OwnerState}
use Rattle.partition_words.specs.declared.reader.ReaderState.{ReaderState}
use Rattle.mica_replay.specs.declared.worker.OwnerWork.{OwnerWork}
use Rattle.partition_words.specs.Joins.{lent}
use Rattle.mica_replay.specs.Replies.{Replies}

-- an owner's state and table, and its part of a round
pub record OwnerPart : Type 0 where
  pub state : OwnerState
  pub table : TableId
  pub worker : ℕ
  pub done : Replies

abbrev pub owner_part : {P : Type 0} → (P → OwnerState) → (P → TableId) → OwnerWork P → OwnerPart
owner_part owner home w = record { state = owner w.part; table = home w.part; worker = w.worker; done = w.done }

abbrev pub lent_part : OwnerPart → ReaderState
lent_part w = lent w.state

abbrev pub table_in : OwnerPart → TableId
table_in w = w.table

-- An owner met a seat: all that the seat had seen begins its history, and it has the tries that the seat closed.
pub record MeetsSeat (seat : ReaderState) (old new : OwnerPart) : Type 0 where
  pub shape : new.state.shape ≡ old.state.shape
  pub history : new.state.history ≡ old.state.history
  pub phase : new.state.phase ≡ old.state.phase
  pub closed : new.state.closed ≡ old.state.closed + seat.closed
  pub seen : IsPrefix seat.seen new.state.history
  pub table : new.table ≡ old.table
  pub worker : new.worker ≡ old.worker
  pub done : new.done ≡ old.done

-- each owner met the seat of its place
pub record HaveMet (seats : List ReaderState) (olds news : List OwnerPart) : Type 0 where
  pub many : length news ≡ length olds
  pub each : (p : ℕ) (seat : ReaderState) (old new : OwnerPart) → slice_get seats p ≡ Some seat → slice_get olds p ≡ Some old → slice_get news p ≡ Some new → MeetsSeat seat old new
