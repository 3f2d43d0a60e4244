-- What contracts see of the kept seats.
use Rattle.std.specs.Prelude.{ℕ, zero, suc, List, [], ◌∷◌, ◌++◌, Option, Some, None}
use Rattle.partition_words.specs.declared.state.OwnerState.{OwnerState}
use Rattle.partition_table.specs.declared.owner.OwnerSeat.{OwnerSeat}
use Rattle.partition_table.specs.declared.tables.KeptSeat.{KeptSeat}
use Rattle.partition_table.specs.Seats.{owner_state}

-- what is kept of an owner whose run is over
abbrev pub kept_seat_in : OwnerState → KeptSeat
kept_seat_in o = record { shape = o.shape; history = o.history; closed = o.closed }

abbrev pub kept_seat_of : OwnerSeat → KeptSeat
kept_seat_of s = kept_seat_in (owner_state s)

abbrev pub kept_seat_or_none : Option OwnerSeat → List KeptSeat
kept_seat_or_none None = []
kept_seat_or_none (Some s) = kept_seat_of s ∷ []

-- the first n places' seats
abbrev pub kept_seats : List (Option OwnerSeat) → ℕ → List KeptSeat
kept_seats [] n = []
kept_seats (p ∷ ps) zero = []
kept_seats (p ∷ ps) (suc n) = kept_seat_or_none p ++ kept_seats ps n
