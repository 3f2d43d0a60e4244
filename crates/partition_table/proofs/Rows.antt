-- A row of places and the seats in its first ones.
use Rattle.std.proofs.Common.{◌≡◌, ℕ, zero, suc, ◌+◌, ◌<◌, List, [], ◌∷◌, ◌++◌, length, set, refl, sym, ap, ◌∙◌, arith, append_assoc, add-one, Option, Some}
use Rattle.partition_table.specs.declared.owner.OwnerSeat.{OwnerSeat}
use Rattle.partition_table.specs.declared.tables.KeptSeat.{KeptSeat}
use Rattle.partition_table.specs.Tabled.{kept_seat_of, kept_seat_or_none, kept_seats}

one_more : (ps : List (Option OwnerSeat)) (n : ℕ) (s : OwnerSeat) → n < length ps → kept_seats (set ps n (Some s)) (suc n) ≡ kept_seats ps n ++ kept_seat_of s ∷ []
one_more [] n s l = absurd (omega arith)
one_more (p ∷ []) zero s l = refl
one_more (p ∷ (q ∷ ps)) zero s l = refl
one_more (p ∷ ps) (suc n) s l = ap (λ (z : List KeptSeat). kept_seat_or_none p ++ z) (one_more ps n s (omega arith)) ∙ sym (append_assoc (kept_seat_or_none p) (kept_seats ps n) (kept_seat_of s ∷ []))

pub keeps : (ps : List (Option OwnerSeat)) (n : ℕ) (s : OwnerSeat) → n < length ps → kept_seats (set ps n (Some s)) (n + 1) ≡ kept_seats ps n ++ kept_seat_of s ∷ []
keeps ps n s l = rw add-one (one_more ps n s l)
