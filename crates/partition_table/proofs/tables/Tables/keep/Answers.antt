use Rattle.std.proofs.Common.{◌<◌, [], ◌∷◌, ◌++◌, length, Some, List, ap, ◌∙◌, arith, length-set, length-append}
use Rattle.partition_table.specs.declared.tables.KeptSeat.{KeptSeat}
use Rattle.partition_table.specs.Tabled.{kept_seat_of, kept_seats}
use Rattle.partition_table.proofs.Rows.{keeps}
use Rattle.partition_table.proofs.tables.Tables.keep.Goals as goal

pub invariant_of-self : goal.invariant_of-self
invariant_of-self c =
    let t = c.self.inside in
    let old = c.self.invariant in
    let free : t.count < length t.seats = omega (arith, c.requires.few, ap (length {A = KeptSeat}) c.self.view_is) in
    let more = keeps t.seats t.count c.args.seat free in (
      length-set t.seats t.count (Some c.args.seat) ∙ old.0,
      omega arith,
      omega (arith, ap (length {A = KeptSeat}) more, length-append (kept_seats t.seats t.count) (kept_seat_of c.args.seat ∷ [])),
    )

pub returns : goal.returns
returns c =
    let t = c.self.inside in
    let old = c.self.invariant in
    let free : t.count < length t.seats = omega (arith, c.requires.few, ap (length {A = KeptSeat}) c.self.view_is) in
    keeps t.seats t.count c.args.seat free ∙ ap (λ (z : List KeptSeat). z ++ kept_seat_of c.args.seat ∷ []) c.self.view_is
