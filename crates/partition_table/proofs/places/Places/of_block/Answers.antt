use Rattle.std.proofs.Common.{◌+◌, arith, rules}
use Rattle.partition_table.proofs.Laps.{in_lap}
use Rattle.partition_table.proofs.places.Places.of_block.Goals as goal

pub returns-then-into-from-clause-first : goal.returns-then-into-from-clause-first
returns-then-into-from-clause-first c = (
  search rules,
  λ i l.
      let self = c.args.self.now in
      let lap = c.lap_of-self.ensures in
      let same = in_lap self.shape.words (c.args.offset + i) c.lap_of-self.result
      record { whole = lap.whole; from = omega (arith, lap.from); below = omega (arith, l, lap.from, c.if-into-from.true, c.from.ensures) } in
      let first = self.first in
      omega (arith, lap.from),
)
