use Rattle.std.proofs.Common.{arith}
use Rattle.partition_table.proofs.Laps.{in_lap}
use Rattle.partition_table.proofs.places.Places.of_item.Goals as goal

pub returns-clause-place : goal.returns-clause-place
returns-clause-place c =
    let self = c.args.self.now in
    let same = in_lap self.shape.words c.args.offset c.lap_of-self.result c.lap_of-self.ensures in
    let first = self.first in
    omega arith
