use Rattle.std.proofs.Common.{ℕ, ◌-◌, ◌%◌, sym, subst}
use Rattle.partition_table.specs.Laps.{BeginsLap}
use Rattle.partition_table.proofs.Laps.{begins}
use Rattle.partition_table.proofs.places.Places.lap_of.Goals as goal

pub returns-else-self-offset : goal.returns-else-self-offset
returns-else-self-offset c =
    let shape = c.args.self.now.shape in
    let offset = c.args.offset in
    subst (λ (z : ℕ). BeginsLap shape.words offset (offset - offset % z)) (sym c.from-words.ensures) (begins shape.words offset c.args.self.now.some)
