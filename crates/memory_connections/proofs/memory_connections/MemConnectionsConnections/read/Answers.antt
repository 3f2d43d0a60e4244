use Rattle.std.proofs.Common.{rules, ◌≡◌, length, ap, ◌∙◌, arith}
use Rattle.connections.specs.Log.{second_of}
use Rattle.std.specs.Prelude.{min}
use Rattle.memory_connections.specs.MemoryConnections.{log_of}
use Rattle.memory_connections.specs.Stage.{played_state}
use Rattle.memory_connections.proofs.Timing.{met_untold}
use Rattle.memory_connections.proofs.Told.{read_told}
use Rattle.memory_connections.proofs.memory_connections.MemConnectionsConnections.read.Goals as goal

pub returns-clause-read : goal.returns-clause-read
returns-clause-read c =
    let same : c.min-most.result ≡ min (length c.args.out.now) c.args.self.now.piece = search rules in
    read_told (log_of c.args.self.now) c.args.number c.place-place.result c.min-most.result _ _ _ c.meet.new.self c.read.new.self c.place-place.ensures.at
    (record { schedule = c.meet.ensures.schedule; entries = c.meet.ensures.entries }) same c.read.ensures.gives c.read.ensures.entries c.read.ensures.schedule

pub returns-clause-rises : goal.returns-clause-rises
returns-clause-rises c =
    let old = c.args.self.now.stage in
    let met : second_of c.meet.new.self.entries ≡ second_of old.entries = ap second_of c.meet.ensures.entries ∙ met_untold (played_state old).later old.entries in
    omega (arith, c.read.ensures.rises, met)
