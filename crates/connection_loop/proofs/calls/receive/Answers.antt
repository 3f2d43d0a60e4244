use Rattle.std.proofs.Common.{length, ◌+◌}
use Rattle.connection_loop.specs.Open.{gained}
use Rattle.connection_loop.proofs.Opening.{receives, received_keeps, received_open}
use Rattle.connection_loop.proofs.Drying.{reads_told}
use Rattle.connection_loop.proofs.calls.receive.Goals as goal

pub returns-clause-reads : goal.returns-clause-reads
returns-clause-reads g c =
    let log = g.C.Connections.log in
    reads_told c.args.number c.args.asks (length c.args.out.now) c.read.new.out c.read.result (log c.args.connections.now) (log c.read.new.self) c.requires.«open» c.read.ensures.read

pub returns-clause-keeps : goal.returns-clause-keeps
returns-clause-keeps g c =
    let log = g.C.Connections.log in
    received_keeps c.args.number (c.args.asks + gained c.read.result) (log c.args.connections.now) (log c.read.new.self)
    (receives c.args.number (length c.args.out.now) c.args.asks c.read.new.out c.read.result (log c.args.connections.now) (log c.read.new.self) c.requires.«open» c.read.ensures.read)

pub returns-clause-open : goal.returns-clause-open
returns-clause-open g c =
    let log = g.C.Connections.log in
    received_open c.args.number (c.args.asks + gained c.read.result) (log c.args.connections.now) (log c.read.new.self) c.read.ensures.leaves.told
    (receives c.args.number (length c.args.out.now) c.args.asks c.read.new.out c.read.result (log c.args.connections.now) (log c.read.new.self) c.requires.«open» c.read.ensures.read)
