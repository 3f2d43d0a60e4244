use Rattle.std.proofs.Common.{length, sym, ap, ◌∙◌, subst, arith}
use Rattle.std.specs.Prelude.{IfSome}
use Rattle.connection_loop.specs.Open.{IsOpen}
use Rattle.connection_loop.proofs.Budgets.{counted_at}
use Rattle.connection_loop.proofs.Holding.{put_back, let_go, moves_then}
use Rattle.connection_loop.proofs.TakenIn.{takes_in, turns_away}
use Rattle.connection_loop.proofs.serve.take_in.Goals as goal

pub returns-in-Ok-clause-clients : goal.returns-in-Ok-clause-clients
returns-in-Ok-clause-clients g c =
    let log = g.C.Connections.log c.args.connections.now in
    let opened = subst (λ asks. IfSome log (IsOpen c.args.number asks)) (sym c.new.ensures.asks) c.requires.«open» in
    put_back c.args.number c.args.clients.now.held.items c.make_room.new.self.held.items c.put.new.self.held.items log log c.new.result c.requires.clients
    (λ n other. c.make_room.ensures.same n) c.put.ensures.others c.put.ensures.here (λ n a other is. is) c.new.ensures.client opened

pub returns-in-Err-clause-clients : goal.returns-in-Err-clause-clients
returns-in-Err-clause-clients g c =
    let log = g.C.Connections.log in
    let before = log c.args.connections.now in
    let_go c.args.number c.args.clients.now.held.items c.take-gone.new.self.held.items before (log c.close.new.connections) c.requires.clients
    (λ n other. c.take-gone.ensures.others n other ∙ c.make_room.ensures.same n) c.take-gone.ensures.gone
    (moves_then c.args.number before before (log c.close.new.connections) (λ n a other is. is) c.close.ensures.port.told c.close.ensures.others)

pub returns-in-Ok-clause-serves : goal.returns-in-Ok-clause-serves
returns-in-Ok-clause-serves g c = λ options base.
    takes_in options base c.args.number c.args.clients.now.held.items c.put.new.self.held.items c.new.result (λ n other. c.put.ensures.others n other ∙ c.make_room.ensures.same n)
    c.put.ensures.here c.new.ensures.reading c.new.ensures.unsent (c.new.ensures.talk options base) c.new.ensures.waits (g.C.Connections.log c.args.connections.now) c.requires.«open»

pub returns-in-Err-clause-serves : goal.returns-in-Err-clause-serves
returns-in-Err-clause-serves g c = λ options base.
    turns_away options base c.args.number c.args.clients.now.held.items c.take-gone.new.self.held.items (λ n other. c.take-gone.ensures.others n other ∙ c.make_room.ensures.same n)
    c.take-gone.ensures.gone (g.C.Connections.log c.args.connections.now) (g.C.Connections.log c.close.new.connections) c.requires.«open» c.close.ensures.closed

-- nothing is kept of a new client
pub put-requires-clause-here : goal.put-requires-clause-here
put-requires-clause-here g c =
    let counted = c.make_room.new.self.budget.counted in
    let kept = ap length c.new.ensures.kept in
    let unsent = ap length c.new.ensures.unsent in
    let places = c.make_room.ensures.counted.places in
    counted_at counted.items c.args.number _ (omega (arith, places, c.in-Ok.ensures.room, counted.ok.0)) (omega (arith, kept, unsent))
