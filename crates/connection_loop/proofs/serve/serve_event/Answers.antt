use Rattle.std.proofs.Common.{[], sym, subst, arith}
use Rattle.connections.specs.declared.connections.Event.{Event}
use Rattle.connection_loop.specs.Open.{OnLogs}
use Rattle.connection_loop.specs.Standing.{StandsOn}
use Rattle.connection_loop.proofs.Going.{these_none}
use Rattle.connection_loop.proofs.Served.{serves_turned}
use Rattle.connection_loop.proofs.serve.serve_event.Goals as goal

pub returns-in-Opened-clause-serves : goal.returns-in-Opened-clause-serves
returns-in-Opened-clause-serves g c =
    let log = g.C.Connections.log in
    let options = g.F.Front.options c.args.hand.now.front in
    let base = c.args.hand.now.numbering.base in (
      [],
      these_none options g.F.Front.is_alone (g.F.Front.sessions c.args.hand.now.front) (g.F.Front.left c.args.hand.now.front) (g.C.Connections.last c.args.connections.now)
          (g.C.Connections.last c.take_in.new.connections) c.take_in.ensures.rises,
      subst (λ (e : Event). OnLogs (StandsOn options base e c.args.clients.now.held.items c.take_in.result [] c.take_in.new.clients.held.items) (log c.args.connections.now) (log c.take_in.new.connections))
          (sym c.in-Opened.is) (c.take_in.ensures.serves options base),
    )

pub returns-in-TurnedAway-clause-serves : goal.returns-in-TurnedAway-clause-serves
returns-in-TurnedAway-clause-serves g c =
    let log = g.C.Connections.log c.args.connections.now in
    let last = g.C.Connections.last c.args.connections.now in
    let options = g.F.Front.options c.args.hand.now.front in
    let base = c.args.hand.now.numbering.base in
    let clients = c.args.clients.now.held.items in (
      [],
      these_none options g.F.Front.is_alone (g.F.Front.sessions c.args.hand.now.front) (g.F.Front.left c.args.hand.now.front) last last (omega arith),
      subst (λ (e : Event). OnLogs (StandsOn options base e clients 0 [] clients) log log) (sym c.in-TurnedAway.is) (serves_turned options base clients log),
    )

pub returns-in-Ready-clause-serves : goal.returns-in-Ready-clause-serves
returns-in-Ready-clause-serves g c =
    let log = g.C.Connections.log in
    let options = g.F.Front.options c.args.hand.now.front in
    let base = c.args.hand.now.numbering.base in
    let r = c.visit_held.ensures.serves in (
      r.0,
      r.1,
      subst (λ (e : Event). OnLogs (StandsOn options base e c.args.clients.now.held.items c.visit_held.result r.0 c.visit_held.new.clients.held.items) (log c.args.connections.now) (log c.visit_held.new.connections))
          (sym c.in-Ready.is) r.2,
    )
