use Rattle.std.specs.Prelude.{Ok}
use Rattle.std.proofs.lemmas.Result.{err_from_is_err_and}
use Rattle.connection_loop.specs.Traffic.{SendsOf, SendsSome}
use Rattle.connection_loop.proofs.Answering.{match_err}
use Rattle.connection_loop.proofs.Traffic.{on_one}
use Rattle.connection_loop.proofs.visit.send_new.Goals as goal

pub returns-in_err-keep-clause-sends : goal.returns-in_err-keep-clause-sends
returns-in_err-keep-clause-sends g c =
    let is = err_from_is_err_and c.from_residual.result c.from_residual.ensures.1 in
    match_err _ _ c.from_residual.result is.0 is.1
    (on_one c.args.number (SendsOf c.args.replies.now (Ok c.in-Ok.sent)) (SendsSome c.args.replies.now) (g.C.Connections.log c.args.connections.now) (g.C.Connections.log c.send.new.connections)
    (λ d a b sends. (c.in-Ok.sent, sends.0)) c.in-Ok.ensures.sends)
