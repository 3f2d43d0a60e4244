use Rattle.std.proofs.lemmas.Result.{err_from_is_err_and}
use Rattle.connection_loop.specs.Held.{Visits, VisitLacks}
use Rattle.connection_loop.proofs.Answering.{match_err}
use Rattle.connection_loop.proofs.Revisiting.{lacks_of}
use Rattle.connection_loop.proofs.Traffic.{on_one}
use Rattle.connection_loop.proofs.visits.visit_within.Goals as goal

pub returns-in_err-after-clause-talks : goal.returns-in_err-after-clause-talks
returns-in_err-after-clause-talks g c =
    let r = c.in_err-after.ensures.talks in
    let is = err_from_is_err_and c.from_residual.result c.from_residual.ensures.1 in
    (r.0, r.1, match_err _ _ c.from_residual.result is.0 is.1 r.2)

pub returns-in_err-count-clause-talks : goal.returns-in_err-count-clause-talks
returns-in_err-count-clause-talks g c =
    let options = g.F.Front.options c.args.hand.now.front in
    let base = c.args.hand.now.numbering.base in
    let log = g.C.Connections.log in
    let r = c.in_ok-after.ensures.talks in
    let is = err_from_is_err_and c.from_residual-in_err-count.result c.from_residual-in_err-count.ensures.1 in (
      r.0,
      r.1,
      match_err _ _ c.from_residual-in_err-count.result is.0 is.1
          (on_one c.args.number (Visits options base 2 c.args.client.now r.0 c.visit_on.new.client c.in_ok-after.after) (VisitLacks options base 2 c.args.client.now r.0) (log c.args.connections.now) (log c.visit_on.new.connections)
          (λ d a b v. lacks_of options base d v) r.2),
    )
