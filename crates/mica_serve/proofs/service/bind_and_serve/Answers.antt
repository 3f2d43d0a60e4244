use Rattle.std.proofs.Common.{◌≡◌, length, vec_len, map, Some, ap, ◌∙◌, arith}
use Rattle.std.specs.Prelude.{Err}
use Rattle.std.proofs.lemmas.List.{length-map}
use Rattle.std.proofs.lemmas.Result.{err_from_is_err_and}
use Rattle.served.specs.Ends.{EndFacts, end_facts}
use Rattle.served.specs.NetRun.{NetFacts, net_facts}
use Rattle.mica_serve.proofs.ValidPorts.{possible_ports}
use Rattle.served.proofs.Whole.{Bound, run_failed, run_served}
use Rattle.mica_serve.proofs.service.bind_and_serve.Given as given
use Rattle.mica_serve.proofs.service.bind_and_serve.Goals.{After-bind_all}
use Rattle.mica_serve.proofs.service.bind_and_serve.Goals as goal

abbrev facts : (g : given.Over) → g.row.N-End.Denot → EndFacts
facts g = end_facts g.N.End.Datagrams

abbrev net_at : (g : given.Over) → g.row.N.Denot → NetFacts
net_at g = net_facts g.N.Net

pub bind_all-requires-clause-ports : goal.bind_all-requires-clause-ports
bind_all-requires-clause-ports g c κs within = possible_ports c.args.ports.now c.requires.ports

pub serve_all-requires-clause-open : goal.serve_all-requires-clause-open
serve_all-requires-clause-open g c _ _ i e is = let new = c.bind_all.ensures.new i e is in (new.unended, new.fresh)

module _ (g : given.Over) (c : After-bind_all g) where
  ends_long : length (map (facts g) c.bind_all.new.ends.items) ≡ vec_len c.bind_all.new.ends
  ends_long = omega (arith, length-map c.bind_all.new.ends.items (facts g), c.bind_all.new.ends.ok)

  bound : Bound c.args.ports.now (net_at g c.args.net.now) (net_at g c.bind_all.new.net) (map (facts g) c.bind_all.new.ends.items)
  bound =
      let it = c.bind_all.ensures in
      record { are_new = it.new; bound = it.bound; within = omega (arith, it.few, ends_long); never_fall = it.never_fall; fails = it.fails; binds = it.binds; first = it.first }

pub returns-in_err-bind_all : goal.returns-in_err-bind_all
returns-in_err-bind_all g c =
    let failed = c.in_err-bind_all.ensures in
    let is = err_from_is_err_and c.from_residual.result c.from_residual.ensures.1 in
    run_failed (bound g (goal.at.returns-in_err-bind_all g c).After-bind_all) (λ p low. tt) (ap Some (is.1 ∙ ap Err is.2)) c.requires.tables failed.cause (omega (arith, failed.refused)) (λ k answers is. absurd (cc))

pub returns : goal.returns
returns g c =
    let z = (goal.at.returns g c).After-bind_all in
    run_served (bound g z) (λ p low. tt) c.serve_all.result (ends_long g z ∙ c.in_ok-bind_all.ensures.all) c.in_ok-bind_all.ensures.steady c.serve_all.ensures
