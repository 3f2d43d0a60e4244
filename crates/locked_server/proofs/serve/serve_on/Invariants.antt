use Rattle.std.proofs.Common.{◌+◌, map}
use Rattle.locked_server.specs.Opening.{plan_of, filled_view}
use Rattle.locked_server.proofs.serve.serve_on.Given as goal

abbrev pub ghosts-serve_named : goal.ghosts-serve_named
ghosts-serve_named g a = record { plan = plan_of a.shared.now.service.options (a.shared.now.service.places + a.shared.now.service.ports.fronts) (map (λ f. filled_view g.P.Partition.owner g.P.Partition.home f) a.parts.items) }
