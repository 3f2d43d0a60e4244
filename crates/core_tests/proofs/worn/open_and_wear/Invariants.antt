use Rattle.std.proofs.Common.{map}
use Rattle.locked_server.specs.Opening.{plan_of, filled_view}
use Rattle.core_tests.proofs.worn.open_and_wear.Given as goal

abbrev pub ghosts-wear_by_one : goal.ghosts-wear_by_one
ghosts-wear_by_one g a = record { plan = plan_of a.options.now 1 (map (λ f. filled_view g.P.Partition.owner g.P.Partition.home f) a.parts.items) }
