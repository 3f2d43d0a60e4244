use Rattle.std.proofs.Common.{map}
use Rattle.locked_server.specs.Opening.{plan_of, filled_view}
use Rattle.core_tests.proofs.looks.open_and_look.Given as goal

abbrev pub ghosts-look_by_two : goal.ghosts-look_by_two
ghosts-look_by_two g a = record { plan = plan_of a.options.now 2 (map (λ f. filled_view g.P.Partition.owner g.P.Partition.home f) a.parts.items) }
