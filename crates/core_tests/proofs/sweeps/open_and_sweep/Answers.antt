use Rattle.std.proofs.Common.{[], List, map, subst}
use Rattle.std.specs.Prelude.{IfOk}
use Rattle.locked_server.specs.declared.opening.FilledPart.{FilledPart}
use Rattle.locked_server.specs.Opening.{FilledView, AreFilled, filled_view}
use Rattle.locked_server.proofs.Named.{of_plan}
use Rattle.core_tests.proofs.sweeps.open_and_sweep.Given as given
use Rattle.core_tests.proofs.sweeps.open_and_sweep.Goals as goal

abbrev views : (g : given.Over) → List (FilledPart g.row.P.Denot) → List FilledView
views g parts = map (λ f. filled_view g.P.Partition.owner g.P.Partition.home f) parts

pub sweep_by_one-requires-clause-of : goal.sweep_by_one-requires-clause-of
sweep_by_one-requires-clause-of g c κs within =
    of_plan c.args.options.now 1 [] (views g c.in-Ok.parts.items)
    (subst (λ opened. IfOk opened (λ parts. AreFilled c.args.options.now [] (views g parts.items))) c.in-Ok.is c.open_parts-opened.ensures.filled)
