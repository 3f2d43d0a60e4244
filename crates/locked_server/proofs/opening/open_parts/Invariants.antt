use Rattle.std.proofs.Common.{◌≡◌, ◌++◌, map}
use Rattle.std.specs.Prelude.{Ok}
use Rattle.std.specs.Vec.Iter.{into_iter_items}
use Rattle.locked_server.proofs.opening.open_parts.Given as goal

abbrev pub invariant-loop-made : goal.invariant-loop-made
invariant-loop-made g l = map Ok l.parts.items ++ into_iter_items l.made-iterator ≡ into_iter_items l.initial.made-iterator
