use Rattle.std.proofs.Common.{◌≡◌, ◌++◌, Some, map}
use Rattle.std.specs.Vec.Iter.{into_iter_items}
use Rattle.mica_trace.proofs.text_parts.texts_of.Given as goal

abbrev pub invariant-loop-made : goal.invariant-loop-made
invariant-loop-made g l = map Some l.texts.items ++ into_iter_items l.made-iterator ≡ into_iter_items l.initial.made-iterator
