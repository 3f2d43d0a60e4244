-- The pairs of an image as lines of a trace.
use Rattle.std.specs.Prelude.{ℕ, List, map}
use Rattle.mica_trace.specs.declared.line.TraceOp.TheVariants.{Put}
use Rattle.mica_trace.specs.declared.line.TraceLine.{TraceLine}
use Rattle.store_image.specs.ImageGrammar.{Pair}

-- the line that puts a pair
abbrev pub put_line : Pair → TraceLine
put_line pair = record { op = Put; key = pair.key; value = pair.value }

-- a trace that puts each pair
abbrev pub put_lines : List Pair → List TraceLine
put_lines pairs = map put_line pairs
