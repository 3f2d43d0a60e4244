use Rattle.std.proofs.Common.{◌≡◌, ◌++◌, take, drop}
use Rattle.std.specs.List.{flat_map}
use Rattle.mica_trace.specs.TraceGrammar.{trace_text}
use Rattle.store_image.specs.ImageGrammar.{pair_text}
use Rattle.store_image.specs.ImageLines.{put_lines}
use Rattle.store_image.proofs.lines.put_image.Given as goal

abbrev pub invariant-loop : goal.invariant-loop
invariant-loop l = record {
  told : l.out.items ≡ l.initial.out.items ++ trace_text (put_lines (take l.counter l.image));
  left : l.rest ≡ flat_map pair_text (drop l.counter l.image);
}
