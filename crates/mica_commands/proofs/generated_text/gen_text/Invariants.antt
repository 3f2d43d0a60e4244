use Rattle.std.proofs.Common.{◌≡◌, ◌*◌, ◌++◌}
use Rattle.mica_trace.specs.TraceGrammar.{trace_text}
use Rattle.mica_commands.specs.Generator.{generator, generated}
use Rattle.mica_commands.proofs.Generating.{lines_from}
use Rattle.mica_commands.proofs.generated_text.gen_text.Given as goal

abbrev pub invariant-loop-number : goal.invariant-loop-number
invariant-loop-number l = record {
  place : l.words ≡ generator l.options (3 * l.number);
  whole : l.text.items ++ trace_text (lines_from l.options l.number) ≡ trace_text (generated l.options);
}
