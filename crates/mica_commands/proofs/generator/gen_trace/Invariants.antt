use Rattle.std.proofs.Common.{◌≡◌, ◌*◌, ◌++◌}
use Rattle.mica_commands.specs.Generator.{generator, generated}
use Rattle.mica_commands.proofs.Generating.{lines_from}
use Rattle.mica_commands.proofs.generator.gen_trace.Given as goal

abbrev pub invariant-loop-number : goal.invariant-loop-number
invariant-loop-number l = record {
  place : l.words ≡ generator l.options (3 * l.number);
  whole : l.lines.items ++ lines_from l.options l.number ≡ generated l.options;
}
