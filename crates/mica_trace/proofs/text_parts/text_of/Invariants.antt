use Rattle.std.proofs.Common.{◌≡◌, take}
use Rattle.mica_trace.specs.ReportGrammar.{report_text}
use Rattle.mica_trace.proofs.text_parts.text_of.Given as goal

abbrev pub invariant-loop-line : goal.invariant-loop-line
invariant-loop-line l = l.text.items ≡ report_text (take l.line-index l.lines)
