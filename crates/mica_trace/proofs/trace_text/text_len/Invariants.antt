use Rattle.std.proofs.Common.{◌≡◌, length, take}
use Rattle.mica_trace.specs.TraceGrammar.{trace_text}
use Rattle.mica_trace.proofs.trace_text.text_len.Given as goal

abbrev pub invariant-loop-line : goal.invariant-loop-line
invariant-loop-line l = l.len ≡ length (trace_text (take l.line-index l.lines))
