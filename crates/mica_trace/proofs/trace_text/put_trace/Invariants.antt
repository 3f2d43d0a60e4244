use Rattle.std.proofs.Common.{◌≡◌, ◌++◌, take}
use Rattle.mica_trace.specs.TraceGrammar.{trace_text}
use Rattle.mica_trace.proofs.trace_text.put_trace.Given as goal

abbrev pub invariant-loop-line : goal.invariant-loop-line
invariant-loop-line l = l.out.items ≡ l.initial.out.items ++ trace_text (take l.line-index l.lines)
