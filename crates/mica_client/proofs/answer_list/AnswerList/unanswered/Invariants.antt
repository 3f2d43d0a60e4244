use Rattle.std.proofs.Common.{◌≡◌, map, take}
use Rattle.mica_trace.specs.declared.report.Line.TheVariants.{Sync}
use Rattle.mica_trace.specs.TraceGrammar.{is_sync}
use Rattle.mica_client.proofs.answer_list.AnswerList.unanswered.Given as goal

abbrev pub invariant-loop-line : goal.invariant-loop-line
invariant-loop-line l = record {
  lines : l.lines.items ≡ map (λ line. Sync) (take l.line-index l.trace);
  known : l.known.items ≡ map is_sync (take l.line-index l.trace);
}
