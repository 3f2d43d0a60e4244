use Rattle.std.proofs.Common.{sym, ap, subst, drop, ◌∙◌}
use Rattle.std.proofs.lemmas.Bool.{false≢true}
use Rattle.std.specs.Cmp.Lexicographic.{other_text}
use Rattle.mica_trace.specs.TraceGrammar.{IsValue}
use Rattle.mica_trace.proofs.ReportReading.{no_answer}
use Rattle.mica_trace.proofs.report_reader.read_got.Goals as goal
use Rattle.mica_trace.proofs.report_reader.read_got.Goals.{in_default-after_word-via-in-Some-after_word+else-is_value, in_default-after_word-via-in_default-after_word}

pub returns-in_default-after_word-clause-bad : goal.returns-in_default-after_word-clause-bad
returns-in_default-after_word-clause-bad c is =
    no_answer c.args.text.now c.in-Some.answer.now c.in-Some.stamp c.in-Some.ensures.0 c.in-Some.ensures.1
    (λ miss. other_text c.in-Some.answer.now c.as_slice.result.now c.if-eq.ensures (miss ∙ sym c.as_slice.ensures))
    (elim c.in_default-after_word.branch [
      | in_default-after_word-via-in-Some-after_word+else-is_value w ↦ λ value is_value same.
          let here = ap (drop 4) (sym w.in-Some-after_word.ensures ∙ same) in
          false≢true (sym w.if-is_value.false ∙ w.is_value.ensures.1 (subst IsValue (sym here) is_value))
      | in_default-after_word-via-in_default-after_word w ↦ λ value is_value same. w.in_default-after_word.ensures value same
    ])
