use Rattle.std.proofs.Common.{◌≢◌, ℕ, List, refl, sym, ◌∙◌, subst, arith}
use Rattle.std.proofs.lemmas.List.{length-drop}
use Rattle.mica_trace.specs.Lines.{Lacks}
use Rattle.mica_cmd.proofs.Parting.{parted_fed, none_last, line_more, rest_all, same_line, other_line, check}
use Rattle.mica_cmd.proofs.check_parts.split_at_check.Goals as goal

pub returns-in_default-clause-parts : goal.returns-in_default-clause-parts
returns-in_default-clause-parts c =
    let held = c.loop-start.invariant in
    let all = rest_all c.args.bytes.now c.loop-start.start in
    let lacks = subst (Lacks 10) all c.in_default.ensures in
    let other = subst (λ (r : List ℕ). r ≢ check) all (other_line _ _ _ c.if-eq.false c.eq.ensures c.as_slice.ensures) in
    (none_last c.args.bytes.now c.loop-start.start held.high held.whole held.first (omega (arith, c.loop-start-test.true, length-drop c.loop-start.start c.args.bytes.now)) lacks other, refl)

pub returns-then-eq-2-clause-parts : goal.returns-then-eq-2-clause-parts
returns-then-eq-2-clause-parts c =
    let held = c.loop-start.invariant in
    parted_fed c.args.bytes.now c.loop-start.start held.high held.whole held.first c.in-Some.line.now c.in-Some.after.now
    (sym (rest_all c.args.bytes.now c.loop-start.start) ∙ c.in-Some.ensures.0)
    (same_line _ _ _ c.if-eq-2.true c.eq-in-loop-start.ensures c.as_slice-in-loop-start.ensures)

pub loop-start-preserved : goal.loop-start-preserved
loop-start-preserved c =
    let held = c.loop-start.invariant in
    let more = line_more c.args.bytes.now c.loop-start.start held.high held.whole held.first c.in-Some.line.now c.in-Some.after.now _
    (sym (rest_all c.args.bytes.now c.loop-start.start) ∙ c.in-Some.ensures.0) c.in-Some.ensures.1
    (other_line _ _ _ c.if-eq-2.false c.eq-in-loop-start.ensures c.as_slice-in-loop-start.ensures) refl in
    record { high = more.0; whole = more.1; first = more.2 }
