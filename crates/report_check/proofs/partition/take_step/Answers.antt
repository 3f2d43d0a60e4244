use Rattle.std.proofs.Common.{List, ℕ, MatchBool, sym, ap, ◌∙◌, subst, nat_eq, arith}
use Rattle.std.proofs.lemmas.Grind.{common_steps}
use Rattle.partition_model.specs.declared.write.Write.{Write}
use Rattle.partition_model.specs.History.{Allows, state_of}
use Rattle.partition_model.specs.Run.{IsRunFrom}
use Rattle.partition_model.specs.Write.{write_of}
use Rattle.mica_trace.specs.declared.report.Line.{Line}
use Rattle.mica_trace.specs.LawfulReport.{IsKindOf}
use Rattle.report_check.specs.Judged.{step_at, TakesStep}
use Rattle.report_check.specs.Machines.{options_in, TakesWrite}
use Rattle.report_check.proofs.Taking.{stamped}
use Rattle.report_check.proofs.partition.take_step.Goals as goal

pub returns-then-may : goal.returns-then-may
returns-then-may c = λ options history was.
    let line = c.args.line.now in
    let old = c.args.machine.now in
    let new = c.take.new.self in
    let may = c.in_ok-may-in-Wrote.may in
    let op = c.in-Wrote.op in
    let state = state_of options history in
    let same = ap (λ (key : List ℕ). write_of op key c.bytes-value.result.now) c.bytes-key.ensures ∙ ap (λ (value : List ℕ). write_of op line.key value) c.bytes-value.ensures in
    let said = subst (λ (w : Write). MatchBool may (TakesWrite state w c.in-Wrote.outcome old new) (¬ (Allows (options_in old) state w c.in-Wrote.outcome))) same (c.in_ok-may-in-Wrote.ensures state was.at) in
    subst (λ (r : Line). MatchBool (nat_eq c.stamp.result c.in-Wrote.stamp) (TakesStep options history line r new) (¬ (IsRunFrom options history (step_at line r)))) (sym c.in-Wrote.is)
    (stamped options history line op c.in-Wrote.outcome c.in-Wrote.stamp (subst (λ (r : Line). IsKindOf line.op r) c.in-Wrote.is c.requires.stands.1) old new was may said c.if-may.true c.stamp.result c.stamp.ensures)

pub returns-else-may : goal.returns-else-may
returns-else-may c = λ options history was.
    let line = c.args.line.now in
    let old = c.args.machine.now in
    let new = c.take.new.self in
    let may = c.in_ok-may-in-Wrote.may in
    let op = c.in-Wrote.op in
    let state = state_of options history in
    let same = ap (λ (key : List ℕ). write_of op key c.bytes-value.result.now) c.bytes-key.ensures ∙ ap (λ (value : List ℕ). write_of op line.key value) c.bytes-value.ensures in
    let said = subst (λ (w : Write). MatchBool may (TakesWrite state w c.in-Wrote.outcome old new) (¬ (Allows (options_in old) state w c.in-Wrote.outcome))) same (c.in_ok-may-in-Wrote.ensures state was.at) in
    grind (arith, common_steps)
