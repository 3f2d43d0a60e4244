use Rattle.std.proofs.Common.{drop, get_or, not, sym, ap, ◌∙◌, subst, arith}
use Rattle.std.proofs.lemmas.Bool.{false≢true}
use Rattle.std.proofs.lemmas.Grind.{common_steps}
use Rattle.report_check.specs.declared.partition.Judged.{Judged}
use Rattle.report_check.specs.Judged.{IsJudgedRound}
use Rattle.report_check.proofs.OwnLines.{all_within, left_none}
use Rattle.report_check.proofs.Partitions.{first_is, here, next_round, round_behind, judged_at_end}
use Rattle.report_check.proofs.partition.judge_partition.Goals as goal
use Rattle.report_check.proofs.partition.judge_partition.Goals.{then-is_none, else-is_none}

pub judge_round-requires-clause-within : goal.judge_round-requires-clause-within
judge_round-requires-clause-within c =
    let own = c.requires.own in
    all_within c.args.options.now own.0 c.args.trace.now _ _ _
    (next_round c.args.options.now own.0 c.args.trace.now c.args.report.now c.requires.lines c.args.ends.now c.loop-round.round c.args.lines.now c.loop-round.first c.count_before-count.result
    c.loop-round-test.true c.count_before-count.ensures c.loop-round.machine c.loop-round.missed (c.loop-round.invariant.stands own.0 own.1)).own

pub judge_round-requires-clause-before : goal.judge_round-requires-clause-before
judge_round-requires-clause-before c =
    let own = c.requires.own in (
      c.args.options.now,
      own.0,
      _,
      _,
      next_round c.args.options.now own.0 c.args.trace.now c.args.report.now c.requires.lines c.args.ends.now c.loop-round.round c.args.lines.now c.loop-round.first c.count_before-count.result
          c.loop-round-test.true c.count_before-count.ensures c.loop-round.machine c.loop-round.missed (c.loop-round.invariant.stands own.0 own.1),
    )

pub returns-in-Wrong : goal.returns-in-Wrong
returns-in-Wrong c = λ p are.
    let options = c.args.options.now in
    let trace = c.args.trace.now in
    let report = c.args.report.now in
    let ends = c.args.ends.now in
    let round = c.loop-round.round in
    let between = c.loop-round.invariant.stands p are in
    let from = (here options p trace report c.requires.lines ends round c.args.lines.now c.loop-round.first c.count_before-count.result c.loop-round-test.true c.count_before-count.ensures
    c.loop-round.machine c.loop-round.missed between).from in
    let before = next_round options p trace report c.requires.lines ends round c.args.lines.now c.loop-round.first c.count_before-count.result
    c.loop-round-test.true c.count_before-count.ensures c.loop-round.machine c.loop-round.missed between in
    subst (λ (j : Judged). IsJudgedRound options p trace report from (get_or ends round 0) c.judge_round.new.machine j) c.in-Wrong.is (c.in_ok-place.ensures options p from (get_or ends round 0) before)

pub loop-round-preserved : goal.loop-round-preserved
loop-round-preserved c =
    let options = c.args.options.now in
    let trace = c.args.trace.now in
    let report = c.args.report.now in
    let missed = c.loop-round.missed in
    let found = c.in-Run.found in
    record {
      within = grind (arith, common_steps);
      stands = λ p are.
          let between = c.loop-round.invariant.stands p are in
          let before = next_round options p trace report c.requires.lines c.args.ends.now c.loop-round.round c.args.lines.now c.loop-round.first c.count_before-count.result
          c.loop-round-test.true c.count_before-count.ensures c.loop-round.machine missed between in
          let to = get_or c.args.ends.now c.loop-round.round 0 in
          let from = (here options p trace report c.requires.lines c.args.ends.now c.loop-round.round c.args.lines.now c.loop-round.first c.count_before-count.result
          c.loop-round-test.true c.count_before-count.ensures c.loop-round.machine missed between).from in
          round_behind options p trace report c.requires.lines c.args.ends.now c.loop-round.round c.args.lines.now c.loop-round.first c.count_before-count.result
          c.loop-round-test.true c.count_before-count.ensures c.loop-round.machine missed between c.judge_round.new.machine found c.if-is_none.missed
          (subst (λ (j : Judged). IsJudgedRound options p trace report from to c.judge_round.new.machine j) c.in-Run.is (c.in_ok-place.ensures options p from to before))
          (elim c.if-is_none.branch [
            | then-is_none w ↦ first_is missed found _ (λ _. w.missed-is) (λ some. absurd (false≢true (sym (c.is_none.ensures ∙ ap not w.if-is_none.true) ∙ some)))
            | else-is_none w ↦ first_is missed found _ (λ none. absurd (false≢true (sym none ∙ c.is_none.ensures ∙ ap not w.if-is_none.false))) (λ _. w.missed-is)
          ]);
    }

pub returns : goal.returns
returns c =
    grind (arith, c.args.options.now, c.args.trace.now, c.args.report.now, drop c.loop-round.first c.args.lines.now, judged_at_end c.args.options.now, left_none c.args.ends.now c.loop-round.round c.loop-round-test.false)
