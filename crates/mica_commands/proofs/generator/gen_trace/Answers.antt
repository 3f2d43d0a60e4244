use Rattle.std.proofs.Common.{sym, subst, arith}
use Rattle.std.specs.List.{AllByRecursion}
use Rattle.mica_trace.specs.TraceGrammar.{IsTraceLine, IsWithinLimits}
use Rattle.mica_commands.proofs.GenFacts.{gen_facts}
use Rattle.mica_commands.proofs.Generating.{lines_moved, lines_done, all_fit, within_limits, text_fits}
use Rattle.mica_commands.proofs.generator.gen_trace.Goals as goal

pub loop-number-preserved : goal.loop-number-preserved
loop-number-preserved c = record {
  place = c.next_draw-draw.ensures.place;
  whole = lines_moved c.args.options.now c.loop-number.number c.next_draw-draw.result c.loop-number.lines.items c.push_operation.new.lines.items c.loop-number-test.true c.next_draw-draw.ensures.draw c.in_ok-push_operation.ensures c.loop-number.invariant.whole;
}

pub of-requires-clause-lines : goal.of-requires-clause-lines
of-requires-clause-lines c =
    let whole = lines_done c.args.options.now c.loop-number.number c.loop-number.lines.items (omega arith) c.loop-number.invariant.whole in
    subst (AllByRecursion IsTraceLine) (sym whole) (all_fit c.args.options.now (gen_facts c.args.options.now c.requires))

pub of-requires-clause-few : goal.of-requires-clause-few
of-requires-clause-few c =
    let whole = lines_done c.args.options.now c.loop-number.number c.loop-number.lines.items (omega arith) c.loop-number.invariant.whole in
    subst IsWithinLimits (sym whole) (within_limits c.args.options.now (gen_facts c.args.options.now c.requires))

pub returns-in_err-lines-clause-room : goal.returns-in_err-lines-clause-room
returns-in_err-lines-clause-room c = text_fits c.args.options.now c.requires

pub returns-in_err-push_operation-clause-room : goal.returns-in_err-push_operation-clause-room
returns-in_err-push_operation-clause-room c = text_fits c.args.options.now c.requires

pub returns-clause-room : goal.returns-clause-room
returns-clause-room c = text_fits c.args.options.now c.requires
