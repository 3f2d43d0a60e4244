use Rattle.std.proofs.Common.{rules}
use Rattle.std.proofs.Common.{◌≡◌, ◌<◌, ℕ, List, length, get_or, sym, arith}
use Rattle.std.specs.Global.{Vec}
use Rattle.std.proofs.lemmas.Option.{slice_get_read}
use Rattle.std.proofs.lemmas.Grind.{common_steps}
use Rattle.partition_model.specs.declared.options.Options.{Options}
use Rattle.mica_trace.specs.declared.line.TraceLine.{TraceLine}
use Rattle.mica_trace.specs.LawfulReport.{IsLineFor}
use Rattle.mica_trace.proofs.ListParts.{length_zip}
use Rattle.report_check.specs.declared.sharing.OwnLine.{OwnLine}
use Rattle.report_check.specs.Shared.{AreLinesOf, AreShared}
use Rattle.report_check.proofs.Found.{found_more}
use Rattle.report_check.proofs.check.judge_all.Goals as goal

-- the lines of one partition
own_lines : (options : Options) (trace : List TraceLine) (shared : List (Vec OwnLine)) (p : ℕ) (own : Vec OwnLine) (lines : List OwnLine) → AreShared options trace shared → p < options.partitions
    → own ≡ get_or shared p own → lines ≡ own.items → AreLinesOf options p trace 0 (length trace) lines
own_lines options trace shared p own lines are less is same = grind (arith, common_steps, slice_get_read shared options.partitions p own (sym are.many) less is)

pub first_fall-requires-clause-same : goal.first_fall-requires-clause-same
first_fall-requires-clause-same c = length_zip IsLineFor c.args.trace.now c.args.report.now c.requires.lines

pub judge_partition-requires-clause-own : goal.judge_partition-requires-clause-own
judge_partition-requires-clause-own c = search (rules, own_lines)

pub loop-p-preserved : goal.loop-p-preserved
loop-p-preserved c =
    let options = c.args.options.now in
    let trace = c.args.trace.now in
    let report = c.args.report.now in
    let p = c.loop-p.p in
    let lines = own_lines options trace c.in_ok-shared.shared.items p c.index.result.now c.as_slice-lines.result.now c.in_ok-shared.ensures c.loop-p-test.true c.index.ensures c.as_slice-lines.ensures.value in
    grind (arith, common_steps, found_more options trace report p c.loop-p.found c.in_ok-judged.judged c.in_ok-fall.fall c.loop-p.invariant (c.in_ok-judged.ensures p lines) (c.in_ok-fall.ensures p lines))
