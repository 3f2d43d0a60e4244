use Rattle.std.proofs.Common.{◌≡◌, ◌<◌, ◌∙◌, ap, length, arith}
use Rattle.mica_commands.specs.Summary.{stamps_by}
use Rattle.mica_commands.proofs.Summing.{length_by, stamps_more, stamps_whole}
use Rattle.mica_commands.proofs.summary.last_stamps.Goals as goal

pub loop-place-preserved : goal.loop-place-preserved
loop-place-preserved c =
    let options = c.args.options.now in
    let line = c.index-trace-place.result in
    let printed = c.index-report-place.result in
    let less : c.loop-place.place < length c.args.trace.now = omega arith in
    record {
      stamps = c.note_stamp.ensures ∙ ap (λ stamps. stamps_by options stamps line printed) c.loop-place.invariant.stamps
          ∙ stamps_more options c.args.trace.now c.args.report.now c.loop-place.place line printed c.requires.same less c.index-trace-place.is c.index-report-place.is;
      all = ap length c.note_stamp.ensures ∙ length_by options c.loop-place.stamps.items line printed ∙ c.loop-place.invariant.all;
    }

pub returns : goal.returns
returns c =
    let whole : c.loop-place.place ≡ length c.args.trace.now = omega arith in
    c.loop-place.invariant.stamps ∙ stamps_whole c.args.options.now c.args.trace.now c.args.report.now c.loop-place.place c.requires.same whole
