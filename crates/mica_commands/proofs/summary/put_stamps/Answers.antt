use Rattle.std.proofs.Common.{◌<◌, ◌++◌, ◌∙◌, ap, length, get_or, arith}
use Rattle.std.specs.Fmt.{decimal}
use Rattle.mica_commands.specs.Summary.{number_line}
use Rattle.mica_commands.proofs.Summing.{stamp_line}
use Rattle.mica_commands.proofs.summary.put_stamps.Goals as goal

pub loop-partition-preserved : goal.loop-partition-preserved
loop-partition-preserved c =
    let stamps = c.args.stamps.now in
    let i = c.loop-partition.partition in
    let less : i < length stamps = omega arith in
    c.in_ok-put_number.ensures
    ∙ ap (λ name. c.extend_from_slice.new.self.items ++ number_line name (get_or stamps i 0)) (c.as_bytes.ensures.value ∙ c.format.ensures.text)
    ∙ ap (λ text. text ++ number_line (decimal i) (get_or stamps i 0)) c.in_ok-extend_from_slice.ensures.items
    ∙ stamp_line c.args.text.now.items c.loop-partition.text.items stamps i less c.loop-partition.invariant
