use Rattle.std.proofs.Common.{◌<◌, ap, length, arith}
use Rattle.mica_trace.proofs.Lengths.{short_at, taken_length}
use Rattle.mica_trace.proofs.trace_text.text_len.Goals as goal
use Rattle.mica_trace.proofs.trace_text.text_len.Goals.{in-Put, in-Del, in-Touch, in-Sync}

pub overflow_add-len-in-loop-line : goal.overflow_add-len-in-loop-line
overflow_add-len-in-loop-line c =
    let lines = c.args.lines.now in
    let i = c.loop-line.line-index in
    let less : i < length lines = omega arith in
    let short = short_at lines i c.line-item.result c.line-item.is less c.requires.lines in
    let so_far = taken_length lines i c.requires.lines in
    let key = ap length c.bytes.ensures in
    let value = ap length c.bytes-in-loop-line.ensures in
    let few = c.requires.within.few_lines in
    let key_len = short.key_len in
    let value_len = short.value_len in
    elim c.match-line.branch [ in-Put w ↦ omega arith | in-Del w ↦ omega arith | in-Touch w ↦ omega arith | in-Sync w ↦ omega arith ]
