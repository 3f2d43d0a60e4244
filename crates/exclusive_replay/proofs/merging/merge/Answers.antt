use Rattle.std.proofs.Common.{◌≡◌, ◌+◌, ◌<◌, ◌∙◌, List, length, map, take, drop, sym, subst, get_or, arith}
use Rattle.std.specs.Vec.Iter.{into_iter_items}
use Rattle.std.proofs.lemmas.List.{length-map, length-take-le}
use Rattle.mica_trace.specs.declared.line.TraceLine.{TraceLine}
use Rattle.mica_trace.specs.LawfulReport.{IsLineFor}
use Rattle.mica_trace.proofs.ListParts.{length_zip}
use Rattle.line_replies.proofs.Parts.{all_taken}
use Rattle.exclusive_replay.proofs.MergedLines.{some_line, merged_next, at_line, more_lines}
use Rattle.exclusive_replay.proofs.merging.merge.Goals as goal

pub next_for-requires : goal.next_for-requires
next_for-requires c =
    let options = c.args.options.now in
    let lines = c.args.trace.now in
    let i = c.loop-line.line-index in
    let line = c.line-item.result in
    let printed = map (λ it. into_iter_items it) c.loop-line.printed in
    let same = c.lines-line-items.ensures.same in
    let less : i < length lines = subst (λ (ls : List TraceLine). i < length ls) same c.loop-line-test.true in
    let is : line ≡ get_or lines i line = subst (λ (ls : List TraceLine). line ≡ get_or ls i line) same c.line-item.is in
    let here = at_line options lines i line c.loop-line.report printed less is c.loop-line.invariant in
    record {
      valid = c.requires.valid;
      many = c.loop-line.auto.printed ∙ sym (length-map c.args.printed.now (λ it. into_iter_items it)) ∙ c.requires.replied.many;
      some = λ other own got. some_line options (take i lines) (drop (i + 1) lines) c.loop-line.report line (all_taken lines i c.lines-line-items.ensures.lines) printed here other own got;
    }

pub loop-line-preserved : goal.loop-line-preserved
loop-line-preserved c =
    let options = c.args.options.now in
    let lines = c.args.trace.now in
    let i = c.loop-line.line-index in
    let line = c.line-item.result in
    let printed = map (λ it. into_iter_items it) c.loop-line.printed in
    let same = c.lines-line-items.ensures.same in
    let less : i < length lines = subst (λ (ls : List TraceLine). i < length ls) same c.loop-line-test.true in
    let is : line ≡ get_or lines i line = subst (λ (ls : List TraceLine). line ≡ get_or ls i line) same c.line-item.is in
    let here = at_line options lines i line c.loop-line.report printed less is c.loop-line.invariant in
    rw c.in_ok-push.ensures.ok
    (more_lines options lines i line _ _ less is (merged_next options (take i lines) (drop (i + 1) lines) c.loop-line.report line printed _ c.next_for.result (all_taken lines i c.lines-line-items.ensures.lines) here c.next_for.ensures))

pub push-requires : goal.push-requires
push-requires c =
    let lines = c.args.trace.now in
    let i = c.loop-line.line-index in
    let same = c.lines-line-items.ensures.same in
    let less : i < length lines = subst (λ (ls : List TraceLine). i < length ls) same c.loop-line-test.true in
    let long = length_zip IsLineFor (take i lines) c.loop-line.report c.loop-line.invariant.exact.lines in
    let few = c.lines-line-items.ensures.within.few_lines in
    omega (arith, length-take-le i lines (omega arith))
