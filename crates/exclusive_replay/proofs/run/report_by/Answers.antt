use Rattle.std.proofs.Common.{◌≡◌, ◌+◌, ◌∷◌, ◌++◌, [], ℕ, List, length, map, sym, ap, ◌∙◌, subst}
use Rattle.std.specs.Global.{Global}
use Rattle.std.specs.declared.vec.IntoIter.{IntoIter}
use Rattle.std.specs.Vec.Iter.{into_iter_items}
use Rattle.std.proofs.lemmas.List.{length_push, map-append}
use Rattle.mica_trace.specs.declared.report.Line.{Line}
use Rattle.exclusive_replay.specs.declared.owner.Owner.{Owner}
use Rattle.exclusive_replay.specs.LineEnds.{LineBox}
use Rattle.exclusive_replay.proofs.Collected.{IsCollecting, one_collected}
use Rattle.exclusive_replay.proofs.run.report_by.Goals as goal

abbrev left : IntoIter Line Global → List Line
left it = into_iter_items it

pub loop-owner-preserved : goal.loop-owner-preserved
loop-owner-preserved c =
    let options = c.args.options.now in
    let trace = c.args.trace.now in
    let yielded = c.loop-owner.yielded in
    let owner = c.in-Some.owner in
    let sender = c.next_sender.result in
    let lines = c.in_ok-lines.lines in
    let vs : List Owner = into_iter_items c.next.new.self in
    let ss : List LineBox = into_iter_items c.next_sender.new.senders in
    let senders : List LineBox = into_iter_items c.loop-owner.senders in
    let printed = map left c.loop-owner.printed.items in
    let here = subst (λ (os : List Owner). IsCollecting options trace (length yielded) os senders printed) c.in-Some.ensures.steps.0 c.loop-owner.invariant in
    let at = subst (λ (s : List LineBox). IsCollecting options trace (length yielded) (owner ∷ vs) s printed) c.next_sender.ensures here in
    let one = one_collected options trace (length yielded) owner vs sender ss printed lines at c.in_ok-lines.ensures.whole c.in_ok-lines.ensures.printed in
    let more : printed ++ lines.items ∷ [] ≡ map left c.push.new.self.items
    = ap (λ (l : List Line). printed ++ l ∷ []) (sym c.into_iter.ensures.rest) ∙ sym (ap (map left) c.in_ok-push.ensures.items ∙ map-append left c.loop-owner.printed.items (c.into_iter.result ∷ [])) in
    subst (λ (n : ℕ). IsCollecting options trace n vs ss (map left c.push.new.self.items)) (sym (length_push yielded owner))
    (subst (λ (l : List (List Line)). IsCollecting options trace (length yielded + 1) vs ss l) more one)
