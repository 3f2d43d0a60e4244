use Rattle.std.proofs.Common.{◌≡◌, [], List, drop, subst, arith}
use Rattle.std.proofs.lemmas.List.{drop_all}
use Rattle.mica_trace.specs.declared.line.TraceLine.{TraceLine}
use Rattle.mica_client.specs.Batches.{groups_of}
use Rattle.mica_client.specs.Cutting.{IsCutting}
use Rattle.mica_client.proofs.Cutting.{all_taken}
use Rattle.mica_client.proofs.batches.groups_of.Goals as goal

pub returns : goal.returns
returns c =
    let options = c.args.options.now in
    let lines = c.args.lines.now in
    let n = c.loop-number.number in
    let groups = c.loop-number.groups.items in
    let shares = c.loop-number.shares.items in
    let none : drop n lines ≡ [] = drop_all n lines (omega (arith, c.loop-number-test.false)) in
    all_taken options n groups c.push_round.new.groups.items (groups_of options lines) shares c.loop-number.invariant.many c.in_ok-push_round.ensures
    (subst (λ (later : List TraceLine). IsCutting options n later groups shares (groups_of options lines)) none c.loop-number.invariant.cut)
