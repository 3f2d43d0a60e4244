use Rattle.std.proofs.Common.{rules, ◌≡◌, ◌+◌, ◌-◌, ◌++◌, length, sym, ap, ◌∙◌}
use Rattle.std.specs.Prelude.{take, drop, min}
use Rattle.connections.specs.Connection.{readable}
use Rattle.memory_connections.proofs.Views.{more_waits, kept_waits, all_waits}
use Rattle.memory_connections.proofs.memory_connection.changed.Goals as goal

pub returns-in-Some-clause-waiting : goal.returns-in-Some-clause-waiting
returns-in-Some-clause-waiting c =
    let u = c.args.unread.now in
    let came = c.args.came in
    let comes = c.args.change.now.comes in
    let more : c.min.result ≡ min (length u - came) comes = search rules in
    let kept : c.min-kept.result ≡ min (came + c.min.result) c.in-Some.count = search rules in
    ap (λ k. take k (take k u)) kept ∙ kept_waits (came + c.min.result) c.in-Some.count u
    ∙ ap (take c.in-Some.count) (ap (λ k. take (came + k) u) more ∙ more_waits came comes u c.requires)
    ∙ ap (λ b. readable b (take came u ++ take comes (drop came u))) (sym c.in-Some.is)

pub returns-in-None-clause-waiting : goal.returns-in-None-clause-waiting
returns-in-None-clause-waiting c =
    let u = c.args.unread.now in
    let came = c.args.came in
    let comes = c.args.change.now.comes in
    let more : c.min.result ≡ min (length u - came) comes = search rules in
    all_waits (came + c.min.result) u ∙ (ap (λ k. take (came + k) u) more ∙ more_waits came comes u c.requires)
    ∙ ap (λ b. readable b (take came u ++ take comes (drop came u))) (sym c.in-None.is)

pub returns-in-None-2-clause-waiting : goal.returns-in-None-2-clause-waiting
returns-in-None-2-clause-waiting c =
    let u = c.args.unread.now in
    let came = c.args.came in
    let comes = c.args.change.now.comes in
    let more : c.min.result ≡ min (length u - came) comes = search rules in
    ap (λ k. take (came + k) u) more ∙ more_waits came comes u c.requires
    ∙ ap (λ b. readable b (take came u ++ take comes (drop came u))) (sym c.in-None.is)
