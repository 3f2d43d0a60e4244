use Rattle.std.proofs.Common.{ap, arith}
use Rattle.locked_front.specs.Parts.{LockedView, turns_taken}
use Rattle.locked_server.proofs.Ran.{none_taken}
use Rattle.core_tests.proofs.changes.front_of.Goals as goal

pub new-requires-clause-none : goal.new-requires-clause-none
new-requires-clause-none g c = none_taken c.args.hand.items (λ p x at. (c.requires.hand.each p x at).none)

pub new-requires-clause-each : goal.new-requires-clause-each
new-requires-clause-each g c p part at = (c.requires.hand.each p part at).of

pub returns : goal.returns
returns g c =
    let none = none_taken c.args.hand.items (λ p x at. (c.requires.hand.each p x at).none) in
    omega (arith, none, ap (λ (v : LockedView). turns_taken v.parts) c.new.ensures)
