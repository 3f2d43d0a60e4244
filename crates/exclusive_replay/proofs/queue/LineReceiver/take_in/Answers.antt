use Rattle.std.proofs.Common.{◌≡◌, ◌++◌, true, ap, sym, subst}
use Rattle.ruled_queue.specs.Ends.{known}
use Rattle.ruled_queue.specs.Delivery.{from_sender}
use Rattle.exclusive_replay.specs.LineEnds.{LineBox}
use Rattle.exclusive_replay.specs.Sent.{only_sender, has_end, MayFollow}
use Rattle.ruled_queue.proofs.Keeps.{merges, learn_rule, whole_rule}
use Rattle.exclusive_replay.proofs.OneSender.{settles}
use Rattle.exclusive_replay.proofs.queue.LineReceiver.take_in.Goals as goal

pub absorb-requires-clause-rule : goal.absorb-requires-clause-rule
absorb-requires-clause-rule c = merges _ _ _ _ _ _ _ c.self.invariant.1 c.self.invariant.2 (ap (λ v. v.sends) c.sender.invariant.1)

pub learn_as-requires-clause-rule : goal.learn_as-requires-clause-rule
learn_as-requires-clause-rule c = learn_rule _ _ _ _ (known c.self.inside.pass) (known c.sender.inside.pass) c.absorb.ensures.rule

pub returns-clause-whole : goal.returns-clause-whole
returns-clause-whole c =
    let told = c.learn_as.ensures.rule in
    let all = whole_rule only_sender MayFollow _ (known c.self.inside.pass) (known c.sender.inside.pass) told.0 c.absorb.ensures.rule told.1 in
    let one = subst (λ n. from_sender only_sender n ((known c.self.inside.pass).taken ++ told.0) ≡ (known c.sender.inside.pass).sent) (ap (λ v. v.number) c.sender.invariant.1) all.0 in
    subst (λ (y : LineBox × LineBox). y.1.list ≡ y.0.list) (λ i. (c.sender.view_is i, c.self.view_is i))
    (settles (known c.self.inside.pass).terms (known c.self.inside.pass).taken told.0 (known c.sender.inside.pass).sent one all.1
    (subst (λ (y : LineBox). has_end y.list ≡ true) (λ i. sym c.self.view_is i) c.requires.ended))
