use Rattle.std.proofs.Common.{ap, subst}
use Rattle.ruled_queue.specs.Ends.{known}
use Rattle.owner_queue.specs.AckEnds.{AckBox, BeginsAcks}
use Rattle.owner_queue.specs.AckOrder.{only_sender, AckMayFollowAt}
use Rattle.ruled_queue.proofs.Keeps.{merges, learn_rule, whole_rule}
use Rattle.owner_queue.proofs.OneSender.{begins_with}
use Rattle.owner_queue.proofs.acks.AckReceiver.take_in.Goals as goal

pub absorb-requires-clause-rule : goal.absorb-requires-clause-rule
absorb-requires-clause-rule c = merges _ _ _ _ _ _ _ c.self.invariant.1 c.self.invariant.2 (ap (λ v. v.sends) c.sender.invariant.1)

pub learn_as-requires-clause-rule : goal.learn_as-requires-clause-rule
learn_as-requires-clause-rule c = learn_rule _ _ _ _ (known c.self.inside.pass) (known c.sender.inside.pass) c.absorb.ensures.rule

pub returns-clause-begins : goal.returns-clause-begins
returns-clause-begins c =
    let told = c.learn_as.ensures.rule in
    let all = whole_rule only_sender AckMayFollowAt _ (known c.self.inside.pass) (known c.sender.inside.pass) told.0 c.absorb.ensures.rule told.1 in
    subst (λ (y : AckBox × AckBox). BeginsAcks y.0.list y.1.list) (λ i. (c.self.view_is i, c.sender.view_is i))
    (begins_with (known c.self.inside.pass).taken told.0 (known c.sender.inside.pass).sent _ c.sender.invariant.2 all.0)
