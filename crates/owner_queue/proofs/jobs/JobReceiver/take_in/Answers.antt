use Rattle.std.proofs.Common.{◌≡◌, true, ap, sym, subst}
use Rattle.owner_queue.specs.Messages.{sender_of, sent_by, has_end, MayFollow}
use Rattle.ruled_queue.specs.Ends.{known}
use Rattle.owner_queue.specs.JobEnds.{Outbox, Inbox}
use Rattle.ruled_queue.proofs.Keeps.{merges, learn_rule, whole_rule}
use Rattle.owner_queue.proofs.Ended.{settles}
use Rattle.owner_queue.proofs.jobs.JobReceiver.take_in.Goals as goal

pub absorb-requires-clause-rule : goal.absorb-requires-clause-rule
absorb-requires-clause-rule c = merges _ _ _ _ _ _ _ c.self.invariant.1 c.self.invariant.2 (ap (λ v. v.sends) c.sender.invariant.1)

pub learn_as-requires-clause-rule : goal.learn_as-requires-clause-rule
learn_as-requires-clause-rule c = learn_rule _ _ _ _ (known c.self.inside.pass) (known c.sender.inside.pass) c.absorb.ensures.rule

pub returns-clause-whole : goal.returns-clause-whole
returns-clause-whole c =
    let told = c.learn_as.ensures.rule in
    let all = whole_rule sender_of MayFollow _ (known c.self.inside.pass) (known c.sender.inside.pass) told.0 c.absorb.ensures.rule told.1 in
    subst (λ (y : Outbox × Inbox). sent_by y.0.number y.1.taken ≡ y.0.sent) (λ i. (c.sender.view_is i, c.self.view_is i))
    (settles (known c.self.inside.pass).terms (known c.sender.inside.pass).number (known c.self.inside.pass).taken told.0 (known c.sender.inside.pass).sent all.0 all.1
    (subst (λ (y : Outbox × Inbox). has_end y.0.number y.1.taken ≡ true) (λ i. (sym c.sender.view_is i, sym c.self.view_is i)) c.requires.ended))
