use Rattle.std.proofs.Common.{take, length, subst, IfSome, Option, ℕ}
use Rattle.mica_client.specs.Talk.{ReceivesNext}
use Rattle.mica_client.proofs.Running.{replies_told, stops_told}
use Rattle.mica_client.proofs.exchange.receive.Goals as goal

pub returns-in-Some-clause-replies : goal.returns-in-Some-clause-replies
returns-in-Some-clause-replies g c =
    let next = subst (λ (got : Option ℕ). IfSome got (λ n. IfSome (g.L.Link.talk c.args.link.now) (λ t. ReceivesNext t (g.L.Link.faults c.args.link.now) (take n c.recv.new.out) (length c.args.room.now) (g.L.Link.talk c.recv.new.self)))) c.in-Some.is c.in_ok-count.ensures.next in
    replies_told c.replies_in.result (g.L.Link.talk c.args.link.now) _ (g.L.Link.faults c.args.link.now) (take c.in-Some.count c.recv.new.out) (length c.args.room.now) c.requires next c.replies_in.ensures.replies

pub returns-in-Some-clause-stops : goal.returns-in-Some-clause-stops
returns-in-Some-clause-stops g c =
    let next = subst (λ (got : Option ℕ). IfSome got (λ n. IfSome (g.L.Link.talk c.args.link.now) (λ t. ReceivesNext t (g.L.Link.faults c.args.link.now) (take n c.recv.new.out) (length c.args.room.now) (g.L.Link.talk c.recv.new.self)))) c.in-Some.is c.in_ok-count.ensures.next in
    stops_told c.replies_in.result (g.L.Link.talk c.args.link.now) _ (g.L.Link.faults c.args.link.now) (take c.in-Some.count c.recv.new.out) (length c.args.room.now) c.requires next c.replies_in.ensures.unread c.replies_in.ensures.fault
