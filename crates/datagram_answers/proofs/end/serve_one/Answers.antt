use Rattle.std.proofs.Common.{◌<◌, List, length, take, Option, subst, sym}
use Rattle.std.specs.Prelude.{IfSome}
use Rattle.std.specs.List.{All}
use Rattle.std.proofs.lemmas.List.Elements.{All-from_recursion}
use Rattle.outside.specs.Traffic.{Datagram, ReceivesNext}
use Rattle.datagram_answers.specs.OneEnd.{OnTraffic, SendsAll, SendsPart}
use Rattle.datagram_answers.proofs.SentReplies.{each_some, none_empty}
use Rattle.datagram_answers.proofs.OneEnd.{served_one, short_one, unread_one, stays_one}
use Rattle.datagram_answers.proofs.end.serve_one.Goals as goal

pub send_all-requires-clause-some : goal.send_all-requires-clause-some
send_all-requires-clause-some g c =
    let dealt = c.in_ok-dealt.ensures.dealt in
    subst (λ (r : List Datagram). All (λ d. 0 < length d) r) (sym c.as_slice.ensures.value)
    (All-from_recursion (λ d. 0 < length d) c.in_ok-dealt.dealt.replies.items (none_empty c.in_ok-dealt.dealt.replies.items (each_some _ dealt.2.is)))

pub returns-in_err-send_all-clause-stopped : goal.returns-in_err-send_all-clause-stopped
returns-in_err-send_all-clause-stopped g c _ =
    let dealt = c.in_ok-dealt.ensures.dealt in
    let next = subst (λ (o : Option _). IfSome o (λ n. IfSome (g.D.Datagrams.traffic c.args.end.now)
    (λ t. ReceivesNext t (take n c.recv.new.out) (length c.args.room.now) (g.D.Datagrams.traffic c.recv.new.self)))) c.in-Some.is c.in_ok-count.ensures.next in
    short_one (g.F.Front.options c.args.front.now) g.F.Front.is_alone (g.F.Front.sessions c.args.front.now) (g.F.Front.sessions c.deal.new.front)
    (g.F.Front.left c.args.front.now) (g.F.Front.left c.deal.new.front) (length c.args.room.now) (take c.in-Some.count c.recv.new.out) dealt.0 c.in_ok-dealt.dealt.replies.items
    (g.D.Datagrams.traffic c.args.end.now) (g.D.Datagrams.traffic c.recv.new.self) (g.D.Datagrams.traffic c.send_all.new.end) c.requires.room next dealt.2
    (subst (λ (r : List Datagram). OnTraffic (SendsPart r) (g.D.Datagrams.traffic c.recv.new.self) (g.D.Datagrams.traffic c.send_all.new.end)) c.as_slice.ensures.value
    c.in_err-send_all.ensures.part)

pub returns-clause-served : goal.returns-clause-served
returns-clause-served g c =
    let dealt = c.in_ok-dealt.ensures.dealt in
    let next = subst (λ (o : Option _). IfSome o (λ n. IfSome (g.D.Datagrams.traffic c.args.end.now)
    (λ t. ReceivesNext t (take n c.recv.new.out) (length c.args.room.now) (g.D.Datagrams.traffic c.recv.new.self)))) c.in-Some.is c.in_ok-count.ensures.next in
    served_one (g.F.Front.options c.args.front.now) g.F.Front.is_alone (g.F.Front.sessions c.args.front.now) (g.F.Front.sessions c.deal.new.front)
    (g.F.Front.left c.args.front.now) (g.F.Front.left c.deal.new.front) (length c.args.room.now) c.in_ok-dealt.dealt.requests (take c.in-Some.count c.recv.new.out) dealt.0
    c.in_ok-dealt.dealt.replies.items (g.D.Datagrams.traffic c.args.end.now) (g.D.Datagrams.traffic c.recv.new.self) (g.D.Datagrams.traffic c.send_all.new.end) c.requires.room next
    dealt.2 dealt.1
    (subst (λ (r : List Datagram). OnTraffic (SendsAll r) (g.D.Datagrams.traffic c.recv.new.self) (g.D.Datagrams.traffic c.send_all.new.end)) c.as_slice.ensures.value
    c.in_ok-send_all.ensures.sent)

pub returns-in_err-count-clause-stopped : goal.returns-in_err-count-clause-stopped
returns-in_err-count-clause-stopped g c _ =
    stays_one (g.F.Front.options c.args.front.now) g.F.Front.is_alone (g.F.Front.sessions c.args.front.now) (g.F.Front.left c.args.front.now)
    (g.D.Datagrams.traffic c.args.end.now) (g.D.Datagrams.traffic c.recv.new.self) c.in_err-count.ensures.untaken

pub returns-in_err-dealt-clause-unread : goal.returns-in_err-dealt-clause-unread
returns-in_err-dealt-clause-unread g c _ =
    unread_one (length c.args.room.now) (take c.in-Some.count c.recv.new.out) (g.D.Datagrams.traffic c.args.end.now) (g.D.Datagrams.traffic c.recv.new.self)
    (subst (λ (o : Option _). IfSome o (λ n. IfSome (g.D.Datagrams.traffic c.args.end.now)
    (λ t. ReceivesNext t (take n c.recv.new.out) (length c.args.room.now) (g.D.Datagrams.traffic c.recv.new.self)))) c.in-Some.is c.in_ok-count.ensures.next)
