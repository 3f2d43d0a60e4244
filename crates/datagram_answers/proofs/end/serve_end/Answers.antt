use Rattle.std.proofs.Common.{rules, ◌≡◌, ◌≤◌, ◌+◌, Bool, true, false, eqb, Option, sym, ap, ◌∙◌, subst, arith}
use Rattle.std.specs.Prelude.{IfSome}
use Rattle.partition_model.specs.declared.options.Options.{Options}
use Rattle.fronts.specs.declared.totals.Totals.{Totals}
use Rattle.datagram_answers.specs.OneEnd.{OnTraffic, StopsOne, LeavesUnread, ServesOne, ServesSome, LeavesEnd}
use Rattle.datagram_answers.proofs.RequestsInOrder.{one_at_most}
use Rattle.datagram_answers.proofs.Serving.{on_traffic_then, serves_more, stops_at, wants_at, wants_fresh}
use Rattle.datagram_answers.proofs.end.serve_end.Goals as goal

pub returns-in_err-requests-clause-stopped : goal.returns-in_err-requests-clause-stopped
returns-in_err-requests-clause-stopped g c failed =
    let options = g.F.Front.options c.args.front.now in
    let old = g.F.Front.sessions c.args.front.now in
    let left = g.F.Front.left c.args.front.now in
    let between = g.F.Front.sessions c.loop.front in
    let left_before = g.F.Front.left c.loop.front in
    let new = g.F.Front.sessions c.serve_one.new.front in
    let left_after = g.F.Front.left c.serve_one.new.front in
    let a = g.D.Datagrams.traffic c.args.end.now in
    let b = g.D.Datagrams.traffic c.loop.end in
    let after = g.D.Datagrams.traffic c.serve_one.new.end in
    let stopped : OnTraffic (StopsOne (g.F.Front.options c.loop.front) g.F.Front.is_alone between left_before new left_after) b after = search rules in
    let same = subst (λ (o : Options). OnTraffic (StopsOne o g.F.Front.is_alone between left_before new left_after) b after) c.loop.invariant.2 stopped in
    let still : g.D.Datagrams.has_ended c.serve_one.new.end ≡ false = search rules in
    subst (λ (e : Bool). OnTraffic (LeavesEnd options g.F.Front.is_alone old left c.args.batches e new left_after) a after) (sym still)
    (on_traffic_then
    (λ x y z p q. stops_at options g.F.Front.is_alone old left c.loop.counter c.args.batches c.loop.totals between new left_before left_after x y z c.loop-test.true p q)
    a b after c.loop.invariant.0 same)

pub returns-in_err-requests-clause-wants : goal.returns-in_err-requests-clause-wants
returns-in_err-requests-clause-wants g c failed =
    let b = g.D.Datagrams.traffic c.loop.end in
    let after = g.D.Datagrams.traffic c.serve_one.new.end in
    let unread : OnTraffic LeavesUnread b after = search rules in
    on_traffic_then
    (λ x y z p q. wants_at (g.F.Front.options c.args.front.now) g.F.Front.is_alone (g.F.Front.sessions c.args.front.now) (g.F.Front.left c.args.front.now) c.loop.counter c.args.batches
    c.loop.totals (g.F.Front.sessions c.loop.front) (g.F.Front.left c.loop.front) x y z c.loop-test.true p q) (g.D.Datagrams.traffic c.args.end.now) b after c.loop.invariant.0 unread

pub returns-in_err-out-clause-wants : goal.returns-in_err-out-clause-wants
returns-in_err-out-clause-wants g c failed = wants_fresh c.args.batches (g.D.Datagrams.traffic c.args.end.now) c.requires.fresh

pub loop-preserved : goal.loop-preserved
loop-preserved g c =
    let n = c.loop.counter in
    let inv = c.loop.invariant in
    let requests = c.in-Some.requests in
    let a = g.D.Datagrams.traffic c.args.end.now in
    let b = g.D.Datagrams.traffic c.loop.end in
    let after = g.D.Datagrams.traffic c.serve_one.new.end in
    let one = subst (λ (o : Option _). IfSome o (λ r. OnTraffic (ServesOne (g.F.Front.options c.loop.front) g.F.Front.is_alone (g.F.Front.sessions c.loop.front) (g.F.Front.left c.loop.front)
    r (g.F.Front.sessions c.serve_one.new.front) (g.F.Front.left c.serve_one.new.front)) b after)) c.in-Some.is c.in_ok-requests.ensures.served in
    let same = subst (λ (o : Options). OnTraffic (ServesOne o g.F.Front.is_alone (g.F.Front.sessions c.loop.front) (g.F.Front.left c.loop.front)
    requests (g.F.Front.sessions c.serve_one.new.front) (g.F.Front.left c.serve_one.new.front)) b after) inv.2 one in
    let few = subst (λ (o : Option _). IfSome o (λ r. r ≤ 255)) c.in-Some.is c.in_ok-requests.ensures.few in
    let totals = c.count.ensures in (
      subst (λ (t : Totals). OnTraffic (ServesSome (g.F.Front.options c.args.front.now) g.F.Front.is_alone (g.F.Front.sessions c.args.front.now) (g.F.Front.left c.args.front.now)
          (n + 1) t (g.F.Front.sessions c.serve_one.new.front) (g.F.Front.left c.serve_one.new.front)) a after) (sym totals)
          (on_traffic_then
          (λ x y z p q. serves_more (g.F.Front.options c.args.front.now) g.F.Front.is_alone (g.F.Front.sessions c.args.front.now) (g.F.Front.left c.args.front.now) n requests
          c.loop.totals (g.F.Front.sessions c.loop.front) (g.F.Front.sessions c.serve_one.new.front) (g.F.Front.left c.loop.front) (g.F.Front.left c.serve_one.new.front) x y z p q)
          a b after inv.0 same),
      search rules,
      c.serve_one.ensures.options ∙ inv.2,
      c.serve_one.ensures.stands ∙ inv.3,
      omega (arith, inv.4, c.serve_one.ensures.left),
      omega (arith, ap (λ (t : Totals). t.batches) totals, inv.5),
      omega (arith, ap (λ (t : Totals). t.requests) totals, inv.6, few),
      omega (arith, ap (λ (t : Totals). t.bad) totals, inv.7, one_at_most (eqb requests 0)),
      omega (arith, inv.8, c.serve_one.ensures.never_fall),
      search rules,
      c.serve_one.ensures.script ∙ inv.10,
      c.serve_one.ensures.port ∙ inv.11,
      c.serve_one.ensures.number ∙ inv.12,
    )
