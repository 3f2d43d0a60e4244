use Rattle.std.proofs.Common.{rules, ◌≤◌, ◌+◌, ◌-◌, length, take, drop, refl, sym, subst, ◌∙◌, arith}
use Rattle.std.specs.Prelude.{Ok, Err}
use Rattle.std.proofs.lemmas.List.{take_rest}
use Rattle.std.proofs.lemmas.Result.{err_from_is_err_and}
use Rattle.connection_loop.specs.Open.{OnLogs}
use Rattle.connection_loop.specs.Traffic.{OnHeld, SendsOf}
use Rattle.connection_loop.proofs.Opening.{sends, keeps_on, still_open, same_keeps}
use Rattle.connection_loop.proofs.Traffic.{SendsFirst, WritesMore, on_one, wrote_more, wrote_none, wrote_last}
use Rattle.connection_loop.proofs.calls.send.Goals as goal

pub loop-sent-init : goal.loop-sent-init
loop-sent-init g c =
    let log = g.C.Connections.log in
    (search rules, same_keeps (log c.args.connections.now), c.requires.«open», refl, refl, refl, refl, wrote_none c.args.number c.args.text.now (log c.args.connections.now), omega arith, omega arith)

pub returns-in_err-count-clause-sends : goal.returns-in_err-count-clause-sends
returns-in_err-count-clause-sends g c =
    let log = g.C.Connections.log in
    let inv = c.loop-sent.invariant in
    let is = err_from_is_err_and c.from_residual.result c.from_residual.ensures.1 in
    let text = c.args.text.now in
    subst (λ r. OnLogs (OnHeld c.args.number (SendsOf text r)) (log c.args.connections.now) (log c.write.new.self)) (sym is.1)
    (wrote_more c.args.number c.args.asks text (take (length text - c.loop-sent.sent) (drop c.loop-sent.sent text)) c.loop-sent.sent (Err is.0) (log c.args.connections.now)
    (log c.loop-sent.connections) (log c.write.new.self) (take_rest text c.loop-sent.sent) c.requires.«open» inv.7 c.in_err-count.ensures.written)

pub returns-in_err-count-clause-keeps : goal.returns-in_err-count-clause-keeps
returns-in_err-count-clause-keeps g c =
    let log = g.C.Connections.log in
    let inv = c.loop-sent.invariant in
    keeps_on (log c.args.connections.now) (log c.loop-sent.connections) (log c.write.new.self) inv.3 inv.1
    (sends c.args.number c.args.asks _ c.write.result (log c.loop-sent.connections) (log c.write.new.self) inv.2 c.write.ensures.written)

pub returns-in_err-count-clause-open : goal.returns-in_err-count-clause-open
returns-in_err-count-clause-open g c =
    let log = g.C.Connections.log in
    let inv = c.loop-sent.invariant in
    still_open c.args.number c.args.asks (log c.loop-sent.connections) (log c.write.new.self) c.write.ensures.leaves.told
    (sends c.args.number c.args.asks _ c.write.result (log c.loop-sent.connections) (log c.write.new.self) inv.2 c.write.ensures.written) inv.2

pub loop-sent-preserved : goal.loop-sent-preserved
loop-sent-preserved g c =
    let log = g.C.Connections.log in
    let inv = c.loop-sent.invariant in
    let keeps = sends c.args.number c.args.asks _ c.write.result (log c.loop-sent.connections) (log c.write.new.self) inv.2 c.write.ensures.written in
    let text = c.args.text.now in
    let fits : c.loop-sent.sent + c.in_ok-count.count ≤ length c.args.text.now = search rules in (
      fits,
      keeps_on (log c.args.connections.now) (log c.loop-sent.connections) (log c.write.new.self) inv.3 inv.1 keeps,
      still_open c.args.number c.args.asks (log c.loop-sent.connections) (log c.write.new.self) c.write.ensures.leaves.told keeps inv.2,
      c.write.ensures.leaves.told ∙ inv.3,
      c.write.ensures.leaves.ended ∙ inv.4,
      c.write.ensures.leaves.no_fault ∙ inv.5,
      c.write.ensures.leaves.same_share ∙ inv.6,
      on_one c.args.number (WritesMore text c.loop-sent.sent (Ok c.in_ok-count.count)) (SendsFirst text (c.loop-sent.sent + c.in_ok-count.count)) (log c.args.connections.now) (log c.write.new.self)
          (λ d a b w. w.0)
          (wrote_more c.args.number c.args.asks text (take (length text - c.loop-sent.sent) (drop c.loop-sent.sent text)) c.loop-sent.sent (Ok c.in_ok-count.count) (log c.args.connections.now)
          (log c.loop-sent.connections) (log c.write.new.self) (take_rest text c.loop-sent.sent) c.requires.«open» inv.7 c.in_ok-count.ensures.written),
      (let before = inv.8 in let now = c.write.ensures.leaves.no_more in omega (arith, before, now)),
      (let before = inv.9 in let same = c.write.ensures.last in omega (arith, before, same)),
    )

pub returns-then-count-eq0-clause-keeps : goal.returns-then-count-eq0-clause-keeps
returns-then-count-eq0-clause-keeps g c =
    let log = g.C.Connections.log in
    let inv = c.loop-sent.invariant in
    keeps_on (log c.args.connections.now) (log c.loop-sent.connections) (log c.write.new.self) inv.3 inv.1
    (sends c.args.number c.args.asks _ c.write.result (log c.loop-sent.connections) (log c.write.new.self) inv.2 c.write.ensures.written)

pub returns-then-count-eq0-clause-open : goal.returns-then-count-eq0-clause-open
returns-then-count-eq0-clause-open g c =
    let log = g.C.Connections.log in
    let inv = c.loop-sent.invariant in
    still_open c.args.number c.args.asks (log c.loop-sent.connections) (log c.write.new.self) c.write.ensures.leaves.told
    (sends c.args.number c.args.asks _ c.write.result (log c.loop-sent.connections) (log c.write.new.self) inv.2 c.write.ensures.written) inv.2

pub returns-then-count-eq0-clause-sends : goal.returns-then-count-eq0-clause-sends
returns-then-count-eq0-clause-sends g c =
    let log = g.C.Connections.log in
    let inv = c.loop-sent.invariant in
    let text = c.args.text.now in
    wrote_last c.args.number text c.loop-sent.sent c.in_ok-count.count (log c.args.connections.now) (log c.write.new.self) c.if-count-eq0.true
    (wrote_more c.args.number c.args.asks text (take (length text - c.loop-sent.sent) (drop c.loop-sent.sent text)) c.loop-sent.sent (Ok c.in_ok-count.count) (log c.args.connections.now)
    (log c.loop-sent.connections) (log c.write.new.self) (take_rest text c.loop-sent.sent) c.requires.«open» inv.7 c.in_ok-count.ensures.written)
