use Rattle.std.proofs.Common.{◌≡◌, ◌≢◌, inl, inr, Bool, true, false, [], ap, ◌∙◌, subst, arith}
use Rattle.std.specs.Prelude.{Ok, Err, IfOk}
use Rattle.connection_loop.specs.declared.visit.After.TheVariants.{Waits, Over}
use Rattle.connection_loop.specs.Open.{OnLogs}
use Rattle.connection_loop.specs.Paid.{IsPaid, unanswered}
use Rattle.connection_loop.specs.Traffic.{OnHeld, SendsFrom, SendsSome}
use Rattle.connection_loop.specs.Held.{Looks, Visits, Lacks, VisitLacks}
use Rattle.std.proofs.lemmas.Result.{err_from_is_err_and, IfOk-at_ok}
use Rattle.connection_loop.proofs.Going.{these_none, these_within}
use Rattle.connection_loop.proofs.Answering.{match_err}
use Rattle.connection_loop.proofs.Traffic.{on_one, on_two, on_three, from_held}
use Rattle.connection_loop.proofs.Opening.{keeps_on}
use Rattle.connection_loop.proofs.Staying.{looks_held}
use Rattle.connection_loop.proofs.Visited.{visit_breaks, visit_waits, visit_leaves, visit_unread, visit_unsent, visit_shut, visit_after, visit_lacks, visit_keeps_none}
use Rattle.connection_loop.proofs.visit.visit_once.Goals as goal

pub returns-in_err-answered-clause-keeps : goal.returns-in_err-answered-clause-keeps
returns-in_err-answered-clause-keeps g c =
    let log = g.C.Connections.log in
    keeps_on (log c.args.connections.now) (log c.send_unsent.new.connections) (log c.answer_more.new.connections) c.send_unsent.ensures.port.told c.send_unsent.ensures.keeps
    c.answer_more.ensures.keeps

pub returns-in-Err-answered-clause-keeps : goal.returns-in-Err-answered-clause-keeps
returns-in-Err-answered-clause-keeps g c =
    let log = g.C.Connections.log in
    keeps_on (log c.args.connections.now) (log c.send_unsent.new.connections) (log c.answer_more.new.connections) c.send_unsent.ensures.port.told c.send_unsent.ensures.keeps
    c.answer_more.ensures.keeps

pub returns-in_err-send_new-clause-keeps : goal.returns-in_err-send_new-clause-keeps
returns-in_err-send_new-clause-keeps g c =
    let log = g.C.Connections.log in
    let both = keeps_on (log c.args.connections.now) (log c.send_unsent.new.connections) (log c.answer_more.new.connections) c.send_unsent.ensures.port.told c.send_unsent.ensures.keeps
    c.answer_more.ensures.keeps in
    keeps_on (log c.args.connections.now) (log c.answer_more.new.connections) (log c.send_new.new.connections) (c.answer_more.ensures.port.told ∙ c.send_unsent.ensures.port.told) both
    c.send_new.ensures.keeps

pub returns-in-Err-2-clause-keeps : goal.returns-in-Err-2-clause-keeps
returns-in-Err-2-clause-keeps g c =
    let log = g.C.Connections.log in
    let both = keeps_on (log c.args.connections.now) (log c.send_unsent.new.connections) (log c.answer_more.new.connections) c.send_unsent.ensures.port.told c.send_unsent.ensures.keeps
    c.answer_more.ensures.keeps in
    keeps_on (log c.args.connections.now) (log c.answer_more.new.connections) (log c.send_new.new.connections) (c.answer_more.ensures.port.told ∙ c.send_unsent.ensures.port.told) both
    c.send_new.ensures.keeps

pub returns-in-Ok-true-2-clause-keeps : goal.returns-in-Ok-true-2-clause-keeps
returns-in-Ok-true-2-clause-keeps g c =
    let log = g.C.Connections.log in
    let both = keeps_on (log c.args.connections.now) (log c.send_unsent.new.connections) (log c.answer_more.new.connections) c.send_unsent.ensures.port.told c.send_unsent.ensures.keeps
    c.answer_more.ensures.keeps in
    keeps_on (log c.args.connections.now) (log c.answer_more.new.connections) (log c.send_new.new.connections) (c.answer_more.ensures.port.told ∙ c.send_unsent.ensures.port.told) both
    c.send_new.ensures.keeps

pub returns-in-Ok-false-2-clause-keeps : goal.returns-in-Ok-false-2-clause-keeps
returns-in-Ok-false-2-clause-keeps g c =
    let log = g.C.Connections.log in
    let both = keeps_on (log c.args.connections.now) (log c.send_unsent.new.connections) (log c.answer_more.new.connections) c.send_unsent.ensures.port.told c.send_unsent.ensures.keeps
    c.answer_more.ensures.keeps in
    keeps_on (log c.args.connections.now) (log c.answer_more.new.connections) (log c.send_new.new.connections) (c.answer_more.ensures.port.told ∙ c.send_unsent.ensures.port.told) both
    c.send_new.ensures.keeps

pub returns-in-Ok-false-clause-talks : goal.returns-in-Ok-false-clause-talks
returns-in-Ok-false-clause-talks g c =
    let options = g.F.Front.options c.args.hand.now.front in
    let base = c.args.hand.now.numbering.base in
    let log = g.C.Connections.log in
    let client = c.args.client.now in
    let now = c.send_unsent.new.client in (
      [],
      these_none options g.F.Front.is_alone (g.F.Front.sessions c.args.hand.now.front) (g.F.Front.left c.args.hand.now.front) (g.C.Connections.last c.args.connections.now) (g.C.Connections.last c.send_unsent.new.connections) c.send_unsent.ensures.rises,
      on_one c.args.number (SendsFrom client.unsent now.unsent (Ok c.in-Ok-false.field-0)) (Visits options base 1 client [] now Waits) (log c.args.connections.now)
          (log c.send_unsent.new.connections) (λ d a b sends. visit_waits options base d c.requires.client now c.in-Ok-false.ensures.position c.in-Ok-false.ensures.leaving c.in-Ok-false.field-0 sends
          (c.in-Ok-false.ensures.some c.in-Ok-false.field-0-test)) c.in-Ok-false.ensures.sends,
    )

pub returns-in-Err-clause-talks : goal.returns-in-Err-clause-talks
returns-in-Err-clause-talks g c =
    let options = g.F.Front.options c.args.hand.now.front in
    let base = c.args.hand.now.numbering.base in
    let log = g.C.Connections.log in
    let client = c.args.client.now in
    let now = c.send_unsent.new.client in (
      [],
      these_none options g.F.Front.is_alone (g.F.Front.sessions c.args.hand.now.front) (g.F.Front.left c.args.hand.now.front) (g.C.Connections.last c.args.connections.now) (g.C.Connections.last c.send_unsent.new.connections) c.send_unsent.ensures.rises,
      on_one c.args.number (SendsFrom {X = Bool} client.unsent now.unsent (Err c.in-Err.field-0)) (Visits options base 1 client [] now Over) (log c.args.connections.now)
          (log c.send_unsent.new.connections) (λ d a b sends. visit_breaks options base d c.requires.client now c.in-Err.field-0 sends) c.in-Err.ensures.sends,
    )

pub returns-then-client-clause-talks : goal.returns-then-client-clause-talks
returns-then-client-clause-talks g c =
    let options = g.F.Front.options c.args.hand.now.front in
    let base = c.args.hand.now.numbering.base in
    let log = g.C.Connections.log in
    let client = c.args.client.now in
    let now = c.send_unsent.new.client in
    let none = c.in-Ok-true.ensures.all c.in-Ok-true.field-0-test in (
      [],
      these_none options g.F.Front.is_alone (g.F.Front.sessions c.args.hand.now.front) (g.F.Front.left c.args.hand.now.front) (g.C.Connections.last c.args.connections.now) (g.C.Connections.last c.send_unsent.new.connections) c.send_unsent.ensures.rises,
      on_one c.args.number (SendsFrom client.unsent now.unsent (Ok c.in-Ok-true.field-0)) (Visits options base 1 client [] now Over) (log c.args.connections.now)
          (log c.send_unsent.new.connections) (λ d a b sends. visit_leaves options base d c.requires.client now c.in-Ok-true.ensures.position c.in-Ok-true.ensures.leaving c.in-Ok-true.field-0 sends
          c.in-Ok-true.ensures.client c.if-client.true none) c.in-Ok-true.ensures.sends,
    )

pub returns-in_err-answered-clause-talks : goal.returns-in_err-answered-clause-talks
returns-in_err-answered-clause-talks g c =
    let options = g.F.Front.options c.args.hand.now.front in
    let base = c.args.hand.now.numbering.base in
    let log = g.C.Connections.log in
    let client = c.args.client.now in
    let now = c.send_unsent.new.client in
    let replies = c.answer_more.new.desk.replies.items in
    let none = c.in-Ok-true.ensures.all c.in-Ok-true.field-0-test in
    let r = c.in_err-answered.ensures.talk in
    let is = err_from_is_err_and c.from_residual.result c.from_residual.ensures.1 in (
      r.0,
      these_within options g.F.Front.is_alone c.send_unsent.ensures.rises (omega arith) r.1,
      match_err _ _ c.from_residual.result is.0 is.1 (on_two c.args.number (SendsFrom client.unsent now.unsent (Ok c.in-Ok-true.field-0)) (Lacks options base now r.0)
          (VisitLacks options base 1 client r.0) (log c.args.connections.now) (log c.send_unsent.new.connections) (log c.answer_more.new.connections)
          (λ d x y is one. from_held client.unsent now.unsent d x y (Ok c.in-Ok-true.field-0) one c.args.number d is)
          (λ d x y z one two. visit_lacks options base d c.requires.client now c.in-Ok-true.ensures.position c.in-Ok-true.ensures.leaving c.in-Ok-true.field-0 one c.in-Ok-true.ensures.client
          c.if-client.false none c.answer_more.new.client replies two) c.in-Ok-true.ensures.sends r.2),
    )

pub returns-in_err-send_new-clause-talks : goal.returns-in_err-send_new-clause-talks
returns-in_err-send_new-clause-talks g c =
    let options = g.F.Front.options c.args.hand.now.front in
    let base = c.args.hand.now.numbering.base in
    let log = g.C.Connections.log in
    let client = c.args.client.now in
    let now = c.send_unsent.new.client in
    let then = c.answer_more.new.client in
    let replies = c.answer_more.new.desk.replies.items in
    let none = c.in-Ok-true.ensures.all c.in-Ok-true.field-0-test in
    let r = c.in_ok-answered.ensures.talk in
    let looks = subst (λ x. OnLogs (OnHeld c.args.number (Looks options base now r.0 replies then x)) (log c.send_unsent.new.connections) (log c.answer_more.new.connections)) c.in-Ok.is r.2 in
    let sends = subst (λ t. OnLogs (OnHeld c.args.number (SendsSome t)) (log c.answer_more.new.connections) (log c.send_new.new.connections)) c.as_slice.ensures.value
    c.in_err-send_new.ensures.sends in
    let is = err_from_is_err_and c.from_residual-in_err-send_new.result c.from_residual-in_err-send_new.ensures.1 in (
      r.0,
      these_within options g.F.Front.is_alone c.send_unsent.ensures.rises c.send_new.ensures.rises r.1,
      match_err _ _ c.from_residual-in_err-send_new.result is.0 is.1 (on_three c.args.number (SendsFrom client.unsent now.unsent (Ok c.in-Ok-true.field-0))
          (Looks options base now r.0 replies then (Ok c.in-Ok.answered)) (SendsSome replies) (VisitLacks options base 1 client r.0) (log c.args.connections.now)
          (log c.send_unsent.new.connections) (log c.answer_more.new.connections) (log c.send_new.new.connections)
          (λ d x y is one. from_held client.unsent now.unsent d x y (Ok c.in-Ok-true.field-0) one c.args.number d is)
          (λ d x y is two. looks_held options base now r.0 replies then (Ok c.in-Ok.answered) d x y two c.args.number d is)
          (λ d w x y z one two three. visit_keeps_none options base d c.requires.client now c.in-Ok-true.ensures.position c.in-Ok-true.ensures.leaving c.in-Ok-true.field-0 one c.in-Ok-true.ensures.client
          c.if-client.false none then replies c.in-Ok.answered two c.in_ok-answered.ensures.client c.send_new.new.client three.0 three.1) c.in-Ok-true.ensures.sends looks sends),
    )

pub returns-in-Err-answered-clause-talks : goal.returns-in-Err-answered-clause-talks
returns-in-Err-answered-clause-talks g c =
    let options = g.F.Front.options c.args.hand.now.front in
    let base = c.args.hand.now.numbering.base in
    let log = g.C.Connections.log in
    let client = c.args.client.now in
    let now = c.send_unsent.new.client in
    let then = c.answer_more.new.client in
    let replies = c.answer_more.new.desk.replies.items in
    let none = c.in-Ok-true.ensures.all c.in-Ok-true.field-0-test in
    let r = c.in_ok-answered.ensures.talk in
    let broken = c.in-Err-answered.field-0 in
    let looks = subst (λ x. OnLogs (OnHeld c.args.number (Looks options base now r.0 replies then x)) (log c.send_unsent.new.connections) (log c.answer_more.new.connections)) c.in-Err-answered.is r.2 in (
      r.0,
      these_within options g.F.Front.is_alone c.send_unsent.ensures.rises (omega arith) r.1,
      on_two c.args.number (SendsFrom client.unsent now.unsent (Ok c.in-Ok-true.field-0)) (Looks options base now r.0 replies then (Err broken))
          (Visits options base 1 client r.0 then Over) (log c.args.connections.now) (log c.send_unsent.new.connections) (log c.answer_more.new.connections)
          (λ d x y is one. from_held client.unsent now.unsent d x y (Ok c.in-Ok-true.field-0) one c.args.number d is)
          (λ d x y z one two. visit_unread options base d c.requires.client now c.in-Ok-true.ensures.position c.in-Ok-true.ensures.leaving c.in-Ok-true.field-0 one c.in-Ok-true.ensures.client
          c.if-client.false none then replies broken two) c.in-Ok-true.ensures.sends looks,
    )

pub returns-in-Err-2-clause-talks : goal.returns-in-Err-2-clause-talks
returns-in-Err-2-clause-talks g c =
    let options = g.F.Front.options c.args.hand.now.front in
    let base = c.args.hand.now.numbering.base in
    let log = g.C.Connections.log in
    let client = c.args.client.now in
    let now = c.send_unsent.new.client in
    let then = c.answer_more.new.client in
    let last = c.send_new.new.client in
    let replies = c.answer_more.new.desk.replies.items in
    let none = c.in-Ok-true.ensures.all c.in-Ok-true.field-0-test in
    let r = c.in_ok-answered.ensures.talk in
    let looks = subst (λ x. OnLogs (OnHeld c.args.number (Looks options base now r.0 replies then x)) (log c.send_unsent.new.connections) (log c.answer_more.new.connections)) c.in-Ok.is r.2 in
    let sends = subst (λ x. OnLogs (OnHeld c.args.number (SendsFrom replies last.unsent x)) (log c.answer_more.new.connections) (log c.send_new.new.connections)) c.in-Err-2.is
    (subst (λ t. OnLogs (OnHeld c.args.number (SendsFrom t last.unsent c.in_ok-send_new.field-0)) (log c.answer_more.new.connections) (log c.send_new.new.connections)) c.as_slice.ensures.value
    c.in_ok-send_new.ensures.sends) in (
      r.0,
      these_within options g.F.Front.is_alone c.send_unsent.ensures.rises c.send_new.ensures.rises r.1,
      on_three c.args.number (SendsFrom client.unsent now.unsent (Ok c.in-Ok-true.field-0)) (Looks options base now r.0 replies then (Ok c.in-Ok.answered))
          (SendsFrom {X = Bool} replies last.unsent (Err c.in-Err-2.field-0)) (Visits options base 1 client r.0 last Over) (log c.args.connections.now) (log c.send_unsent.new.connections)
          (log c.answer_more.new.connections) (log c.send_new.new.connections)
          (λ d x y is one. from_held client.unsent now.unsent d x y (Ok c.in-Ok-true.field-0) one c.args.number d is)
          (λ d x y is two. looks_held options base now r.0 replies then (Ok c.in-Ok.answered) d x y two c.args.number d is)
          (λ d w x y z one two three. visit_unsent options base d c.requires.client now c.in-Ok-true.ensures.position c.in-Ok-true.ensures.leaving c.in-Ok-true.field-0 one c.in-Ok-true.ensures.client
          c.if-client.false none then replies c.in-Ok.answered two c.in_ok-answered.ensures.client last c.in-Err-2.field-0 three) c.in-Ok-true.ensures.sends looks sends,
    )

pub returns-in-Ok-false-2-clause-talks : goal.returns-in-Ok-false-2-clause-talks
returns-in-Ok-false-2-clause-talks g c =
    let options = g.F.Front.options c.args.hand.now.front in
    let base = c.args.hand.now.numbering.base in
    let log = g.C.Connections.log in
    let client = c.args.client.now in
    let now = c.send_unsent.new.client in
    let then = c.answer_more.new.client in
    let last = c.send_new.new.client in
    let replies = c.answer_more.new.desk.replies.items in
    let none = c.in-Ok-true.ensures.all c.in-Ok-true.field-0-test in
    let r = c.in_ok-answered.ensures.talk in
    let looks = subst (λ x. OnLogs (OnHeld c.args.number (Looks options base now r.0 replies then x)) (log c.send_unsent.new.connections) (log c.answer_more.new.connections)) c.in-Ok.is r.2 in
    let sends = subst (λ x. OnLogs (OnHeld c.args.number (SendsFrom replies last.unsent x)) (log c.answer_more.new.connections) (log c.send_new.new.connections)) c.in-Ok-false-2.is
    (subst (λ t. OnLogs (OnHeld c.args.number (SendsFrom t last.unsent c.in_ok-send_new.field-0)) (log c.answer_more.new.connections) (log c.send_new.new.connections)) c.as_slice.ensures.value
    c.in_ok-send_new.ensures.sends) in
    let some = subst (λ x. IfOk x (λ all. all ≡ false → last.unsent ≢ [])) c.in-Ok-false-2.is c.in_ok-send_new.ensures.some c.in-Ok-false-2.field-0-test in (
      r.0,
      these_within options g.F.Front.is_alone c.send_unsent.ensures.rises c.send_new.ensures.rises r.1,
      on_three c.args.number (SendsFrom client.unsent now.unsent (Ok c.in-Ok-true.field-0)) (Looks options base now r.0 replies then (Ok c.in-Ok.answered))
          (SendsFrom replies last.unsent (Ok c.in-Ok-false-2.field-0)) (Visits options base 1 client r.0 last Waits) (log c.args.connections.now) (log c.send_unsent.new.connections)
          (log c.answer_more.new.connections) (log c.send_new.new.connections)
          (λ d x y is one. from_held client.unsent now.unsent d x y (Ok c.in-Ok-true.field-0) one c.args.number d is)
          (λ d x y is two. looks_held options base now r.0 replies then (Ok c.in-Ok.answered) d x y two c.args.number d is)
          (λ d w x y z one two three. visit_shut options base d c.requires.client now c.in-Ok-true.ensures.position c.in-Ok-true.ensures.leaving c.in-Ok-true.field-0 one c.in-Ok-true.ensures.client
          c.if-client.false none then replies c.in-Ok.answered two c.in_ok-answered.ensures.client last c.in_ok-send_new.ensures.position (c.in_ok-send_new.ensures.leaving ∙ c.leaves_by-client.ensures) c.in-Ok-false-2.field-0 three some) c.in-Ok-true.ensures.sends looks sends,
    )

pub returns-in-Ok-true-2-clause-talks : goal.returns-in-Ok-true-2-clause-talks
returns-in-Ok-true-2-clause-talks g c =
    let options = g.F.Front.options c.args.hand.now.front in
    let base = c.args.hand.now.numbering.base in
    let log = g.C.Connections.log in
    let client = c.args.client.now in
    let now = c.send_unsent.new.client in
    let then = c.answer_more.new.client in
    let last = c.send_new.new.client in
    let replies = c.answer_more.new.desk.replies.items in
    let none = c.in-Ok-true.ensures.all c.in-Ok-true.field-0-test in
    let r = c.in_ok-answered.ensures.talk in
    let looks = subst (λ x. OnLogs (OnHeld c.args.number (Looks options base now r.0 replies then x)) (log c.send_unsent.new.connections) (log c.answer_more.new.connections)) c.in-Ok.is r.2 in
    let sends = subst (λ x. OnLogs (OnHeld c.args.number (SendsFrom replies last.unsent x)) (log c.answer_more.new.connections) (log c.send_new.new.connections)) c.in-Ok-true-2.is
    (subst (λ t. OnLogs (OnHeld c.args.number (SendsFrom t last.unsent c.in_ok-send_new.field-0)) (log c.answer_more.new.connections) (log c.send_new.new.connections)) c.as_slice.ensures.value
    c.in_ok-send_new.ensures.sends) in
    let all_sent = subst (λ x. IfOk x (λ all. all ≡ true → last.unsent ≡ [])) c.in-Ok-true-2.is c.in_ok-send_new.ensures.all c.in-Ok-true-2.field-0-test in (
      r.0,
      these_within options g.F.Front.is_alone c.send_unsent.ensures.rises c.send_new.ensures.rises r.1,
      on_three c.args.number (SendsFrom client.unsent now.unsent (Ok c.in-Ok-true.field-0)) (Looks options base now r.0 replies then (Ok c.in-Ok.answered))
          (SendsFrom replies last.unsent (Ok c.in-Ok-true-2.field-0)) (Visits options base 1 client r.0 last c.after_all.result) (log c.args.connections.now) (log c.send_unsent.new.connections)
          (log c.answer_more.new.connections) (log c.send_new.new.connections)
          (λ d x y is one. from_held client.unsent now.unsent d x y (Ok c.in-Ok-true.field-0) one c.args.number d is)
          (λ d x y is two. looks_held options base now r.0 replies then (Ok c.in-Ok.answered) d x y two c.args.number d is)
          (λ d w x y z one two three. visit_after options base d c.requires.client now c.in-Ok-true.ensures.position c.in-Ok-true.ensures.leaving c.in-Ok-true.field-0 one c.in-Ok-true.ensures.client
          c.if-client.false none then replies c.in-Ok.answered two c.in_ok-answered.ensures.client last c.in_ok-send_new.ensures.position (c.in_ok-send_new.ensures.leaving ∙ c.leaves_by-client.ensures) c.in-Ok-true-2.field-0 three c.after_all.result
          c.after_all.ensures.over c.after_all.ensures.«open» c.after_all.ensures.waits (c.after_all.ensures.again (c.in_ok-send_new.ensures.leaving ∙ c.leaves_by-client.ensures))
          c.in_ok-send_new.ensures.client all_sent) c.in-Ok-true.ensures.sends looks sends,
    )

pub returns-in-Ok-true-2-clause-again : goal.returns-in-Ok-true-2-clause-again
returns-in-Ok-true-2-clause-again g c = λ again.
    let last = c.send_new.new.client in
    let more = IfOk-at_ok _ c.in-Ok.is c.in_ok-answered.ensures.again in
    elim more as (λ _. IsPaid 1 last) [
      | inl rests ↦ absurd (c.after_all.ensures.again (c.in_ok-send_new.ensures.leaving ∙ c.leaves_by-client.ensures) rests again)
      | inr paid ↦ let same = ap unanswered c.in_ok-send_new.ensures.position in omega (arith, paid, same, c.send_new.ensures.asks)
    ]
