use Rattle.std.proofs.Common.{refl, ap, arith}
use Rattle.std.proofs.lemmas.Result.{err_from_is_err_and}
use Rattle.command_answers.specs.declared.answer.Numbering.{Numbering}
use Rattle.connection_loop.specs.declared.visit.After.TheVariants.{Again}
use Rattle.connection_loop.proofs.Going.{hand_then, these_some}
use Rattle.connection_loop.proofs.Opening.{keeps_on}
use Rattle.connection_loop.proofs.Answering.{match_err}
use Rattle.connection_loop.proofs.GoingOn.{goes_once, goes_lack_once, goes_on}
use Rattle.connection_loop.proofs.visits.visit_on.Goals as goal

pub returns-in_err-after-clause-talks : goal.returns-in_err-after-clause-talks
returns-in_err-after-clause-talks g c =
    let log = g.C.Connections.log in
    let lack = goes_lack_once (g.F.Front.options c.args.hand.now.front) g.F.Front.is_alone c.args.hand.now.numbering.base c.args.number c.args.client.now (log c.args.connections.now) (log c.visit_once.new.connections)
    c.in_err-after.ensures.talks in
    let is = err_from_is_err_and c.from_residual.result c.from_residual.ensures.1 in
    (lack.0, lack.1, match_err _ _ c.from_residual.result is.0 is.1 lack.2)

pub returns-in_default-clause-talks : goal.returns-in_default-clause-talks
returns-in_default-clause-talks g c =
    let log = g.C.Connections.log in
    goes_once (g.F.Front.options c.args.hand.now.front) g.F.Front.is_alone c.args.hand.now.numbering.base c.args.number c.args.client.now (log c.args.connections.now) (log c.visit_once.new.connections)
    c.visit_once.new.client c.in_ok-after.after c.in_ok-after.after refl c.in_ok-after.ensures.talks (λ again. absurd (c.in_default.not-Again again))

pub returns-then-writes_left-most_writes-clause-talks : goal.returns-then-writes_left-most_writes-clause-talks
returns-then-writes_left-most_writes-clause-talks g c =
    let log = g.C.Connections.log in
    goes_once (g.F.Front.options c.args.hand.now.front) g.F.Front.is_alone c.args.hand.now.numbering.base c.args.number c.args.client.now (log c.args.connections.now) (log c.visit_once.new.connections)
    c.visit_once.new.client c.in_ok-after.after Again c.in-Again.is c.in_ok-after.ensures.talks
    (λ again. these_some (g.F.Front.options c.args.hand.now.front) g.F.Front.is_alone c.in_ok-after.ensures.talks.0 c.in_ok-after.ensures.talks.1
    (let same = ap (λ (n : Numbering). n.partitions) c.visit_once.ensures.same.same_numbering in
    omega (arith, c.if-writes_left-most_writes.true, c.writes_left.ensures, c.most_writes.ensures, c.requires.left, same)))

pub returns-clause-talks : goal.returns-clause-talks
returns-clause-talks g c =
    let log = g.C.Connections.log in
    goes_on (g.F.Front.options c.args.hand.now.front) g.F.Front.is_alone c.args.hand.now.numbering.base c.args.number c.args.client.now c.visit_once.new.client (log c.args.connections.now) (log c.visit_once.new.connections)
    c.in_ok-after.after c.in-Again.is c.in_ok-after.ensures.talks (log c.visit_once-2.new.connections) (g.F.Front.options c.visit_once.new.hand.front) c.visit_once.new.hand.numbering.base c.visit_once.ensures.same.same_options
    (ap (λ (n : Numbering). n.base) c.visit_once.ensures.same.same_numbering) c.visit_once-2.new.client
    c.visit_once-2.result c.visit_once-2.ensures.talks

pub returns-clause-keeps : goal.returns-clause-keeps
returns-clause-keeps g c =
    let log = g.C.Connections.log in
    keeps_on (log c.args.connections.now) (log c.visit_once.new.connections) (log c.visit_once-2.new.connections) c.visit_once.ensures.port.told c.visit_once.ensures.keeps c.visit_once-2.ensures.keeps

pub returns-clause-same : goal.returns-clause-same
returns-clause-same g c = hand_then c.visit_once.ensures.same c.visit_once-2.ensures.same
