use Rattle.std.proofs.Common.{◌≡◌, ◌+◌, false, [], List, arith, refl, ◌∙◌, sym, subst}
use Rattle.std.proofs.lemmas.List.{nil_from_length}
use Rattle.std.specs.Vec.Iter.{into_iter_items}
use Rattle.batch_packets.specs.declared.batch.Batch.{Batch}
use Rattle.mica_client.specs.Talk.{OnTalk, Passes}
use Rattle.mica_client.specs.Batches.{Group, Ask, numbered, ask_of}
use Rattle.mica_client.specs.Answers.{KeepsAnswers}
use Rattle.mica_client.specs.Exchange.{lacks_answer, Asks, StopsAsking}
use Rattle.mica_client.proofs.Running.{SoFar, so_far_none, so_far_more, so_far_stop}
use Rattle.mica_client.proofs.Asking.{Going, ask_is, going_none, going_more, all_answered}
use Rattle.mica_client.proofs.exchange.ask_all.Goals as goal

pub loop-group-init : goal.loop-group-init
loop-group-init g c =
    let groups = c.args.groups.items in
    let old = c.args.answers.now in
    let all : groups ≡ into_iter_items c.into_iter-group-iterator.result = sym c.into_iter-group-iterator.ensures.into_iter_gives.0 in
    record {
      going = subst (λ (rest : List Group). Going groups rest 0 old old) all (going_none groups old c.requires.batches c.requires.tickets);
      asks = subst (λ (rest : List Group). OnTalk (Passes (SoFar (numbered 0 groups) (numbered 0 rest) old old)) (g.L.Link.talk c.args.link.now) (g.L.Link.talk c.args.link.now)) all
          (so_far_none (numbered 0 groups) old (g.L.Link.talk c.args.link.now));
      ended = refl;
      silence = refl;
      faults = omega arith;
    }

pub ask_one-requires-clause-batch : goal.ask_one-requires-clause-batch
ask_one-requires-clause-batch g c =
    let going = subst (λ (rest : List Group). Going c.args.groups.items rest c.loop-group.number c.args.answers.now c.loop-group.answers) c.in-Some.ensures.steps.0 c.loop-group.invariant.going in
    rw c.into_batch-batch.ensures (going.batches c.loop-group.number).0

pub returns-in-Err-clause-stops : goal.returns-in-Err-clause-stops
returns-in-Err-clause-stops g c =
    let groups = c.args.groups.items in
    let old = c.args.answers.now in
    let mid = c.loop-group.answers in
    let number = c.loop-group.number in
    let rest = into_iter_items c.next.new.self in
    let before = subst (λ (r : List Group). OnTalk (Passes (SoFar (numbered 0 groups) (numbered number r) old mid)) (g.L.Link.talk c.args.link.now) (g.L.Link.talk c.loop-group.link)) c.in-Some.ensures.steps.0 c.loop-group.invariant.asks in
    so_far_stop c.in-Err.fault (numbered 0 groups) (numbered (number + 1) rest) (ask_of number c.in-Some.group) old mid _ _ _ before
    (subst (λ (ask : Ask). OnTalk (Passes (StopsAsking c.in-Err.fault ask mid)) (g.L.Link.talk c.loop-group.link) (g.L.Link.talk c.ask_one.new.link)) (ask_is c.port-port.ensures c.into_batch-batch.ensures) c.in-Err.ensures.stops)

pub loop-group-preserved : goal.loop-group-preserved
loop-group-preserved g c =
    let groups = c.args.groups.items in
    let old = c.args.answers.now in
    let mid = c.loop-group.answers in
    let new = c.ask_one.new.answers in
    let number = c.loop-group.number in
    let rest = into_iter_items c.next.new.self in
    let i = c.loop-group.invariant in
    let e = c.in-Ok.ensures in
    let going = subst (λ (r : List Group). Going groups r number old mid) c.in-Some.ensures.steps.0 i.going in
    let before = subst (λ (r : List Group). OnTalk (Passes (SoFar (numbered 0 groups) (numbered number r) old mid)) (g.L.Link.talk c.args.link.now) (g.L.Link.talk c.loop-group.link)) c.in-Some.ensures.steps.0 i.asks in
    let batch = c.into_batch-batch.ensures in
    let answered = subst (λ (b : Batch). lacks_answer new b.requests ≡ false) batch e.answered in
    let asks = subst (λ (ask : Ask). OnTalk (Passes (Asks ask mid new)) (g.L.Link.talk c.loop-group.link) (g.L.Link.talk c.ask_one.new.link)) (ask_is c.port-port.ensures batch) e.asks in
    record {
      going = going_more groups rest c.in-Some.group number old mid new going (subst (λ (b : Batch). KeepsAnswers b.requests mid new) batch e.keeps) answered;
      asks = so_far_more (numbered 0 groups) (numbered (number + 1) rest) (ask_of number c.in-Some.group) old mid new _ _ _ before asks answered;
      ended = e.ended ∙ i.ended;
      silence = e.silence ∙ i.silence;
      faults = omega (arith, i.faults, e.never_fall);
    }

pub returns-clause-answered : goal.returns-clause-answered
returns-clause-answered g c =
    let none : into_iter_items c.loop-group.group-iterator ≡ [] = nil_from_length (into_iter_items c.loop-group.group-iterator) (omega (arith, c.loop-group.group-iterator.rest.ok, c.in-None.ensures.steps.0)) in
    let going = subst (λ (r : List Group). Going c.args.groups.items r c.loop-group.number c.args.answers.now c.loop-group.answers) none c.loop-group.invariant.going in
    all_answered c.args.groups.items c.loop-group.number c.args.answers.now c.loop-group.answers going
