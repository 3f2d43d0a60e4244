use Rattle.std.proofs.Common.{◌≡◌, slice_get, sym, ap, ◌∙◌, subst, arith}
use Rattle.locked_front.specs.Parts.{LockedView, IsLockedFront, locked_view, turns_taken}
use Rattle.served.specs.Ends.{EndFacts, end_facts}
use Rattle.served.specs.FrontRuns.{RunsFront}
use Rattle.served.proofs.FrontEnds.{runs_front, tells_still}
use Rattle.locked_server.specs.Running.{run_of}
use Rattle.locked_server.proofs.Ran.{none_taken}
use Rattle.locked_server.proofs.worker.FrontTask.run.Goals as goal

pub new-front-requires-clause-none : goal.new-front-requires-clause-none
new-front-requires-clause-none g c =
    ap (λ v. turns_taken v.items) c.replace-parts.ensures.value ∙ none_taken c.args.self.now.parts.items (λ p x at. (c.requires.ready.parts.each p x at).none)

pub new-front-requires-clause-each : goal.new-front-requires-clause-each
new-front-requires-clause-each g c p part at = (c.requires.ready.parts.each p part (ap (λ v. slice_get v.items p) (sym c.replace-parts.ensures.value) ∙ at)).of

pub serve_end-self-requires-clause-left : goal.serve_end-self-requires-clause-left
serve_end-self-requires-clause-left g c =
    let none = none_taken c.args.self.now.parts.items (λ p x at. (c.requires.ready.parts.each p x at).none) in
    let same : turns_taken c.new-front.result.parts ≡ turns_taken c.args.self.now.parts.items =
    ap (λ (v : LockedView). turns_taken v.parts) c.new-front.ensures ∙ ap (λ v. turns_taken v.items) c.replace-parts.ensures.value in
    let few = c.requires.ready.few in
    omega (arith, none, same, few)

pub returns : goal.returns
returns g c =
    let plan = g.J.ServerPlan.plan in
    let facts : g.row.D.Denot → EndFacts = end_facts g.D.Datagrams in
    let old : LockedView = c.new-front.result in
    let new : LockedView = c.serve_end-self.new.front in
    let b = facts c.args.self.now.end in
    let a = facts c.serve_end-self.new.end in
    let served = c.serve_end-self.ensures in
    let old_is : old ≡ locked_view plan.options c.args.number c.args.self.now.parts.items = c.new-front.ensures ∙ (λ i. locked_view (c.requires.plan.options i) c.args.number (c.replace-parts.ensures.value i).items) in
    let new_is : new ≡ locked_view plan.options c.args.number c.into_parts.result.items =
    λ i. locked_view ((served.options ∙ ap (λ (v : LockedView). v.options) old_is) i) ((served.number ∙ ap (λ (v : LockedView). v.number) old_is) i) (sym c.into_parts.ensures.same i) in
    record {
      is = subst (IsLockedFront plan) new_is c.into_parts.ensures.front;
      run = subst (λ (y : LockedView × LockedView). RunsFront y.0.options c.args.shared.now.service.ports.batches (run_of y.0.parts c.serve_end-self.result y.1.parts) b a) (λ i. (old_is i, new_is i))
          (runs_front old.options c.args.shared.now.service.ports.batches (run_of old.parts c.serve_end-self.result new.parts) b a
          (record { port = served.port; never_fall = served.never_fall; tells = tells_still b.traffic a.traffic served.tells; scripted = served.script })
          served.served served.stopped served.wants served.cause served.small served.steady);
    }
