use Rattle.std.proofs.Common.{◌+◌, ℕ, length, map, ap, ◌∙◌, subst, arith}
use Rattle.std.proofs.lemmas.List.{length-map, length_push}
use Rattle.std.proofs.lemmas.Option.{slice_get_within}
use Rattle.locked_server.specs.Opening.{ArePlanned, AreNewParts, filled_view}
use Rattle.locked_server.proofs.Joined.{each_pushed}
use Rattle.locked_server.proofs.opening.lend_hands.Goals as goal

pub loop-f-init : goal.loop-f-init
loop-f-init g c =
    let none = c.in_ok-hands.ensures.items in
    record {
      of = subst (λ (n : ℕ). ArePlanned g.J.ServerPlan.plan n (map (λ f. filled_view g.P.Partition.owner g.P.Partition.home f) c.args.parts.now.items)) (omega arith) c.requires.of;
      many = ap length none;
      each = λ f hand at. absurd (let low = slice_get_within (map (λ hand. hand.items) c.in_ok-hands.hands.items) f hand at in omega (arith, ap length (ap (map (λ hand. hand.items)) none)));
    }

pub loop-f-preserved : goal.loop-f-preserved
loop-f-preserved g c =
    let i = c.loop-f.invariant in
    let hand = c.in_ok-lend_hand.field-0 in
    let pushed = c.in_ok-push.ensures.items in
    let plan = g.J.ServerPlan.plan in
    record {
      of = subst (λ (n : ℕ). ArePlanned plan n (map (λ f. filled_view g.P.Partition.owner g.P.Partition.home f) c.lend_hand.new.parts.items)) (omega arith) c.in_ok-lend_hand.ensures.of;
      many = ap length pushed ∙ length_push c.loop-f.hands.items hand ∙ ap (λ n. n + 1) i.many;
      each = each_pushed (λ f own. AreNewParts plan (c.args.first + f) own) (λ hand. hand.items) c.loop-f.hands.items hand pushed i.many i.each c.in_ok-lend_hand.ensures.lent;
    }

pub returns-clause-lent : goal.returns-clause-lent
returns-clause-lent g c =
    let i = c.loop-f.invariant in
    record { many = omega (arith, length-map c.loop-f.hands.items (λ hand. hand.items), i.many, c.loop-f-test.false, c.loop-f.auto.f-end); each = i.each }

pub returns-clause-of : goal.returns-clause-of
returns-clause-of g c =
    subst (λ (n : ℕ). ArePlanned g.J.ServerPlan.plan n (map (λ f. filled_view g.P.Partition.owner g.P.Partition.home f) c.loop-f.parts.items))
    (omega (arith, c.loop-f-test.false, c.loop-f.auto.f-end)) c.loop-f.invariant.of
