use Rattle.std.proofs.Common.{sym, ap, ◌∙◌, Some, rules}
use Rattle.std.proofs.lemmas.Bool.{ltb-true}
use Rattle.std.proofs.lemmas.List.Sorted.{answers_always}
use Rattle.batch_packets.specs.declared.batch.Want.{Want}
use Rattle.batch_packets.specs.declared.batch.Request.{Request}
use Rattle.mica_client.proofs.Searching.{want_here, want_found, want_missing}
use Rattle.mica_client.proofs.answers.want_at.Goals as goal

pub returns-then-ticket : goal.returns-then-ticket
returns-then-ticket c =
    let at = c.in-Some.ensures.lookup in
    ap (λ (w : Want). Some w) (c.want.ensures ∙ ap (λ (r : Request). r.want) at.1)
    ∙ sym (want_here c.args.requests.now c.requires c.args.ticket c.args.likely c.in-Some.request.now (ltb-true _ _ (sym at.0)) (ap (λ (r : Request). r.ticket) (sym at.1) ∙ sym c.ticket.ensures ∙ c.if-ticket.true))

pub returns-in-Ok : goal.returns-in-Ok
returns-in-Ok c =
    let facts = c.in-Ok.ensures in
    let found = facts.position (λ request. request.ticket) (answers_always _ _ _ (λ f a r g called. search rules)) in
    ap (λ (w : Want). Some w) (c.want-in-Ok.ensures ∙ ap (λ (r : Request). r.want) c.index-requests-place.is)
    ∙ sym (want_found c.args.requests.now c.requires c.args.ticket _ _ facts.bound found)

pub returns-in-Err : goal.returns-in-Err
returns-in-Err c =
    let facts = c.in-Err.ensures in
    let parted = facts.position (λ request. request.ticket) (answers_always _ _ _ (λ f a r g called. search rules)) in
    sym (want_missing c.args.requests.now c.requires c.args.ticket _ facts.bound parted)
