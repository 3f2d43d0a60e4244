use Rattle.std.proofs.Common.{◌∷◌, refl, sym, subst}
use Rattle.batch_packets.specs.BatchGrammar.{IsRequest, IsInRange, request_text, batch_kind}
use Rattle.batch_packets.specs.Remaining.{Remaining, HasLeft}
use Rattle.batch_packets.proofs.Taking.{is_judged, is_taken}
use Rattle.batch_packets.proofs.RequestLaws.{request_at, request_tells}
use Rattle.batch_packets.proofs.checking.Requests.next_request.Goals as goal

pub next_item-request-requires : goal.next_item-request-requires
next_item-request-requires c κs =
    let version = c.self.inside.version in
    let (request, later, has) = c.requires.some in (
      (refl, tt),
      (
        c.self.invariant,
        is_judged request_text IsRequest IsInRange version batch_kind request_at (request_tells version) c.self.inside.rest.now request later
            (subst (λ (u : Remaining). HasLeft u (request ∷ later)) (sym c.self.view_is) has),
      ),
    )

pub returns-clause-taken : goal.returns-clause-taken
returns-clause-taken c = λ request later has.
    let version = c.self.inside.version in
    let next = c.next_item-request in
    is_taken request_text IsRequest IsInRange version batch_kind request_at (request_tells version) c.self.inside.rest.now request later
    (subst (λ (u : Remaining). HasLeft u (request ∷ later)) (sym c.self.view_is) has) next.result.0 next.result.1.now next.ensures.lawful next.ensures.in_range next.ensures.text
