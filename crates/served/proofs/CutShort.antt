-- A front that did not send all that is due is not through, whatever else may be due to its datagrams.
use Rattle.std.proofs.Common.{◌≡◌, ℕ, ◌<◌, ◌⊎◌, inl, inr, Bool, false, List, length, map, sym, ◌∙◌, arith}
use Rattle.std.specs.List.{All}
use Rattle.std.proofs.lemmas.Bool.{true≢false}
use Rattle.outside.specs.Traffic.{Traffic}
use Rattle.outside.specs.PortStates.{back}
use Rattle.datagram_answers.specs.Dealing.{Dealing, IsDealing, due_to}
use Rattle.datagram_answers.specs.OneEnd.{BeginsAs}
use Rattle.datagram_answers.proofs.SentReplies.{never_all}
use Rattle.served.specs.Served.{IsCutShort}

pub cut_short : (batches : ℕ) (traffic : Traffic) (ended : Bool) (dealings : List Dealing) → All IsDealing dealings
    → map (λ e. e.datagram) dealings ≡ traffic.received → BeginsAs traffic.sent (due_to dealings)
    → (length traffic.sent < length (due_to dealings)) ⊎ ((ended ≡ false) × (length traffic.received < batches)) → IsCutShort batches (back traffic ended)
cut_short batches traffic ended dealings each received sent (inl short) = λ others each' received' through.
    never_all traffic.sent dealings others each each' (received' ∙ sym received) sent short through.0
cut_short batches traffic ended dealings each received sent (inr stopped) = λ others each' received' through.
    elim through.1 as (λ _. ⊥) [ inl e ↦ true≢false (sym e ∙ stopped.0) | inr e ↦ absurd (let few = stopped.1 in omega arith) ]
