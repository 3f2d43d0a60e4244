-- A step from the state that the search for a key left, which is the one before it.
use Rattle.store_partition.proofs.Words.{IsOwnerStep, Outcome, OwnerState, Write, subst, ◌≡◌}

pub from_before : {o p q : OwnerState} {w : Write} {outcome : Outcome} → p ≡ o → IsOwnerStep p q w outcome → IsOwnerStep o q w outcome
from_before {o} {p} {q} {w} {outcome} same = subst (λ z. IsOwnerStep z q w outcome) same
