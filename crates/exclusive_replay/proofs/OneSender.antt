-- All messages of a queue are its one sender's.
use Rattle.std.proofs.Common.{◌≡◌, ℕ, List, [], ◌∷◌, ◌++◌, true, true≢false, ap, refl, sym, subst, ◌∙◌, append-nil}
use Rattle.exclusive_replay.specs.declared.queue.Sent.{Sent}
use Rattle.exclusive_replay.specs.Sent.{only_sender, has_end, MayFollow}
use Rattle.ruled_queue.specs.Delivery.{from_sender, MayBeSent}

pub from_only : (messages : List Sent) → from_sender only_sender 0 messages ≡ messages
from_only [] = refl
from_only (m ∷ messages) = ap (λ l. m ∷ l) (from_only messages)

pub follows_all : (lines : ℕ) (taken : List Sent) (m : Sent) → MayFollow lines (from_sender only_sender (only_sender m) taken) m → MayFollow lines taken m
follows_all lines taken m follows = subst (λ l. MayFollow lines l m) (from_only taken) follows

settled : (lines : ℕ) (got rest sent : List Sent) → sent ≡ got ++ rest → MayBeSent MayFollow lines sent → has_end got ≡ true → got ≡ sent
settled lines got [] sent e lawful ended = sym (append-nil got) ∙ sym e
settled lines got (m ∷ rest) sent e lawful ended = absurd (true≢false (sym ended ∙ (lawful got rest m e).no_end))

-- where its end was taken, nothing waits
pub settles : (lines : ℕ) (taken waiting sent : List Sent) → from_sender only_sender 0 (taken ++ waiting) ≡ sent → MayBeSent MayFollow lines sent → has_end taken ≡ true → taken ≡ sent
settles lines taken waiting sent e lawful ended = settled lines taken waiting sent (sym e ∙ from_only (taken ++ waiting)) lawful ended
