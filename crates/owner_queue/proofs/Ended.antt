-- Where the end of a sender was taken, nothing of it waits.
use Rattle.std.proofs.Common.{◌≡◌, ℕ, true, true≢false, List, [], ◌∷◌, ◌++◌, sym, ◌∙◌, append-nil}
use Rattle.std.specs.List.{list_any}
use Rattle.owner_queue.specs.declared.message.Message.{Message}
use Rattle.owner_queue.specs.Messages.{sender_of, is_end, sent_by, has_end, MayFollow}
use Rattle.ruled_queue.specs.Delivery.{MayBeSent}
use Rattle.ruled_queue.proofs.Keeps.{from_append}

settled : (jobs : ℕ) (got rest sent : List Message) → sent ≡ got ++ rest → MayBeSent MayFollow jobs sent → list_any is_end got ≡ true → got ≡ sent
settled jobs got [] sent e lawful ended = sym (append-nil got) ∙ sym e
settled jobs got (m ∷ rest) sent e lawful ended = absurd (true≢false (sym ended ∙ (lawful got rest m e).no_end))

pub settles : (jobs p : ℕ) (taken waiting sent : List Message) → sent_by p (taken ++ waiting) ≡ sent → MayBeSent MayFollow jobs sent → has_end p taken ≡ true → sent_by p taken ≡ sent
settles jobs p taken waiting sent e lawful ended = settled jobs (sent_by p taken) (sent_by p waiting) sent (sym e ∙ from_append sender_of p taken waiting) lawful ended
