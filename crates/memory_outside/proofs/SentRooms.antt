-- Replies in one room: those that lie there stay as they are where another one follows.
use Rattle.std.proofs.Common.{◌≡◌, ℕ, List, [], ◌∷◌, ◌++◌, length, refl, ap, ◌∙◌, arith}
use Rattle.std.specs.Prelude.{slice_range}
use Rattle.std.specs.List.{All, AllByRecursion}
use Rattle.std.proofs.lemmas.List.{map-append}
use Rattle.std.proofs.lemmas.List.Elements.{recursion_from_All}
use Rattle.std.proofs.lemmas.Grind.{common_steps}
use Rattle.memory_outside.specs.declared.sent_room.Mark.{Mark}
use Rattle.memory_outside.specs.SentRoom.{told_reply, sent_in, IsWithin}
use Rattle.outside.specs.Traffic.{Sent}

last_range : (bytes reply : List ℕ) (to : ℕ) → to ≡ length (bytes ++ reply) → slice_range (bytes ++ reply) (length bytes) to ≡ reply
last_range bytes reply to is = grind (arith, common_steps)

kept : (bytes more : List ℕ) (marks : List Mark) → AllByRecursion (IsWithin (length bytes)) marks → sent_in (bytes ++ more) marks ≡ sent_in bytes marks
kept bytes more [] all = refl
kept bytes more (m ∷ marks) all = grind (arith, common_steps, kept bytes more marks all.1)

-- one reply more
pub sent_more : (bytes reply : List ℕ) (marks : List Mark) (from to after : ℕ) → All (IsWithin (length bytes)) marks → from ≡ length bytes → to ≡ length (bytes ++ reply)
    → sent_in (bytes ++ reply) (marks ++ record { from = from; to = to; after = after } ∷ []) ≡ sent_in bytes marks ++ record { bytes = reply; after = after } ∷ []
sent_more bytes reply marks from to after all from_is to_is =
    map-append (told_reply (bytes ++ reply)) marks _
    ∙ ap (λ (s : List Sent). s ++ sent_in (bytes ++ reply) (record { from = from; to = to; after = after } ∷ []))
    (kept bytes reply marks (recursion_from_All _ marks all))
    ∙ ap (λ (b : List ℕ). sent_in bytes marks ++ record { bytes = b; after = after } ∷ [])
    (ap (λ f. slice_range (bytes ++ reply) f to) from_is ∙ last_range bytes reply to to_is)
