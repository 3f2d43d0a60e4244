-- What a queue of one sender comes to: all messages are its own.
use Rattle.std.proofs.Common.{◌≡◌, ℕ, List, [], ◌∷◌, ◌++◌, ap, refl, sym, subst, ◌∙◌}
use Rattle.owner_queue.specs.declared.ack.Ack.{Ack}
use Rattle.partition_table.specs.declared.reader.Note.{Note}
use Rattle.partition_table.specs.Seats.{note_state, note_home}
use Rattle.owner_queue.specs.AckOrder.{only_sender, AckMayFollow, AckMayFollowAt}
use Rattle.owner_queue.specs.AckEnds.{BeginsAcks}
use Rattle.ruled_queue.specs.Delivery.{from_sender}

from_only : (acks : List Ack) → from_sender only_sender 0 acks ≡ acks
from_only [] = refl
from_only (ack ∷ acks) = ap (λ l. ack ∷ l) (from_only acks)

pub begins_with : (taken waiting sent : List Ack) (number : ℕ) → number ≡ 0 → from_sender only_sender number (taken ++ waiting) ≡ sent → BeginsAcks taken sent
begins_with taken waiting sent number zero is = (waiting, sym is ∙ (ap (λ n. from_sender only_sender n (taken ++ waiting)) zero ∙ from_only (taken ++ waiting)))

pub follows_all : (note : Note) (taken : List Ack) (ack : Ack) → AckMayFollowAt note (from_sender only_sender 0 taken) ack → AckMayFollow (note_home note) (note_state note).shape taken ack
follows_all note taken ack follows = subst (λ (l : List Ack). AckMayFollow (note_home note) (note_state note).shape l ack) (from_only taken) follows
