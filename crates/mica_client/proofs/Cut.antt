-- A datagram that is longer than the room of a `recv` is no replies, and neither is what is given of it.
use Rattle.std.proofs.Common.{◌≡◌, ◌≤◌, ◌<◌, ◌⊎◌, inl, inr, ℕ, ◌+◌, length, take, sym, subst, ap, ◌∙◌, arith}
use Rattle.std.proofs.lemmas.Bool.{cases_lt}
use Rattle.std.proofs.lemmas.List.{length-take-le, take_all}
use Rattle.std.specs.List.{flat_map}
use Rattle.outside.specs.Traffic.{Datagram}
use Rattle.batch_packets.specs.declared.replies.Replies.{Replies}
use Rattle.batch_packets.specs.ReplyGrammar.{replies_datagram, reply_text, SpellsReplies}
use Rattle.batch_packets.specs.Datagram.{version_at, max_datagram_len}
use Rattle.batch_packets.specs.declared.header.TheConstants.{HEADER_LEN, MAX_DATAGRAM_LEN_V2}
use Rattle.mica_client.specs.declared.exchange.TheConstants.{ROOM}
use Rattle.mica_client.specs.Exchange.{SpellsAnswers, IsUnread}

text_short : (replies : Replies) (bytes : Datagram) → SpellsAnswers bytes replies → length bytes ≤ MAX_DATAGRAM_LEN_V2
unfolding replies_datagram
text_short replies bytes h = let short = subst (λ (v : ℕ). HEADER_LEN + length (flat_map reply_text replies.replies) ≤ max_datagram_len v) h.version h.spelled.lawful.fits.short in subst (λ (b : Datagram). length b ≤ MAX_DATAGRAM_LEN_V2) (sym h.spelled.text) (omega (arith, short))

-- the replies that the bytes of a room spell are those of the datagram
pub cut_spells : (datagram : Datagram) (replies : Replies) → SpellsAnswers (take ROOM datagram) replies → SpellsAnswers datagram replies
cut_spells datagram replies h = by (cases_lt ROOM (length datagram))
  where
    by : (ROOM < length datagram) ⊎ (length datagram ≤ ROOM) → SpellsAnswers datagram replies
    by (inr short) = subst (λ (d : Datagram). SpellsAnswers d replies) (take_all ROOM datagram short) h
    by (inl long) =
        let given : length (take ROOM datagram) ≡ ROOM = length-take-le ROOM datagram (omega arith) in
        let short = text_short replies (take ROOM datagram) h in absurd (omega arith)

-- and where they spell none, it spells none
pub cut_unread : (datagram : Datagram) → IsUnread (take ROOM datagram) → IsUnread datagram
cut_unread datagram none replies h =
    let short = text_short replies datagram h in
    none replies (subst (λ (d : Datagram). SpellsAnswers d replies) (sym (take_all ROOM datagram (omega arith))) h)

-- the version of replies stands in their text
pub version_told : (bytes : Datagram) (a b : Replies) → SpellsReplies bytes a → SpellsReplies bytes b → a.version ≡ b.version
unfolding replies_datagram
version_told bytes a b p q = ap version_at (sym p.text ∙ q.text)
