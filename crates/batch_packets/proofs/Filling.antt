-- Adding replies to a text.
use Rattle.std.proofs.Common.{◌≡◌, ℕ, ◌⊎◌, inl, inr, ◌+◌, ◌<◌, ◌≤◌, List, [], ◌∷◌, ◌++◌, length, refl, sym, ap, subst, ◌∙◌, append_assoc, arith, length-append}
use Rattle.std.specs.Prelude.{slice_set}
use Rattle.std.specs.List.{flat_map}
use Rattle.std.proofs.lemmas.List.{append-nil, nil_from_length}
use Rattle.std.proofs.lemmas.List.Concat.{flat_map-append}
use Rattle.batch_packets.specs.declared.header.TheConstants.{HEADER_LEN, MAX_ITEMS, COUNT_AT}
use Rattle.batch_packets.specs.declared.replies.Reply.{Reply}
use Rattle.batch_packets.specs.Datagram.{FitsDatagram, max_datagram_len, count_at}
use Rattle.batch_packets.specs.ReplyGrammar.{IsReply, status_byte, reply_text, replies_datagram}
use Rattle.batch_packets.specs.Splitting.{BeginsWith, SplitsInto}
use Rattle.batch_packets.specs.Filling.{Filling, HasReplies, Adds}
use Rattle.batch_packets.proofs.ItemLaws.{value_room}
use Rattle.batch_packets.proofs.ReplyLaws.{longest, length-reply_text}

-- a text adds none to itself
pub adds_none : (text : Filling) → Adds text [] text
adds_none text = record { version = refl; number = refl; added = λ so_far has. subst (HasReplies text) (sym (append-nil so_far)) has }

-- replies, and then others
pub adds_then : (a b c : Filling) (xs ys : List Reply) → Adds a xs b → Adds b ys c → Adds a (xs ++ ys) c
adds_then a b c xs ys first then = record {
  version = then.version ∙ first.version;
  number = then.number ∙ first.number;
  added = λ so_far has. subst (HasReplies c) (append_assoc so_far xs ys) (then.added (so_far ++ xs) (first.added so_far has));
}

-- the bytes of a datagram with one reply more
abbrev pub with_reply : List ℕ → Reply → List ℕ
with_reply datagram reply = slice_set datagram COUNT_AT (count_at datagram + 1) ++ reply_text reply

count_is : (version number : ℕ) (group : List Reply) → count_at (replies_datagram version number group) ≡ length group
unfolding replies_datagram
count_is version number group = refl

length_is : (version number : ℕ) (group : List Reply) → length (replies_datagram version number group) ≡ HEADER_LEN + length (flat_map reply_text group)
unfolding replies_datagram
length_is version number group = omega arith

texts_of : (group : List Reply) (reply : Reply) → flat_map reply_text (group ++ reply ∷ []) ≡ flat_map reply_text group ++ reply_text reply
texts_of group reply = flat_map-append reply_text group (reply ∷ []) ∙ ap (λ (t : List ℕ). flat_map reply_text group ++ t) (append-nil (reply_text reply))

one_more : (version number : ℕ) (group : List Reply) (reply : Reply) → with_reply (replies_datagram version number group) reply ≡ replies_datagram version number (group ++ reply ∷ [])
unfolding replies_datagram reply_text
one_more version number group reply =
    let count : length (group ++ reply ∷ []) ≡ length group + 1 = length-append group (reply ∷ []) in
    rw (count, texts_of group reply) (simp append_assoc)

-- one reply more in the datagram that is being filled
pub fills : (text : Filling) (reply : Reply) → Adds text (reply ∷ []) (record text { begun = with_reply text.begun reply })
fills text reply = record {
  version = refl;
  number = refl;
  added = λ so_far has. record {
    group = has.group ++ reply ∷ [];
    begun = ap (λ (b : List ℕ). with_reply b reply) has.begun ∙ one_more text.version text.number has.group reply;
    whole = λ more later splits.
        rw (append_assoc so_far (reply ∷ []) more) (has.whole (reply ∷ more) later (rw (← append_assoc has.group (reply ∷ []) more) splits));
  };
}

-- a datagram that is being filled, and a reply for which it has no room
pub record IsFull (text : Filling) (reply : Reply) : Type 0 where
  pub few : count_at text.begun ≤ MAX_ITEMS
  pub short : length text.begun ≤ max_datagram_len text.version
  pub full : (count_at text.begun ≡ MAX_ITEMS) ⊎ (max_datagram_len text.version < length text.begun + 16 + length reply.value)

-- the bytes of one reply fit a datagram of its version
pub one_fits : (version : ℕ) (reply : Reply) → IsReply version reply → HEADER_LEN + 16 + length reply.value ≤ max_datagram_len version
one_fits version reply lawful = omega (arith, lawful.value, longest version (status_byte reply.status), value_room version)

-- a datagram that is being filled has room for a reply
pub record HasRoom (text : Filling) (reply : Reply) : Type 0 where
  pub few : count_at text.begun < MAX_ITEMS
  pub short : length text.begun + 16 + length reply.value ≤ max_datagram_len text.version

-- one without replies has room for any
pub fresh_room : (text : Filling) (reply : Reply) → IsReply text.version reply → text.begun ≡ replies_datagram text.version text.number [] → HasRoom text reply
fresh_room text reply lawful begun = record {
  few = omega (arith, ap count_at begun ∙ count_is text.version text.number []);
  short = omega (arith, ap length begun ∙ length_is text.version text.number [], one_fits text.version reply lawful);
}

module _ (text : Filling) (reply : Reply) (lawful : IsReply text.version reply) (is : IsFull text reply) (group : List Reply) (begun : text.begun ≡ replies_datagram text.version text.number group) where
  count : count_at text.begun ≡ length group
  count = ap count_at begun ∙ count_is text.version text.number group

  bytes : length text.begun ≡ HEADER_LEN + length (flat_map reply_text group)
  bytes = ap length begun ∙ length_is text.version text.number group

  some : (group : List Reply) → (count_at text.begun ≡ MAX_ITEMS) ⊎ (max_datagram_len text.version < length text.begun + 16 + length reply.value) → count_at text.begun ≡ length group
      → length text.begun ≡ HEADER_LEN + length (flat_map reply_text group) → 0 < length group
  some [] (inl most) count bytes = absurd (omega arith)
  some [] (inr long) count bytes = absurd (omega (arith, one_fits text.version reply lawful))
  some (x ∷ xs) full count bytes = omega arith

  no_more : (count_at text.begun ≡ MAX_ITEMS) ⊎ (max_datagram_len text.version < length text.begun + 16 + length reply.value) → ¬ FitsDatagram reply_text text.version (group ++ reply ∷ [])
  no_more (inl most) fill = absurd (omega (arith, fill.few, length-append group (reply ∷ []), count))
  no_more (inr long) fill = absurd (omega (arith, fill.short, ap length (texts_of group reply), length-append (flat_map reply_text group) (reply_text reply), length-reply_text reply, bytes))

  -- the group of a full datagram is the beginning of it and of what follows
  group_begins : (more : List Reply) → BeginsWith text.version (group ++ reply ∷ more) group (reply ∷ more)
  group_begins more = record {
    whole = refl;
    fits = record { some = some group is.full count bytes; few = omega (arith, is.few, count); short = omega (arith, is.short, bytes) };
    full = no_more is.full;
  }

-- a full datagram is closed, and the reply is the first one of the next
pub closes : (text : Filling) (reply : Reply) → IsReply text.version reply → IsFull text reply
    → Adds text (reply ∷ []) (record text { closed = text.closed ++ text.begun ∷ []; begun = with_reply (replies_datagram text.version text.number []) reply })
closes text reply lawful is = record {
  version = refl;
  number = refl;
  added = λ so_far has. record {
    group = reply ∷ [];
    begun = one_more text.version text.number [] reply;
    whole = λ more later splits.
        rw (append_assoc so_far (reply ∷ []) more, append_assoc text.closed (text.begun ∷ []) later)
        (has.whole (reply ∷ more) (text.begun ∷ later) (has.group, reply ∷ more, group_begins text reply lawful is has.group has.begun more, has.begun, splits));
  };
}

-- a text in which a reply is to be put, and which has then added it
pub record IsReady (text now : Filling) (reply : Reply) : Type 0 where
  pub room : HasRoom now reply
  pub adds : Adds text (reply ∷ []) (record now { begun = with_reply now.begun reply })

pub ready_here : {text now : Filling} {reply : Reply} → now ≡ text → HasRoom text reply → IsReady text now reply
ready_here {text} {now} {reply} same room = subst (λ (t : Filling). IsReady text t reply) (sym same) (record { room = room; adds = fills text reply })

pub ready_next : {text now : Filling} {reply : Reply} → now ≡ record text { closed = text.closed ++ text.begun ∷ []; begun = replies_datagram text.version text.number [] } → IsReply text.version reply → IsFull text reply → IsReady text now reply
ready_next {text} {now} {reply} next lawful full = subst (λ (t : Filling). IsReady text t reply) (sym next) (record { room = fresh_room _ reply lawful refl; adds = closes text reply lawful full })

-- the replies of a text in which the open datagram has none are in the closed ones
pub ends_closed : (text : Filling) (replies : List Reply) → count_at text.begun ≡ 0 → HasReplies text replies → SplitsInto text.version text.number replies text.closed
ends_closed text replies none has =
    let empty : has.group ≡ [] = nil_from_length has.group (omega (arith, ap count_at has.begun ∙ count_is text.version text.number has.group)) in
    rw (← append-nil replies, ← append-nil text.closed) (has.whole [] [] (rw (append-nil has.group) empty))

-- else they are in those and in the open one
pub ends_begun : (text : Filling) (replies : List Reply) → 0 < count_at text.begun → count_at text.begun ≤ MAX_ITEMS → length text.begun ≤ max_datagram_len text.version → HasReplies text replies
    → SplitsInto text.version text.number replies (text.closed ++ text.begun ∷ [])
ends_begun text replies some few short has =
    let count : count_at text.begun ≡ length has.group = ap count_at has.begun ∙ count_is text.version text.number has.group in
    let bytes = ap length has.begun ∙ length_is text.version text.number has.group in
    rw (← append-nil replies) (has.whole [] (text.begun ∷ [])
    (has.group, [], record { whole = refl; fits = record { some = omega (arith, count); few = omega (arith, count); short = omega (arith, bytes) }; full = tt }, has.begun, refl))
