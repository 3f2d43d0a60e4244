-- What the text of a reply tells of it, and that of replies of them.
use Rattle.std.proofs.Common.{◌≡◌, ℕ, ◌+◌, ◌^◌, ◌<◌, ◌≤◌, true, false, ltb, leb, eqb, List, ◌++◌, length, take, drop, None, refl, sym, ap, ◌∙◌, arith, length-append}
use Rattle.std.specs.Prelude.{◌==◌, slice_index, if◌then◌else◌}
use Rattle.std.specs.List.{flat_map, All, AllByRecursion}
use Rattle.std.specs.Int.{w32, w64, from_le_bytes}
use Rattle.std.proofs.lemmas.Bool.{le-ltb, le-leb, cond_both}
use Rattle.std.proofs.lemmas.List.{take_at}
use Rattle.std.proofs.lemmas.List.Elements.{recursion_from_All}
use Rattle.std.proofs.lemmas.Nat.{from_le_bytes-to_le_bytes_4, from_le_bytes-to_le_bytes_8}
use Rattle.batch_packets.specs.declared.header.TheConstants.{HEADER_LEN}
use Rattle.batch_packets.specs.declared.status.Status.{Status}
use Rattle.batch_packets.specs.declared.status.Status.TheVariants.{Hit, Miss, Stored, Deleted, Absent, FullSpare, FullBlock, Worn, BadBatch, LongHit, Exists, Touched}
use Rattle.batch_packets.specs.declared.replies.Reply.{Reply}
use Rattle.batch_packets.specs.declared.replies.Replies.{Replies}
use Rattle.batch_packets.specs.Datagram.{item_fault, first_fault, version_at, count_at, max_value_len}
use Rattle.batch_packets.specs.ReplyGrammar.{IsReply, replies_datagram, IsInRange, reply_text, replies_kind, is_status, longest_value, status_byte, status_at, value_len_at, replies_text, SpellsReplies}
use Rattle.batch_packets.proofs.ItemLaws.{Tells, value_within, no_faults, one_list, no_first_fault}

status_of : ℕ → Status
status_of byte =
    if byte == 0 then Hit else (if byte == 1 then Miss else (if byte == 2 then Stored else (if byte == 3 then Deleted
    else (if byte == 4 then Absent else (if byte == 5 then FullSpare else (if byte == 6 then FullBlock else (if byte == 7 then Worn
    else (if byte == 9 then BadBatch else (if byte == 10 then LongHit else (if byte == 11 then Exists else Touched))))))))))

same_status : (status : Status) → status_of (status_byte status) ≡ status
unfolding status_of status_byte
same_status Hit = refl
same_status Miss = refl
same_status Stored = refl
same_status Deleted = refl
same_status Absent = refl
same_status FullSpare = refl
same_status FullBlock = refl
same_status Worn = refl
same_status BadBatch = refl
same_status LongHit = refl
same_status Exists = refl
same_status Touched = refl

pub reply_at : List ℕ → Reply
reply_at bytes = record {
  status = status_of (status_at bytes);
  ticket = from_le_bytes w32 (drop 4 bytes);
  stamp = from_le_bytes w64 (drop 8 bytes);
  value = take (value_len_at bytes) (drop 16 bytes);
}

pub longest : (version status : ℕ) → longest_value version status ≤ max_value_len version
longest version status = cond_both (eqb status 0) (max_value_len version) 0 (λ n. n ≤ max_value_len version) (λ e. omega arith) (λ e. omega arith)

status_is : (x : Reply) (rest : List ℕ) → status_at (reply_text x ++ rest) ≡ status_byte x.status
unfolding reply_text
status_is x rest = refl

zero_is : (x : Reply) (rest : List ℕ) → slice_index (reply_text x ++ rest) 1 ≡ 0
unfolding reply_text
zero_is x rest = refl

value_len_is : (version : ℕ) (x : Reply) (rest : List ℕ) → IsReply version x → value_len_at (reply_text x ++ rest) ≡ length x.value
unfolding reply_text
value_len_is version x rest lawful = omega (arith, lawful.value, longest version (status_byte x.status), value_within version)

ticket_is : (x : Reply) (rest : List ℕ) → IsInRange x → from_le_bytes w32 (drop 4 (reply_text x ++ rest)) ≡ x.ticket
unfolding reply_text
ticket_is x rest in_range = from_le_bytes-to_le_bytes_4 x.ticket in_range.ticket

stamp_is : (x : Reply) (rest : List ℕ) → IsInRange x → from_le_bytes w64 (drop 8 (reply_text x ++ rest)) ≡ x.stamp
unfolding reply_text
stamp_is x rest in_range = from_le_bytes-to_le_bytes_8 x.stamp in_range.stamp

value_after : (x : Reply) (rest : List ℕ) → drop 16 (reply_text x ++ rest) ≡ x.value ++ rest
unfolding reply_text
value_after x rest = refl

pub length-reply_text : (x : Reply) → length (reply_text x) ≡ 16 + length x.value
unfolding reply_text
length-reply_text x = omega arith

size : (version : ℕ) (x : Reply) (rest : List ℕ) → IsReply version x → replies_kind.size (reply_text x ++ rest) ≡ length (reply_text x)
size version x rest lawful = rw (length-reply_text x, value_len_is version x rest lawful) refl

no_fault : (version : ℕ) (x : Reply) (rest : List ℕ) → IsReply version x → item_fault replies_kind version (reply_text x ++ rest) ≡ None
no_fault version x rest lawful =
    let text = reply_text x ++ rest in
    let whole : replies_kind.size text ≡ length (reply_text x) = size version x rest lawful in
    let len : length text ≡ 16 + length x.value + length rest = length-append (reply_text x) rest ∙ rw (length-reply_text x) refl in
    let a : ltb (length text) 16 ≡ false = le-ltb _ _ (omega arith) in
    let b : is_status version (status_at text) ≡ true = ap (is_status version) (status_is x rest) ∙ lawful.status in
    let c : (slice_index text 1 == 0) ≡ true = ap (λ n. n == 0) (zero_is x rest) in
    let d : leb (value_len_at text) (longest_value version (status_at text)) ≡ true = le-leb _ _ (rw (value_len_is version x rest lawful, status_is x rest) lawful.value) in
    let e : ltb (length text) (replies_kind.size text) ≡ false = le-ltb _ _ (omega (arith, length-reply_text x)) in
    rw (a, b, c, d, e) refl

value : (version : ℕ) (x : Reply) (rest : List ℕ) → IsReply version x → IsInRange x → reply_at (reply_text x ++ rest) ≡ x
unfolding reply_at
value version x rest lawful in_range =
    let status : status_of (status_at (reply_text x ++ rest)) ≡ x.status = ap status_of (status_is x rest) ∙ same_status x.status in
    let value : take (length x.value) (x.value ++ rest) ≡ x.value = take_at x.value rest (length x.value) refl in
    rw (status, ticket_is x rest in_range, stamp_is x rest in_range, value_len_is version x rest lawful, value_after x rest, value) refl

pub reply_tells : (version : ℕ) (x : Reply) → IsReply version x → IsInRange x → Tells replies_kind version reply_text reply_at x
reply_tells version x lawful in_range = record { no_fault = λ rest. no_fault version x rest lawful; size = λ rest. size version x rest lawful; value = λ rest. value version x rest lawful in_range }

pub replies_tell : (version : ℕ) (xs : List Reply) → All (IsReply version) xs → All IsInRange xs → AllByRecursion (Tells replies_kind version reply_text reply_at) xs
replies_tell version xs lawful in_range = recursion_from_All _ xs (λ k d lt. reply_tells version _ (lawful k d lt) (in_range k d lt))

number_at : List ℕ → ℕ
number_at bytes = from_le_bytes w32 (drop 6 bytes)

-- what the text of replies tells of them
record Shown (bytes : List ℕ) (replies : Replies) : Type 0 where
  version : version_at bytes ≡ replies.version
  number : number_at bytes ≡ replies.number
  count : count_at bytes ≡ length replies.replies
  texts : drop HEADER_LEN bytes ≡ flat_map reply_text replies.replies

shown : (replies : Replies) → replies.number < 2 ^ 32 → Shown (replies_text replies) replies
unfolding number_at replies_datagram
shown replies lt = record { version = refl; number = from_le_bytes-to_le_bytes_4 replies.number lt; count = refl; texts = refl }

pub replies_have_no_fault : (bytes : List ℕ) (replies : Replies) → SpellsReplies bytes replies → first_fault replies_kind bytes ≡ None
unfolding replies_datagram
replies_have_no_fault bytes replies h =
    let fits = h.lawful.fits in
    let texts = flat_map reply_text replies.replies in
    let none = no_faults replies_kind replies.version reply_text reply_at replies.replies (replies_tell replies.version replies.replies h.lawful.each h.in_range) in
    ap (first_fault replies_kind) h.text ∙ no_first_fault replies_kind (replies_text replies) replies.version (length replies.replies) h.lawful.version (omega (arith, fits.short)) (omega arith) refl refl refl fits.some none

pub one_replies : (bytes : List ℕ) (a b : Replies) → SpellsReplies bytes a → SpellsReplies bytes b → a ≡ b
one_replies bytes a b p q =
    let same : replies_text a ≡ replies_text b = sym p.text ∙ q.text in
    let m = shown a p.number in
    let n = shown b q.number in
    let version : a.version ≡ b.version = sym m.version ∙ ap version_at same ∙ n.version in
    let number : a.number ≡ b.number = sym m.number ∙ ap number_at same ∙ n.number in
    let count : length a.replies ≡ length b.replies = sym m.count ∙ ap count_at same ∙ n.count in
    let texts : flat_map reply_text a.replies ≡ flat_map reply_text b.replies = sym m.texts ∙ ap (drop HEADER_LEN) same ∙ n.texts in
    let replies : a.replies ≡ b.replies = one_list replies_kind a.version reply_text reply_at a.replies b.replies (replies_tell a.version a.replies p.lawful.each p.in_range) (replies_tell a.version b.replies (rw version q.lawful.each) q.in_range) count texts in
    let made : ℕ → ℕ → List Reply → Replies = λ v n rs. record { version = v; number = n; replies = rs } in
    ap (λ v. made v a.number a.replies) version ∙ ap (λ n. made b.version n a.replies) number ∙ ap (made b.version b.number) replies
