-- Replies to a batch, by cases on bytes.
use Rattle.std.specs.Prelude.{◌≡◌, ◌+◌, ◌^◌, ◌<◌, ◌≤◌, ◌==◌, ◌&&◌, ◌||◌, ℕ, Bool, List, ◌∷◌, ◌++◌, length, drop, slice_index, nat_lt, nat_le, codes, IsTrue, All, if◌then◌else◌}
use Rattle.std.specs.Int.{w16, w32, w64, to_le_bytes, from_le_bytes}
use Rattle.batch_packets.specs.declared.status.Status.{Status}
use Rattle.batch_packets.specs.declared.status.Status.TheVariants.{Hit, Miss, Stored, Deleted, Absent, FullSpare, FullBlock, Worn, BadBatch, LongHit, Exists, Touched}
use Rattle.batch_packets.specs.declared.replies.Reply.{Reply}
use Rattle.batch_packets.specs.declared.replies.Replies.{Replies}
use Rattle.batch_packets.specs.Datagram.{is_version, max_value_len, datagram_text, FitsDatagram, DatagramKind}

-- the byte of a status
unfoldable pub status_byte : Status → ℕ
status_byte Hit = 0
status_byte Miss = 1
status_byte Stored = 2
status_byte Deleted = 3
status_byte Absent = 4
status_byte FullSpare = 5
status_byte FullBlock = 6
status_byte Worn = 7
status_byte BadBatch = 9
status_byte LongHit = 10
status_byte Exists = 11
status_byte Touched = 12

-- whether a version has the status of this byte: 9 is of the first alone, 11 and 12 of the second
abbrev pub is_status : ℕ → ℕ → Bool
is_status version byte =
    nat_lt byte 8
    || byte == 10
    || (version == 1 && byte == 9)
    || (version == 2 && (byte == 11 || byte == 12))

-- the bytes that a value of this status may have: a hit alone has one
abbrev pub longest_value : ℕ → ℕ → ℕ
longest_value version byte = if byte == 0 then max_value_len version else 0

-- a reply that a version may have
pub record IsReply (version : ℕ) (reply : Reply) : Type 0 where
  pub status : IsTrue (is_status version (status_byte reply.status))
  pub value : length reply.value ≤ longest_value version (status_byte reply.status)

-- its numbers are below the limits of their types, as in every value of the types
pub record IsInRange (reply : Reply) : Type 0 where
  pub ticket : reply.ticket < 2 ^ 32
  pub stamp : reply.stamp < 2 ^ 64

-- sixteen bytes and the value
unfoldable pub reply_text : Reply → List ℕ
reply_text reply =
    status_byte reply.status ∷ 0 ∷ to_le_bytes w16 (length reply.value)
    ++ to_le_bytes w32 reply.ticket ++ to_le_bytes w64 reply.stamp ++ reply.value

-- the magic of replies
abbrev pub replies_magic : List ℕ
replies_magic = codes "MICR"

-- the text of one datagram of these replies, in a version
unfoldable pub replies_datagram : ℕ → ℕ → List Reply → List ℕ
replies_datagram version number replies =
    datagram_text replies_magic reply_text version number replies

-- the text of replies
abbrev pub replies_text : Replies → List ℕ
replies_text replies = replies_datagram replies.version replies.number replies.replies

-- replies that have a text: there is such a version, they fit a datagram, and each is one of its version
pub record IsReplies (replies : Replies) : Type 0 where
  pub version : IsTrue (is_version replies.version)
  pub fits : FitsDatagram reply_text replies.version replies.replies
  pub each : All (IsReply replies.version) replies.replies

-- the bytes are the text of these replies
pub record SpellsReplies (bytes : List ℕ) (replies : Replies) : Type 0 where
  pub text : bytes ≡ replies_text replies
  pub lawful : IsReplies replies
  pub number : replies.number < 2 ^ 32
  pub in_range : All IsInRange replies.replies

-- the byte of the status in the bytes of a reply
abbrev pub status_at : List ℕ → ℕ
status_at bytes = slice_index bytes 0

-- the length of its value
abbrev pub value_len_at : List ℕ → ℕ
value_len_at bytes = from_le_bytes w16 (drop 2 bytes)

-- what the bytes of a reply say; the byte after the status is 0
abbrev pub replies_kind : DatagramKind
replies_kind = record {
  magic = replies_magic;
  fixed = 16;
  is_known = λ version bytes. is_status version (status_at bytes) && (slice_index bytes 1 == 0);
  is_allowed = λ version bytes.
      nat_le (value_len_at bytes) (longest_value version (status_at bytes));
  size = λ bytes. 16 + value_len_at bytes;
}
