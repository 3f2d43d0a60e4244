-- The replies to frames, as bytes.
use Rattle.std.specs.Prelude.{◌≡◌, ℕ, ◌+◌, ◌^◌, ◌<◌, List, ◌++◌, length}
use Rattle.memcached_frames.specs.declared.header.TheConstants.{REPLY}
use Rattle.memcached_frames.specs.declared.header.Header.{Header}
use Rattle.memcached_frames.specs.declared.frame.Echo.{Echo}
use Rattle.memcached_frames.specs.declared.reply.FrameReply.{FrameReply}
use Rattle.memcached_frames.specs.Header.{header_text}

-- the bytes of the three parts
abbrev pub parts_len : FrameReply → ℕ
parts_len reply = length reply.extras + length reply.key + length reply.value

-- the header of a reply, which tells opcode and opaque of its request again
abbrev pub reply_header : Echo → FrameReply → Header
reply_header echo reply = record {
  opcode = echo.opcode;
  key_len = length reply.key;
  extras_len = length reply.extras;
  status = reply.status;
  body_len = parts_len reply;
  opaque = echo.opaque;
  unique = reply.unique;
}

-- the bytes of a reply
unfoldable pub reply_text : Echo → FrameReply → List ℕ
reply_text echo reply = header_text REPLY (reply_header echo reply) ++ (reply.extras ++ (reply.key ++ reply.value))

-- its parts have lengths that a header can tell
pub record IsReply (reply : FrameReply) : Type 0 where
  pub status : reply.status < 2 ^ 16
  pub unique : reply.unique < 2 ^ 64
  pub extras : length reply.extras < 2 ^ 8
  pub key : length reply.key < 2 ^ 16
  pub body : parts_len reply < 2 ^ 32

pub record IsEcho (echo : Echo) : Type 0 where
  pub opcode : echo.opcode < 2 ^ 8
  pub opaque : echo.opaque < 2 ^ 32

-- No reply begins another: a client finds where each ends, to which of its requests it is, and what it says.
abbrev pub IsOneReply : Type 0
IsOneReply = (here there : Echo) (a b : FrameReply) (x y : List ℕ) → IsEcho here → IsEcho there → IsReply a → IsReply b
    → reply_text here a ++ x ≡ reply_text there b ++ y → (here ≡ there) × (a ≡ b) × (x ≡ y)
