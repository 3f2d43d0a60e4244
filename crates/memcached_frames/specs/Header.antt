-- The header of a frame.
use Rattle.std.specs.Prelude.{◌≡◌, ℕ, ◌+◌, ◌^◌, ◌<◌, List, ◌∷◌, ◌++◌, drop, slice_index}
use Rattle.std.specs.Int.{w16, w32, w64, to_be_bytes, from_be_bytes}
use Rattle.memcached_frames.specs.declared.header.TheConstants.{FRAME_LEN}
use Rattle.memcached_frames.specs.declared.header.Header.{Header}

-- the bytes of a header, all numbers with the greatest byte first; a request has the number of a bucket where a reply has its status
unfoldable pub header_text : ℕ → Header → List ℕ
header_text magic header =
    magic ∷ header.opcode ∷ to_be_bytes w16 header.key_len ++ header.extras_len ∷ 0 ∷ to_be_bytes w16 header.status
    ++ to_be_bytes w32 header.body_len ++ to_be_bytes w32 header.opaque ++ to_be_bytes w64 header.unique

-- the header of bytes that have one
unfoldable pub header_in : List ℕ → Header
header_in bytes = record {
  opcode = slice_index bytes 1;
  key_len = from_be_bytes w16 (drop 2 bytes);
  extras_len = slice_index bytes 4;
  status = from_be_bytes w16 (drop 6 bytes);
  body_len = from_be_bytes w32 (drop 8 bytes);
  opaque = from_be_bytes w32 (drop 12 bytes);
  unique = from_be_bytes w64 (drop 16 bytes);
}

-- its numbers have so many bits
pub record IsHeader (header : Header) : Type 0 where
  pub opcode : header.opcode < 2 ^ 8
  pub key_len : header.key_len < 2 ^ 16
  pub extras_len : header.extras_len < 2 ^ 8
  pub status : header.status < 2 ^ 16
  pub body_len : header.body_len < 2 ^ 32
  pub opaque : header.opaque < 2 ^ 32
  pub unique : header.unique < 2 ^ 64

-- the bytes of the frame
abbrev pub frame_len : Header → ℕ
frame_len header = FRAME_LEN + header.body_len

-- a header is read as it was written
abbrev pub IsOneHeader : Type 0
IsOneHeader = (magic : ℕ) (header : Header) (more : List ℕ) → IsHeader header → header_in (header_text magic header ++ more) ≡ header
