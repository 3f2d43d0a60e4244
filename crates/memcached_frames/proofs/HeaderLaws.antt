-- A header is read as it was written.
use Rattle.std.proofs.Common.{refl}
use Rattle.std.proofs.lemmas.Nat.{from_be_bytes-to_be_bytes_2, from_be_bytes-to_be_bytes_4, from_be_bytes-to_be_bytes_8}
use Rattle.memcached_frames.specs.Header.{header_in, header_text, IsOneHeader}

pub one_header : IsOneHeader
unfolding header_in header_text
one_header magic header more is =
    rw (
      from_be_bytes-to_be_bytes_2 header.key_len is.key_len,
      from_be_bytes-to_be_bytes_2 header.status is.status,
      from_be_bytes-to_be_bytes_4 header.body_len is.body_len,
      from_be_bytes-to_be_bytes_4 header.opaque is.opaque,
      from_be_bytes-to_be_bytes_8 header.unique is.unique,
    ) refl
