-- Batches of requests, by cases on bytes.
use Rattle.std.specs.Prelude.{◌≡◌, ◌+◌, ◌^◌, ◌<◌, ◌≤◌, ◌==◌, ◌&&◌, ◌||◌, ℕ, Bool, List, ◌∷◌, ◌++◌, length, drop, slice_index, nat_lt, nat_le, codes, IsTrue, All, if◌then◌else◌}
use Rattle.std.specs.Int.{w16, w32, to_le_bytes, from_le_bytes}
use Rattle.mica_words.specs.Item.{KeyFits}
use Rattle.batch_packets.specs.declared.batch.Want.{Want}
use Rattle.batch_packets.specs.declared.batch.Want.TheVariants.{Get, Put, Del, Add, Touch}
use Rattle.batch_packets.specs.declared.batch.Request.{Request}
use Rattle.batch_packets.specs.declared.batch.Batch.{Batch}
use Rattle.batch_packets.specs.Datagram.{is_version, max_value_len, datagram_text, FitsDatagram, DatagramKind}

-- the byte of an operation
unfoldable pub operation_of : Want → ℕ
operation_of Get = 0
operation_of Put = 1
operation_of Del = 2
operation_of Add = 3
operation_of Touch = 4

-- whether a version has the operation of this byte: the last two are of the second alone
abbrev pub is_operation : ℕ → ℕ → Bool
is_operation version operation = nat_lt operation 3 || (version == 2 && nat_lt operation 5)

-- the bytes that a value of this operation may have
abbrev pub longest_value : ℕ → ℕ → ℕ
longest_value version operation = if operation == 1 || operation == 3 then max_value_len version else 0

-- a request that a version may have
pub record IsRequest (version : ℕ) (request : Request) : Type 0 where
  pub operation : IsTrue (is_operation version (operation_of request.want))
  pub key : KeyFits request.key
  pub value : length request.value ≤ longest_value version (operation_of request.want)

-- its number is below the limit of its type, as in every value of the type
abbrev pub IsInRange : Request → Type 0
IsInRange request = request.ticket < 2 ^ 32

-- eight bytes, the key and the value
unfoldable pub request_text : Request → List ℕ
request_text request =
    operation_of request.want ∷ length request.key ∷ to_le_bytes w16 (length request.value)
    ++ to_le_bytes w32 request.ticket ++ request.key ++ request.value

-- the magic of a batch
abbrev pub batch_magic : List ℕ
batch_magic = codes "MICA"

-- the text of a batch
unfoldable pub batch_text : Batch → List ℕ
batch_text batch =
    datagram_text batch_magic request_text batch.version batch.number batch.requests

-- a batch that has a text: there is such a version, it fits a datagram, and each request is one of its version
pub record IsBatch (batch : Batch) : Type 0 where
  pub version : IsTrue (is_version batch.version)
  pub fits : FitsDatagram request_text batch.version batch.requests
  pub each : All (IsRequest batch.version) batch.requests

-- the bytes are the text of this batch
pub record SpellsBatch (bytes : List ℕ) (batch : Batch) : Type 0 where
  pub text : bytes ≡ batch_text batch
  pub lawful : IsBatch batch
  pub number : batch.number < 2 ^ 32
  pub in_range : All IsInRange batch.requests

-- the byte of the operation in the bytes of a request
abbrev pub operation_at : List ℕ → ℕ
operation_at bytes = slice_index bytes 0

-- the length of its key
abbrev pub key_len_at : List ℕ → ℕ
key_len_at bytes = slice_index bytes 1

-- the length of its value
abbrev pub value_len_at : List ℕ → ℕ
value_len_at bytes = from_le_bytes w16 (drop 2 bytes)

-- what the bytes of a request say
abbrev pub batch_kind : DatagramKind
batch_kind = record {
  magic = batch_magic;
  fixed = 8;
  is_known = λ version bytes. is_operation version (operation_at bytes);
  is_allowed = λ version bytes. nat_lt 0 (key_len_at bytes)
      && nat_le (value_len_at bytes) (longest_value version (operation_at bytes));
  size = λ bytes. 8 + key_len_at bytes + value_len_at bytes;
}
