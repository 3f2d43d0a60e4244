-- Requests that are taken from the bytes of their batch one after another.
use Rattle.std.specs.Prelude.{ℕ, List}
use Rattle.batch_packets.specs.declared.batch.Request.{Request}
use Rattle.batch_packets.specs.Datagram.{SpellsItems}
use Rattle.batch_packets.specs.BatchGrammar.{IsRequest, IsInRange, request_text}

-- the requests of a batch that are still to be taken: their version, and their bytes
pub record Remaining : Type 0 where
  pub version : ℕ
  pub bytes : List ℕ

-- these requests are left
abbrev pub HasLeft : Remaining → List Request → Type 0
HasLeft unread requests =
    SpellsItems request_text IsRequest IsInRange unread.version unread.bytes requests
