-- A request, what was answered to it, and its reply.
use Rattle.std.specs.Prelude.{◌≡◌, ℕ, Bool, List, [], length, map, nat_lt, Option, Some, None, is_some, if◌then◌else◌}
use Rattle.partition_model.specs.declared.write.Op.TheVariants.{Put as PutOp, Del as DelOp, Add as AddOp, Touch as TouchOp}
use Rattle.partition_model.specs.declared.write.Outcome.{Outcome}
use Rattle.partition_model.specs.declared.write.Outcome.TheVariants.{Stored, Deleted, Absent, Touched, FullSpare, FullBlock, Worn, Exists}
use Rattle.partition_model.specs.declared.write.Write.{Write}
use Rattle.partition_model.specs.Write.{write_of}
use Rattle.batch_packets.specs.Datagram.{max_value_len}
use Rattle.batch_packets.specs.declared.batch.Want.{Want}
use Rattle.batch_packets.specs.declared.batch.Want.TheVariants.{Get, Put, Del, Add, Touch}
use Rattle.batch_packets.specs.declared.batch.Request.{Request}
use Rattle.batch_packets.specs.declared.status.Status.{Status}
use Rattle.batch_packets.specs.declared.status.Status.TheVariants as status
use Rattle.batch_packets.specs.declared.replies.Reply.{Reply}
use Rattle.fronts.specs.Answered.{Answered, wrote, got, changed, kept}

-- What a request asks

abbrev pub write_by : Want → List ℕ → List ℕ → Option Write
write_by Get key value = None
write_by Put key value = Some (write_of PutOp key value)
write_by Del key value = Some (write_of DelOp key value)
write_by Add key value = Some (write_of AddOp key value)
write_by Touch key value = Some (write_of TouchOp key value)

-- the write of a request, where it is no get
abbrev pub write_in : Request → Option Write
write_in request = write_by request.want request.key request.value

-- how many writes a request is
abbrev pub writes_of_one : Request → ℕ
writes_of_one request = if is_some (write_in request) then 1 else 0

-- It is what the request asks that was answered. None asks for a look.
abbrev pub Asks : Request → Answered → Type 0
Asks request (wrote step) = write_in request ≡ Some step.write
Asks request (got key stamp value) = (write_in request ≡ None) × (key ≡ request.key)
Asks request (changed step look) = ⊥
Asks request (kept key stamp look) = ⊥

-- What is replied

-- the status of a write's reply; the last two are of an add and a touch, which the second version alone has
abbrev pub status_of : Outcome → Status
status_of Stored = status.Stored
status_of Deleted = status.Deleted
status_of Absent = status.Absent
status_of FullSpare = status.FullSpare
status_of FullBlock = status.FullBlock
status_of Worn = status.Worn
status_of Exists = status.Exists
status_of Touched = status.Touched

-- the reply to a write
abbrev pub write_reply : ℕ → Outcome → ℕ → Reply
write_reply ticket outcome stamp = record { status = status_of outcome; ticket = ticket; stamp = stamp; value = [] }

-- whether a value is too long for the replies of a version
abbrev pub is_too_long : ℕ → List ℕ → Bool
is_too_long version value = nat_lt (max_value_len version) (length value)

-- The reply to a get, in a version, where the key has this value or none. A hit of a value that is too long has a status of its own.
abbrev pub get_reply : ℕ → ℕ → ℕ → Option (List ℕ) → Reply
get_reply version ticket stamp None = record { status = status.Miss; ticket = ticket; stamp = stamp; value = [] }
get_reply version ticket stamp (Some value) = record {
  status = if is_too_long version value then status.LongHit else status.Hit;
  ticket = ticket;
  stamp = stamp;
  value = if is_too_long version value then [] else value;
}

-- the reply to bytes that are no batch
abbrev pub bad_batch_reply : Reply
bad_batch_reply = record { status = status.BadBatch; ticket = 0; stamp = 0; value = [] }

-- the reply of a version, with this ticket
abbrev pub reply_to : ℕ → ℕ → Answered → Reply
reply_to version ticket (wrote step) = write_reply ticket step.outcome step.stamp
reply_to version ticket (got key stamp value) = get_reply version ticket stamp value
reply_to version ticket (changed step look) = write_reply ticket step.outcome step.stamp
reply_to version ticket (kept key stamp look) = get_reply version ticket stamp look.value

-- a request of a batch of this version, and what was answered to it
pub record Turn : Type 0 where
  pub version : ℕ
  pub request : Request
  pub answered : Answered

abbrev pub reply_of : Turn → Reply
reply_of turn = reply_to turn.version turn.request.ticket turn.answered

abbrev pub answers_in : List Turn → List Answered
answers_in turns = map (λ t. t.answered) turns
