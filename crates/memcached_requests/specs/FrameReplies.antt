-- What is replied to frames.
use Rattle.std.specs.Prelude.{◌≡◌, ◌≤◌, ℕ, ◌==◌, ◌&&◌, Bool, true, false, List, [], length, take, drop, codes, Option, Some, None}
use Rattle.std.specs.Int.{w32, w64, to_be_bytes}
use Rattle.memcached_text.specs.declared.fault.Fault.{Fault}
use Rattle.memcached_text.specs.declared.fault.Fault.TheVariants as faults
use Rattle.memcached_text.specs.declared.item.Item.{Item}
use Rattle.memcached_text.specs.declared.reply.Reply.{Reply}
use Rattle.memcached_text.specs.declared.reply.Reply.TheVariants as replies
use Rattle.memcached_text.specs.Replies as lines
use Rattle.memcached_commands.specs.declared.ask.Says.{Says}
use Rattle.memcached_commands.specs.declared.ask.Says.TheVariants.{Line, Refusal, Stores, Number, Shows, Leases, Nothing}
use Rattle.memcached_frames.specs.declared.opcode.Verb.{Verb}
use Rattle.memcached_frames.specs.declared.opcode.Verb.TheVariants as verbs
use Rattle.memcached_frames.specs.declared.opcode.Opcode.{Opcode}
use Rattle.memcached_frames.specs.declared.frame.Echo.{Echo}
use Rattle.memcached_frames.specs.declared.reply.FrameReply.{FrameReply}
use Rattle.memcached_frames.specs.Opcodes.{opcode_of}
use Rattle.memcached_frames.specs.Replies.{reply_text}
use Rattle.memcached_requests.specs.declared.frame_reply.TheConstants.{NO_ITEM}

-- all went as asked, and no more is told than this
abbrev pub done : List ℕ → ℕ → FrameReply
done value unique = record { status = 0; unique = unique; extras = []; key = []; value = value }

-- it did not: a status, with its words
abbrev pub failed : ℕ → List ℕ → FrameReply
failed status words = record { status = status; unique = 0; extras = []; key = []; value = words }

abbrev pub not_found : FrameReply
not_found = failed 1 (codes "Not found")

abbrev pub exists : FrameReply
exists = failed 2 (codes "Data exists for key.")

-- what is refused
abbrev pub refusal_frame : Fault → FrameReply
refusal_frame faults.Unknown = failed 129 (codes "Unknown command")
refusal_frame faults.TooLarge = failed 3 (codes "Too large.")
refusal_frame faults.NotNumber = failed 6 (codes "Non-numeric server-side value for incr or decr")
refusal_frame _ = failed 4 (codes "Invalid arguments")

-- A store that was not wanted: what it found, by what it wanted. Of a join no more is told than that nothing was stored.
abbrev pub not_stored_frame : Verb → FrameReply
not_stored_frame verbs.Add = exists
not_stored_frame verbs.Replace = not_found
not_stored_frame _ = failed 5 (codes "Not stored.")

-- the name of a version, as a line tells it
abbrev pub version_name : List ℕ
version_name = take 6 (drop 8 (lines.reply_text replies.Version))

abbrev pub line_frame : Verb → Reply → FrameReply
line_frame verb replies.NotStored = not_stored_frame verb
line_frame verb replies.Exists = exists
line_frame verb replies.NotFound = not_found
line_frame verb replies.NoRoom = failed 130 (codes "Out of memory")
line_frame verb replies.NoRoomToCount = failed 130 (codes "Out of memory")
line_frame verb replies.Version = done version_name 0
line_frame verb _ = done [] 0

-- a get that found nothing tells its key where that is wanted, and then no words
abbrev pub missed_frame : Bool → List ℕ → FrameReply
missed_frame true key = record { status = 1; unique = 0; extras = []; key = key; value = [] }
missed_frame false key = not_found

-- A touch shows no value, and a key is shown where that is wanted.
abbrev pub shown_value : Verb → List ℕ → List ℕ
shown_value verbs.Touch value = []
shown_value _ value = value

abbrev pub shown_key : Bool → List ℕ → List ℕ
shown_key true key = key
shown_key false key = []

-- one that found an item
abbrev pub found_frame : Opcode → List ℕ → Item → FrameReply
found_frame opcode key item = record {
  status = 0;
  unique = item.unique;
  extras = to_be_bytes w32 item.flags;
  key = shown_key opcode.named key;
  value = shown_value opcode.verb item.value;
}

-- the number that is told of what was to be gone at once: one that no item has
abbrev pub told_number : Option ℕ → ℕ
told_number None = NO_ITEM
told_number (Some unique) = unique

-- what is told of what was said; frames ask for no lease
unfoldable pub said_frame : Opcode → List ℕ → Says → FrameReply
said_frame opcode key (Line reply) = line_frame opcode.verb reply
said_frame opcode key (Refusal fault) = refusal_frame fault
said_frame opcode key (Stores unique) = done [] (told_number unique)
said_frame opcode key (Number number unique left made) = done (to_be_bytes w64 number) (told_number unique)
said_frame opcode key (Shows item) = found_frame opcode key item
said_frame opcode key (Leases item left wins) = found_frame opcode key item
said_frame opcode key Nothing = missed_frame opcode.named key

-- What a quiet request is not told: that all went as asked, or that a get found nothing. An item that a get found is told.
abbrev pub is_hidden : Says → ℕ → Bool
is_hidden (Shows item) status = false
is_hidden (Leases item left wins) status = false
is_hidden Nothing status = true
is_hidden says status = status == 0

-- as what an opcode is replied to: one that is not carried out as one that asks nothing
abbrev pub opcode_or : Option Opcode → Opcode
opcode_or None = record { verb = verbs.Noop; named = false; quiet = false }
opcode_or (Some opcode) = opcode

abbrev pub told_as : Echo → Opcode
told_as echo = opcode_or (opcode_of echo.opcode)

-- a reply, or nothing where it is not wanted
abbrev pub unless_hidden : Bool → Echo → FrameReply → List ℕ
unless_hidden true echo reply = []
unless_hidden false echo reply = reply_text echo reply

-- what is told of what was said, by an opcode
abbrev pub told_by : Opcode → Echo → List ℕ → Says → List ℕ
told_by opcode echo key says = unless_hidden (is_hidden says (said_frame opcode key says).status && opcode.quiet) echo (said_frame opcode key says)

-- The reply to a frame.
unfoldable pub frame_text : Echo → List ℕ → Says → List ℕ
frame_text echo key says = told_by (told_as echo) echo key says

-- no more than a header and some words
pub record IsShort (reply : FrameReply) : Type 0 where
  pub extras : length reply.extras ≡ 0
  pub key : length reply.key ≡ 0
  pub value : length reply.value ≤ 46

-- one thing that is counted
abbrev pub count_frame : List ℕ → List ℕ → FrameReply
count_frame name value = record { status = 0; unique = 0; extras = []; key = name; value = value }
