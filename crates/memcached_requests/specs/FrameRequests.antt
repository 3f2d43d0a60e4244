-- What frames of the binary protocol want.
use Rattle.std.specs.Prelude.{ℕ, ◌==◌, Bool, true, false, List, [], ◌∷◌, length, drop, nat_lt, nat_le, Option, Some, None, if◌then◌else◌}
use Rattle.std.specs.Int.{w32, w64, from_be_bytes}
use Rattle.memcached_text.specs.declared.command.Wants.{Wants}
use Rattle.memcached_text.specs.declared.command.Wants.TheVariants.{Whatever, Absent, Present, Numbered}
use Rattle.memcached_text.specs.declared.command.Side.{Side}
use Rattle.memcached_text.specs.declared.command.Side.TheVariants.{Front, Back}
use Rattle.memcached_text.specs.declared.command.Direction.{Direction}
use Rattle.memcached_text.specs.declared.command.Direction.TheVariants as directions
use Rattle.memcached_text.specs.declared.fault.Fault.{Fault}
use Rattle.memcached_text.specs.declared.fault.Fault.TheVariants as faults
use Rattle.memcached_text.specs.declared.reply.Reply.TheVariants as replies
use Rattle.memcached_text.specs.declared.lifetime.Lifetime.{Lifetime}
use Rattle.memcached_text.specs.declared.lifetime.Lifetime.TheVariants.{Forever, For, Until}
use Rattle.memcached_text.specs.declared.command.Topic.{Topic}
use Rattle.memcached_text.specs.declared.command.Topic.TheVariants.{Server}
use Rattle.memcached_text.specs.ServerLine.{topic_of}
use Rattle.memcached_text.specs.declared.lifetime.Due.{Due}
use Rattle.memcached_text.specs.declared.lifetime.Due.TheVariants.{Now, After, At}
use Rattle.memcached_commands.specs.declared.ask.Initial.{Initial}
use Rattle.memcached_commands.specs.declared.ask.Ask.{Ask}
use Rattle.memcached_commands.specs.declared.ask.Ask.TheVariants as asks
use Rattle.memcached_commands.specs.declared.ask.Says.TheVariants.{Line, Refusal}
use Rattle.memcached_commands.specs.Asks.{asked}
use Rattle.memcached_frames.specs.declared.opcode.Verb.{Verb}
use Rattle.memcached_frames.specs.declared.opcode.Verb.TheVariants as verbs
use Rattle.memcached_frames.specs.declared.frame.Frame.{Frame}
use Rattle.memcached_frames.specs.declared.frame.FrameFault.{FrameFault}
use Rattle.memcached_frames.specs.declared.frame.FrameFault.TheVariants.{Unknown, Invalid, TooLarge}
use Rattle.memcached_frames.specs.declared.frame.FrameNext.{FrameNext}
use Rattle.memcached_frames.specs.declared.frame.FrameNext.TheVariants as frames
use Rattle.memcached_requests.specs.declared.frame.TheConstants.{MOST_SECONDS, MAKES_NONE}
use Rattle.memcached_requests.specs.declared.request.Request.{Request}
use Rattle.memcached_requests.specs.declared.request.Request.TheVariants.{Keys, Flush, Stats, Said}
use Rattle.memcached_requests.specs.declared.request.Style.TheVariants as styles
use Rattle.memcached_requests.specs.declared.request.Next.{Next}
use Rattle.memcached_requests.specs.declared.request.Next.TheVariants.{Whole, More}
use Rattle.memcached_requests.specs.Requests.{refused}

-- Up to thirty days are counted from the present second, more is a time of day. No number is one below 0, as it is in a line.
abbrev pub lifetime_at : ℕ → Lifetime
lifetime_at number = if number == 0 then Forever else (if nat_le number MOST_SECONDS then For number else Until number)

-- the same of a flush
abbrev pub due_at : ℕ → Due
due_at number = if number == 0 then Now else (if nat_le number MOST_SECONDS then After number else At number)

-- of the extras of a flush, which may be none
abbrev pub due_in : List ℕ → Due
due_in extras = if nat_lt (length extras) 4 then Now else due_at (from_be_bytes w32 extras)

-- the unique number that an item must have: none where it is 0
abbrev pub wanted : ℕ → Option ℕ
wanted unique = if unique == 0 then None else Some unique

-- what a store wants to find: the item of a number, where there is one, whatever else the opcode says
abbrev pub wants_of : Wants → ℕ → Wants
wants_of wants unique = if unique == 0 then wants else Numbered unique

-- what a count begins with, but for the one expiry time that says that nothing is made
abbrev pub initial_of : List ℕ → Option Initial
initial_of extras =
    if from_be_bytes w32 (drop 16 extras) == MAKES_NONE then None
    else Some (record { number = from_be_bytes w64 (drop 8 extras); lifetime = lifetime_at (from_be_bytes w32 (drop 16 extras)) })

-- flags and an expiry time stand in front of the key
abbrev pub store_of : Wants → Frame → Ask
store_of wants frame =
    asks.Store (wants_of wants frame.unique) (from_be_bytes w32 frame.extras) (lifetime_at (from_be_bytes w32 (drop 4 frame.extras))) frame.value

-- what is counted by, what is begun with, and an expiry time
abbrev pub count_of : Direction → Frame → Ask
count_of direction frame = asks.Count direction (from_be_bytes w64 frame.extras) (wanted frame.unique) None (initial_of frame.extras)

abbrev pub join_of : Side → Frame → Ask
join_of side frame = asks.Join side (wanted frame.unique) frame.value

-- an expiry time; a touch is a get whose reply shows no value
abbrev pub touch_of : Frame → Ask
touch_of frame = asks.GetTouch (lifetime_at (from_be_bytes w32 frame.extras))

-- what is asked of a key, by each verb that has one
abbrev pub ask_by : Verb → Frame → Ask
ask_by verbs.Set frame = store_of Whatever frame
ask_by verbs.Add frame = store_of Absent frame
ask_by verbs.Replace frame = store_of Present frame
ask_by verbs.Delete frame = asks.Delete (wanted frame.unique)
ask_by verbs.Up frame = count_of directions.Up frame
ask_by verbs.Down frame = count_of directions.Down frame
ask_by verbs.Append frame = join_of Back frame
ask_by verbs.Prepend frame = join_of Front frame
ask_by verbs.Touch frame = touch_of frame
ask_by verbs.GetTouch frame = touch_of frame
ask_by _ frame = asks.Get

-- what a stat wants by a topic; there may be none of its name
abbrev pub stats_on : Option Topic → Request
stats_on None = Said (Line replies.NotFound)
stats_on (Some topic) = Stats topic

-- what it wants by its key
abbrev pub stats_of : List ℕ → Request
stats_of word = if length word == 0 then Stats Server else stats_on (topic_of word)

-- what a frame of a verb wants
abbrev pub request_by : Verb → Frame → Request
request_by verbs.Quit frame = Said (Line replies.Done)
request_by verbs.Flush frame = Flush (due_in frame.extras)
request_by verbs.Noop frame = Said (Line replies.Noop)
request_by verbs.Version frame = Said (Line replies.Version)
request_by verbs.Stat frame = stats_of frame.key
request_by verb frame = Keys (asked (ask_by verb frame) frame.key ∷ [])

-- What a frame wants. What of it is told, and what is not, is said by its opcode.
abbrev pub request_in : Frame → Request
request_in frame = request_by frame.opcode.verb frame

abbrev pub is_quit : Verb → Bool
is_quit verbs.Quit = true
is_quit _ = false

abbrev pub fault_of : FrameFault → Fault
fault_of Unknown = faults.Unknown
fault_of Invalid = faults.Format
fault_of TooLarge = faults.TooLarge

-- What bytes begin with that are a frame. Lengths that contradict each other end the connection.
abbrev pub of_frame : FrameNext → Next
of_frame (frames.Whole frame echo len) = Whole (request_in frame) (styles.Frame echo) len (is_quit frame.opcode.verb)
of_frame (frames.Dropped fault stale echo len) = Whole (refused (fault_of fault) stale) (styles.Frame echo) len false
of_frame frames.More = More
of_frame (frames.Over fault echo) = Whole (Said (Refusal (fault_of fault))) (styles.Frame echo) 0 true
