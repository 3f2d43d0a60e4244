-- What a client of any protocol may rely on.
use Rattle.std.specs.Prelude.{◌≡◌, ◌≢◌, ⊤, ℕ, ◌<◌, false, List, [], ◌∷◌, ◌++◌, length, drop, Option, Some, None}
use Rattle.std.specs.Int.{w32, w64, from_be_bytes}
use Rattle.memcached_text.specs.declared.limits.TheConstants.{MAX_WAITING_LEN}
use Rattle.memcached_text.specs.declared.command.Command.{Command}
use Rattle.memcached_text.specs.declared.command.Command.TheVariants as commands
use Rattle.memcached_text.specs.declared.command.Direction.TheVariants as directions
use Rattle.memcached_text.specs.declared.command.Side.TheVariants.{Front, Back}
use Rattle.memcached_text.specs.declared.command.Wants.TheVariants.{Whatever, Absent, Present}
use Rattle.memcached_text.specs.declared.lifetime.Lifetime.TheVariants.{Forever}
use Rattle.memcached_commands.specs.declared.ask.Says.{Says}
use Rattle.memcached_frames.specs.declared.opcode.Verb.{Verb}
use Rattle.memcached_frames.specs.declared.opcode.Verb.TheVariants as verbs
use Rattle.memcached_frames.specs.declared.frame.Echo.{Echo}
use Rattle.memcached_frames.specs.declared.frame.Frame.{Frame}
use Rattle.memcached_frames.specs.Replies.{reply_text}
use Rattle.memcached_requests.specs.declared.request.Request.{Request}
use Rattle.memcached_requests.specs.declared.request.Next.TheVariants.{More}
use Rattle.memcached_requests.specs.Requests.{is_last, len_of}
use Rattle.memcached_meta.specs.declared.line.Verb.TheVariants as metas
use Rattle.memcached_requests.specs.Lines.{request_of}
use Rattle.memcached_requests.specs.MetaRequests.{request_of as meta_request}
use Rattle.memcached_requests.specs.FrameRequests.{lifetime_at, due_in, initial_of, request_in}
use Rattle.memcached_requests.specs.FrameReplies.{said_frame, told_as, frame_text}
use Rattle.memcached_requests.specs.Next.{next_of}

-- What bytes begin with stays so whatever follows. So it does not matter in which pieces they come.
abbrev pub NextStays : Type 0
NextStays = (bytes more : List ℕ) → next_of bytes ≢ More → next_of (bytes ++ more) ≡ next_of bytes

-- What does not end the connection takes some bytes.
abbrev pub TakesSome : Type 0
TakesSome = (bytes : List ℕ) → next_of bytes ≢ More → is_last (next_of bytes) ≡ false → 0 < len_of (next_of bytes)

-- Bytes that wait are fewer than the longest request.
abbrev pub NextWaits : Type 0
NextWaits = (bytes : List ℕ) → next_of bytes ≡ More → length bytes < MAX_WAITING_LEN

-- The line that says the same as a frame which tells no unique number, where there is one.
abbrev pub line_for : Verb → Frame → Option Command
line_for verbs.Get frame = Some (commands.Get (frame.key ∷ []) false None)
line_for verbs.Set frame = Some (commands.Store Whatever frame.key (from_be_bytes w32 frame.extras) (lifetime_at (from_be_bytes w32 (drop 4 frame.extras))) frame.value false)
line_for verbs.Add frame = Some (commands.Store Absent frame.key (from_be_bytes w32 frame.extras) (lifetime_at (from_be_bytes w32 (drop 4 frame.extras))) frame.value false)
line_for verbs.Replace frame = Some (commands.Store Present frame.key (from_be_bytes w32 frame.extras) (lifetime_at (from_be_bytes w32 (drop 4 frame.extras))) frame.value false)
line_for verbs.Delete frame = Some (commands.Delete frame.key false)
line_for verbs.Up frame = Some (commands.Count directions.Up frame.key (from_be_bytes w64 frame.extras) false)
line_for verbs.Down frame = Some (commands.Count directions.Down frame.key (from_be_bytes w64 frame.extras) false)
line_for verbs.Flush frame = Some (commands.Flush (due_in frame.extras) false)
line_for verbs.Noop frame = Some commands.Noop
line_for verbs.Version frame = Some commands.Version
line_for verbs.Append frame = Some (commands.Join Back frame.key frame.value false)
line_for verbs.Prepend frame = Some (commands.Join Front frame.key frame.value false)
line_for verbs.GetTouch frame = Some (commands.Get (frame.key ∷ []) false (Some (lifetime_at (from_be_bytes w32 frame.extras))))
line_for verbs.Quit frame = Some commands.Quit
line_for _ frame = None

abbrev pub IsAlike : Request → Option Command → Type 0
IsAlike request None = ⊤
IsAlike request (Some command) = request ≡ request_of command

-- A frame wants what its line wants, where it tells no unique number, and a count of what is not there makes nothing. So what is proved of what lines ask holds of frames.
abbrev pub AsksAlike : Type 0
AsksAlike = (frame : Frame) → frame.unique ≡ 0 → initial_of frame.extras ≡ None → IsAlike (request_in frame) (line_for frame.opcode.verb frame)

-- A meta command of no flags wants what its line wants: `ms` as a `set` with flags 0 and for ever, `md` as a `delete`, `ma` as an `incr` by 1.
pub record MetaAlike (word value : List ℕ) : Type 0 where
  pub store : meta_request (record { verb = metas.Store; word = word; flags = []; value = value }) ≡ request_of (commands.Store Whatever word 0 Forever value false)
  pub delete : meta_request (record { verb = metas.Delete; word = word; flags = []; value = [] }) ≡ request_of (commands.Delete word false)
  pub count : meta_request (record { verb = metas.Count; word = word; flags = []; value = [] }) ≡ request_of (commands.Count directions.Up word 1 false)

abbrev pub MetaAsksAlike : Type 0
MetaAsksAlike = (word value : List ℕ) → MetaAlike word value

-- What goes wrong is told to each, quiet or not. So a client that hears nothing up to the reply of its noop knows that all went as it asked.
abbrev pub NeverHidesFaults : Type 0
NeverHidesFaults = (echo : Echo) (key : List ℕ) (says : Says) → 1 < (said_frame (told_as echo) key says).status
    → frame_text echo key says ≡ reply_text echo (said_frame (told_as echo) key says)

-- A frame that is not quiet has one reply.
abbrev pub IsTold : Type 0
IsTold = (echo : Echo) (key : List ℕ) (says : Says) → (told_as echo).quiet ≡ false → frame_text echo key says ≡ reply_text echo (said_frame (told_as echo) key says)
