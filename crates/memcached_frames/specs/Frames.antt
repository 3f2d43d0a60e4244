-- What a frame says, and what a client's bytes begin with.
use Rattle.std.specs.Prelude.{ℕ, ◌+◌, ◌-◌, ◌==◌, ◌&&◌, ◌||◌, Bool, List, length, take, drop, nat_lt, Option, Some, None, if◌then◌else◌}
use Rattle.memcached_text.specs.declared.limits.TheConstants.{MAX_KEY_LEN}
use Rattle.memcached_frames.specs.declared.opcode.Verb.{Verb}
use Rattle.memcached_frames.specs.declared.opcode.Verb.TheVariants as verbs
use Rattle.memcached_frames.specs.declared.opcode.Opcode.{Opcode}
use Rattle.memcached_frames.specs.declared.header.TheConstants.{FRAME_LEN}
use Rattle.memcached_frames.specs.declared.header.Header.{Header}
use Rattle.memcached_frames.specs.declared.frame.Echo.{Echo}
use Rattle.memcached_frames.specs.declared.frame.FrameFault.{FrameFault}
use Rattle.memcached_frames.specs.declared.frame.FrameFault.TheVariants.{Unknown, Invalid, TooLarge}
use Rattle.memcached_frames.specs.declared.frame.Frame.{Frame}
use Rattle.memcached_frames.specs.declared.frame.FrameNext.{FrameNext}
use Rattle.memcached_frames.specs.declared.frame.FrameNext.TheVariants.{Whole, Dropped, More, Over}
use Rattle.memcached_frames.specs.Opcodes.{opcode_of, fits_extras, fits_key, has_value}
use Rattle.memcached_frames.specs.Header.{header_in, frame_len}

-- what a reply tells again
abbrev pub echo_of : Header → Echo
echo_of header = record { opcode = header.opcode; opaque = header.opaque }

-- the bytes of a frame's value: what is left of its body behind extras and key
abbrev pub value_len : Header → ℕ
value_len header = header.body_len - header.extras_len - header.key_len

-- what a request says whose body stands at the front of these bytes
abbrev pub frame_in : Opcode → Header → List ℕ → Frame
frame_in opcode header body = record {
  opcode = opcode;
  unique = header.unique;
  extras = take header.extras_len body;
  key = take header.key_len (drop header.extras_len body);
  value = take (value_len header) (drop header.key_len (drop header.extras_len body));
}

-- whether the lengths are such as a verb may have
abbrev pub fits : Verb → Header → Bool
fits verb header = fits_extras verb header.extras_len && fits_key verb header.key_len && (has_value verb || value_len header == 0)

-- a set alone takes the old item away where its value is too long, by whatever number it is guarded
abbrev pub stale_of : Verb → List ℕ → Option (List ℕ)
stale_of verbs.Set key = Some key
stale_of _ key = None

-- a frame that is not carried out: all of it is dropped
abbrev pub dropped : FrameFault → Option (List ℕ) → Header → FrameNext
dropped fault stale header = Dropped fault stale (echo_of header) (frame_len header)

-- One whose lengths are right, with what has come behind its header. Of one whose value is too long no more than the key is awaited.
unfoldable pub frame_by : ℕ → Opcode → Header → List ℕ → FrameNext
frame_by most opcode header body =
    if nat_lt most (value_len header)
    then (if nat_lt (length body) (header.extras_len + header.key_len) then More
    else dropped TooLarge (stale_of opcode.verb (take header.key_len (drop header.extras_len body))) header)
    else (if nat_lt (length body) header.body_len then More
    else Whole (frame_in opcode header body) (echo_of header) (frame_len header))

-- one of an opcode that is carried out, or is not
unfoldable pub frame_of : ℕ → Option Opcode → Header → List ℕ → FrameNext
frame_of most None header body = dropped Unknown None header
frame_of most (Some opcode) header body = if fits opcode.verb header then frame_by most opcode header body else Over Invalid (echo_of header)

-- A header, with what has come behind it. Where its lengths are none that a frame can have, nothing behind it can be read.
unfoldable pub frame_at : ℕ → Header → List ℕ → FrameNext
frame_at most header body =
    if nat_lt header.body_len (header.extras_len + header.key_len) then Over Unknown (echo_of header)
    else (if nat_lt MAX_KEY_LEN header.key_len then Over Invalid (echo_of header)
    else frame_of most (opcode_of header.opcode) header body)

-- What bytes begin with that are a request, where a value may have so many bytes. Its header is the first that stand there.
unfoldable pub frame_next : ℕ → List ℕ → FrameNext
frame_next most bytes = if nat_lt (length bytes) FRAME_LEN then More else frame_at most (header_in (take FRAME_LEN bytes)) (drop FRAME_LEN bytes)
