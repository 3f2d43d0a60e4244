-- What a client's bytes begin with, in whatever protocol.
use Rattle.std.specs.Prelude.{ℕ, ◌==◌, Bool, false, List, [], ◌∷◌, Option, Some, None, if◌then◌else◌}
use Rattle.memcached_text.specs.declared.limits.TheConstants.{MAX_TEXT_LEN}
use Rattle.memcached_text.specs.Next as lines
use Rattle.memcached_frames.specs.declared.header.TheConstants.{REQUEST}
use Rattle.memcached_frames.specs.Frames.{frame_next}
use Rattle.memcached_meta.specs.declared.next.MetaNext.{MetaNext}
use Rattle.memcached_meta.specs.Next.{next_meta}
use Rattle.memcached_requests.specs.declared.request.Next.{Next}
use Rattle.memcached_requests.specs.Lines.{of_line}
use Rattle.memcached_requests.specs.FrameRequests.{of_frame}
use Rattle.memcached_requests.specs.MetaRequests.{of_meta}

-- with its byte no line begins that is a command
abbrev pub is_frame : List ℕ → Bool
is_frame [] = false
is_frame (byte ∷ bytes) = byte == REQUEST

-- the meta command that the bytes begin with, or what else stands in their line
abbrev pub of_text : List ℕ → Option MetaNext → Next
of_text bytes None = of_line (lines.next_of bytes)
of_text bytes (Some next) = of_meta next

-- No state is kept: each command stands in the protocol of its first byte.
unfoldable pub next_of : List ℕ → Next
next_of bytes = if is_frame bytes then of_frame (frame_next MAX_TEXT_LEN bytes) else of_text bytes (next_meta bytes)
