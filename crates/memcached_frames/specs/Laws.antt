-- What a client of frames may rely on.
use Rattle.std.specs.Prelude.{◌≡◌, ◌≢◌, ⊤, ℕ, ◌+◌, ◌<◌, List, ◌++◌, length, take}
use Rattle.memcached_text.specs.declared.limits.TheConstants.{MAX_KEY_LEN}
use Rattle.memcached_frames.specs.declared.header.TheConstants.{FRAME_LEN}
use Rattle.memcached_frames.specs.declared.opcode.TheConstants.{MOST_EXTRAS}
use Rattle.memcached_frames.specs.declared.frame.FrameNext.{FrameNext}
use Rattle.memcached_frames.specs.declared.frame.FrameNext.TheVariants.{Whole, Dropped, More, Over}
use Rattle.memcached_frames.specs.Header.{header_in, frame_len}
use Rattle.memcached_frames.specs.Frames.{frame_next}

-- What bytes begin with stays so whatever follows. So it does not matter in which pieces they come.
abbrev pub FramesStay : Type 0
FramesStay = (most : ℕ) (bytes more : List ℕ) → frame_next most bytes ≢ More → frame_next most (bytes ++ more) ≡ frame_next most bytes

-- what takes or drops just so many bytes, or waits, or ends the connection
abbrev pub TakesFrame : ℕ → FrameNext → Type 0
TakesFrame len (Whole frame echo taken) = taken ≡ len
TakesFrame len (Dropped fault stale echo taken) = taken ≡ len
TakesFrame len More = ⊤
TakesFrame len (Over fault echo) = ⊤

-- A connection keeps its place: a frame is taken whole, whatever its opcode, so no byte of one is read as the beginning of another.
abbrev pub KeepsFrames : Type 0
KeepsFrames = (most : ℕ) (bytes : List ℕ) → TakesFrame (frame_len (header_in (take FRAME_LEN bytes))) (frame_next most bytes)

-- one that ends the connection
abbrev pub IsOver : FrameNext → Type 0
IsOver (Over fault echo) = ⊤
IsOver _ = ⊥

-- A connection that is to end does so as soon as the header has come: no body is awaited.
abbrev pub EndsAtOnce : Type 0
EndsAtOnce = (most : ℕ) (bytes more : List ℕ) → length bytes ≡ FRAME_LEN → IsOver (frame_next most (bytes ++ more)) → frame_next most bytes ≡ frame_next most (bytes ++ more)

-- Bytes that wait are fewer than a frame whose extras, key and value are as long as they may be.
abbrev pub FramesWait : Type 0
FramesWait = (most : ℕ) (bytes : List ℕ) → frame_next most bytes ≡ More → length bytes < FRAME_LEN + MOST_EXTRAS + MAX_KEY_LEN + most
