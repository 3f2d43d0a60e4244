-- Frames whose parts have the lengths that their verb may have.
use Rattle.std.specs.Prelude.{◌≡◌, ⊤, true, ℕ, ◌<◌, ◌≤◌, List, length, Option, Some, None}
use Rattle.memcached_text.specs.declared.limits.TheConstants.{MAX_KEY_LEN}
use Rattle.memcached_frames.specs.declared.frame.Frame.{Frame}
use Rattle.memcached_frames.specs.declared.frame.FrameNext.{FrameNext}
use Rattle.memcached_frames.specs.declared.frame.FrameNext.TheVariants.{Whole, Dropped}
use Rattle.memcached_frames.specs.Opcodes.{fits_extras, fits_key}

-- extras and a key as its verb has them, and a value of so many bytes at most
pub record IsFitFrame (most : ℕ) (frame : Frame) : Type 0 where
  pub extras : fits_extras frame.opcode.verb (length frame.extras) ≡ true
  pub key : fits_key frame.opcode.verb (length frame.key) ≡ true
  pub short : length frame.key ≤ MAX_KEY_LEN
  pub value : length frame.value ≤ most

-- a key whose item is to go can be an item's
abbrev pub IsStale : Option (List ℕ) → Type 0
IsStale None = ⊤
IsStale (Some key) = (0 < length key) × (length key ≤ MAX_KEY_LEN)

abbrev pub IsFitNext : ℕ → FrameNext → Type 0
IsFitNext most (Whole frame echo len) = IsFitFrame most frame
IsFitNext most (Dropped fault stale echo len) = IsStale stale
IsFitNext most _ = ⊤
