-- Lists whose elements are changed.
use Rattle.std.specs.Prelude.{◌≡◌, ℕ, List, length, slice_get, Some}

-- each element of a list is so changed
pub record Each {X : Type 0} (R : ℕ → X → X → Type 0) (olds news : List X) : Type 0 where
  pub many : length news ≡ length olds
  pub each : (i : ℕ) (old new : X) → slice_get olds i ≡ Some old → slice_get news i ≡ Some new → R i old new
