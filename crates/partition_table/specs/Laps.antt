-- The laps of the item words.
use Rattle.std.specs.Prelude.{◌≡◌, ℕ, ◌+◌, ◌%◌, ◌^◌, ◌<◌, ◌≤◌, Option, IfSome}
use Rattle.partition_words.specs.declared.shape.Shape.{Shape}
use Rattle.partition_words.specs.Layout.{item_at}

-- The offset lies in the lap that begins here.
pub record BeginsLap (words offset lap : ℕ) : Type 0 where
  pub whole : lap % words ≡ 0
  pub from : lap ≤ offset
  pub below : offset < lap + words

-- If this is the place of the first of eight item words, the others follow it.
abbrev pub BeginsBlock : Shape → ℕ → Option ℕ → Type 0
BeginsBlock shape offset first =
    IfSome first (λ at. (at + 8 < 2 ^ 64) × ((i : ℕ) → i < 8 → at + i ≡ item_at shape (offset + i)))
