-- Marks, 64 in a word.
use Rattle.std.specs.Prelude.{ℕ, ◌/◌, ◌%◌, List, slice_index_or}
use Rattle.std.specs.Int.{bit_at}

-- 1 where a mark is on
abbrev pub mark_at : List ℕ → ℕ → ℕ
mark_at marks at = bit_at (slice_index_or marks (at / 64) 0) (at % 64)
