-- Which list the free blocks of a size stand in.
use Rattle.std.specs.Prelude.{ℕ, ◌+◌, ◌-◌, nat_lt, if◌then◌else◌}
use Rattle.size_classes.specs.Classes.{fine_class_of}

-- Each size below 1,088 has a list of its own. From there on the sizes of a fine class share one.
abbrev pub rank_of : ℕ → ℕ
rank_of words = if nat_lt words 1088 then words - 1 else 1087 + fine_class_of words
