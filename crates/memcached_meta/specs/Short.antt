-- How long the replies to meta commands are.
use Rattle.std.specs.Prelude.{ℕ, ◌+◌, List, [], ◌∷◌, length, codes, if◌then◌else◌}
use Rattle.memcached_meta.specs.Flags.{is_flag}

-- the most bytes in which a flag is told, where the word of the key has so many
abbrev pub most_of_flag : ℕ → List ℕ → ℕ
most_of_flag len flag =
    if is_flag (codes "s") flag then 22
    else (if is_flag (codes "t") flag then 22
    else (if is_flag (codes "c") flag then 22
    else (if is_flag (codes "f") flag then 22
    else (if is_flag (codes "k") flag then len + 4
    else (if is_flag (codes "O") flag then 1 + length flag else 0)))))

unfoldable pub most_of_flags : ℕ → List (List ℕ) → ℕ
most_of_flags len [] = 0
most_of_flags len (flag ∷ flags) = most_of_flag len flag + most_of_flags len flags
