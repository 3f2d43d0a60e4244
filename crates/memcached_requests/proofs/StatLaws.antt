-- How long a line of what is counted is.
use Rattle.std.proofs.Common.{◌≡◌, ◌+◌, ◌∷◌, ◌++◌, ℕ, List, length, codes, arith, length-append}
use Rattle.memcached_text.specs.Replies.{stat_text}

pub stat_len : (name value : List ℕ) → length (stat_text name value) ≡ length name + length value + 8
unfolding stat_text
stat_len name value =
    omega (
      arith,
      length-append (codes "STAT " ++ name ++ 32 ∷ value) (codes "\r\n"),
      length-append (codes "STAT " ++ name) (32 ∷ value),
      length-append (codes "STAT ") name,
    )
