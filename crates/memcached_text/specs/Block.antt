-- The block of a value, behind its line.
use Rattle.std.specs.Prelude.{ℕ, ◌+◌, List, length, take, drop, nat_lt, nat_eq, codes, if◌then◌else◌}
use Rattle.std.specs.List.{starts_with}
use Rattle.memcached_text.specs.declared.block.TheConstants.{END_LEN}
use Rattle.memcached_text.specs.declared.block.Block.{Block}
use Rattle.memcached_text.specs.declared.block.Block.TheVariants.{Waiting, Bad, Whole}

-- the block of a value of so many bytes: all of it must have come, and it must end where its line says
unfoldable pub block_at : ℕ → List ℕ → Block
block_at len bytes =
    if nat_lt (length bytes) (len + END_LEN) then Waiting
    else (if starts_with nat_eq (drop len bytes) (codes "\r\n") then Whole (take len bytes) else Bad)
