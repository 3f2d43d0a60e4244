-- Where the bytes of a connection lie.
use Rattle.std.specs.Prelude.{ℕ, List}
use Rattle.connection_loop.specs.declared.look.Lying.{Lying}
use Rattle.connection_loop.specs.declared.look.Lying.TheVariants.{Room, Own}

-- the bytes, wherever they lie
abbrev pub bytes_at : Lying → List ℕ
bytes_at (Room bytes) = bytes.now
bytes_at (Own kept) = kept
