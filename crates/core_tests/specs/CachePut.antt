-- One put of cache mode, in a partition with one bucket.
use Rattle.std.specs.Prelude.{◌≡◌, ℕ, ◌<◌, [], ◌∷◌}
use Rattle.mica_words.specs.declared.hashing.Hashing.TheVariants.{Fnv1a}
use Rattle.partition_model.specs.declared.options.Mode.TheVariants.{Cache}
use Rattle.partition_model.specs.declared.write.Op.TheVariants.{Put}
use Rattle.partition_model.specs.declared.write.Write.{Write}
use Rattle.partition_model.specs.Write.{write_of}
use Rattle.partition_words.specs.declared.shape.Shape.{Shape}
use Rattle.partition_words.specs.declared.state.OwnerState.{OwnerState}
use Rattle.partition_words.specs.declared.state.Phase.TheVariants.{Marked}
use Rattle.partition_words.specs.OwnerState.{entry_in}
use Rattle.partition_words.specs.Kept.{Kept}

abbrev pub one_bucket : Shape
one_bucket = record { mode = Cache; buckets = 1; spares = 0; words = 1024; wear = 68719476736; hashing = Fnv1a }

-- the put of `a` with `1`
abbrev pub put_of_a : Write
put_of_a = write_of Put (97 ∷ []) (49 ∷ [])

-- The put is marked as the first write, and no entry is stored yet.
pub record IsMarked (o : OwnerState) : Type 0 where
  pub shape : o.shape ≡ one_bucket
  pub phase : o.phase ≡ Marked 0 put_of_a []
  pub empty : (slot : ℕ) → slot < 15 → entry_in o 0 slot ≡ 0
  pub kept : Kept o
