-- One accepted write, from a state between writes to the next one.
use Rattle.std.specs.Prelude.{◌≡◌, ℕ, ◌<◌, Bool, ◌||◌, nat_le, ◌∷◌, [], ◌++◌, length}
use Rattle.mica_words.specs.Stamp.{tail_of}
use Rattle.partition_model.specs.declared.options.Mode.TheVariants.{Cache}
use Rattle.partition_model.specs.declared.write.Write.{Write}
use Rattle.partition_model.specs.History.{stamp_of}
use Rattle.partition_model.specs.Limits.{is_at_end, last_tail}
use Rattle.partition_words.specs.declared.state.OwnerState.{OwnerState}
use Rattle.partition_words.specs.declared.state.Phase.TheVariants.{Idle}
use Rattle.partition_words.specs.declared.event.Event.TheVariants.{Begins, Marks}
use Rattle.partition_words.specs.Events.{after}
use Rattle.partition_words.specs.OwnerState.{options_in}

-- as many writes were accepted as the partition may bear, or its log has come to its end
abbrev pub is_worn : OwnerState → Bool
is_worn o = nat_le o.shape.wear (length o.history) || is_at_end (stamp_of (options_in o) o.history)

-- a partition in cache mode between writes, which may bear one more and has room for its item
pub record MayWrite (o : OwnerState) : Type 0 where
  pub idle : o.phase ≡ Idle
  pub cached : o.shape.mode ≡ Cache
  pub not_worn : length o.history < o.shape.wear
  pub has_room : tail_of (stamp_of (options_in o) o.history) < last_tail

-- the history gains the write, and beside it words alone change
abbrev pub Gains : OwnerState → OwnerState → Write → Type 0
Gains o new write = new ≡ record o { words = new.words; history = o.history ++ write ∷ [] }

-- the state once the write is begun in the bucket and marked by the stamp
abbrev pub marked_with : OwnerState → ℕ → Write → ℕ → OwnerState
marked_with o b write stamp = after (Marks write stamp) (after (Begins b) o)
