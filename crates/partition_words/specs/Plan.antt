-- What a plan lays down: the owner's state when each load of a reader happens, and what the load finds then.
use Rattle.std.specs.Prelude.{◌≡◌, ℕ, zero, suc, ◌+◌, ◌-◌, ◌<◌, List, length, take, slice_index, get_or, IfSome}
use Rattle.partition_model.specs.History.{History}
use Rattle.partition_words.specs.declared.state.OwnerState.{OwnerState}
use Rattle.partition_words.specs.declared.state.Phase.TheVariants.{Idle}
use Rattle.partition_words.specs.declared.reader.ReaderState.{ReaderState}
use Rattle.partition_words.specs.declared.reading.Plan.{Plan}
use Rattle.partition_words.specs.OwnerState.{as_made, epoch_in}
use Rattle.partition_words.specs.Events.{plays}
use Rattle.partition_words.specs.Kept.{Kept}

-- How many events have been played when the load of this number happens, from 1: past the end of the cuts the
-- last one counts.
abbrev pub cut_at : List ℕ → ℕ → ℕ
cut_at cuts zero = 0
cut_at cuts (suc i) = get_or cuts i (slice_index cuts (length cuts - 1))

-- the owner's state when the load of this number happens
abbrev pub owner_at : Plan → ℕ → OwnerState
owner_at plan n = plays (take (cut_at plan.cuts n) plan.events) (as_made plan.shape)

-- What the next load finds, by a plan

-- the owner's state then
abbrev pub owner_found : Plan → ReaderState → OwnerState
owner_found plan r = owner_at plan (r.loads + 1)

-- the bucket's epoch
pub record FindsEpoch (r : ReaderState) (b n : ℕ) (plan : Plan) : Type 0 where
  pub kept : Kept (owner_found plan r)
  pub shape : (owner_found plan r).shape ≡ r.shape
  pub epoch : n ≡ epoch_in (owner_found plan r) b

-- the epoch of the open try's bucket
abbrev pub FindsLastEpoch : ReaderState → ℕ → Plan → Type 0
FindsLastEpoch r n plan = IfSome r.current (λ t. n ≡ epoch_in (owner_found plan r) t.bucket)

-- the history that the reader finds at its next load
abbrev pub FindsHistory : ReaderState → History → Plan → Type 0
FindsHistory r history plan = history ≡ (owner_found plan r).history

-- after so many loads the owner's state is this one at each load to come, and no write is begun in it
pub record Rests (plan : Plan) (loads : ℕ) (o : OwnerState) : Type 0 where
  pub still : (n : ℕ) → loads < n → owner_at plan n ≡ o
  pub idle : o.phase ≡ Idle
