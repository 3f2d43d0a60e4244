-- What a partition's calls make of its owner's state.
use Rattle.std.specs.Prelude.{◌≡◌, ◌∷◌, [], ◌++◌, if◌then◌else◌}
use Rattle.partition_model.specs.declared.write.Write.{Write}
use Rattle.partition_model.specs.declared.write.Outcome.{Outcome}
use Rattle.partition_model.specs.Write.{is_accepted}
use Rattle.partition_model.specs.History.{MayGive}
use Rattle.partition_words.specs.declared.state.OwnerState.{OwnerState}
use Rattle.partition_words.specs.declared.state.Phase.TheVariants.{Idle}
use Rattle.partition_words.specs.OwnerState.{options_in}

-- One step of the machine. An accepted write is gained, and beside it words alone may change. A refused
-- one changes nothing.
pub record IsOwnerStep (old new : OwnerState) (write : Write) (outcome : Outcome) : Type 0 where
  pub allowed : MayGive (options_in old) old.history write outcome
  pub gained : new ≡ (if is_accepted outcome
      then record old { words = new.words; history = old.history ++ write ∷ [] }
      else old)
  pub idle : new.phase ≡ Idle
