-- The cache machine as contracts see it: its options and its history of accepted writes.
use Rattle.std.specs.Prelude.{◌≡◌, List, [], ◌∷◌, ◌++◌, if◌then◌else◌}
use Rattle.partition_model.specs.declared.options.Options.{Options}
use Rattle.partition_model.specs.declared.write.Write.{Write}
use Rattle.partition_model.specs.declared.write.Outcome.{Outcome}
use Rattle.partition_model.specs.Write.{is_accepted}
use Rattle.partition_model.specs.History.{IsStep, state_of}

pub record Logged : Type 0 where
  pub options : Options
  pub history : List Write

-- a machine before its first write
abbrev pub new_log : Options → Logged
new_log options = record { options = options; history = [] }

-- One step. The history grows by the write where it is accepted, and else stays.
pub record IsLoggedStep (old : Logged) (write : Write) (outcome : Outcome) (new : Logged) : Type 0 where
  pub options : new.options ≡ old.options
  pub history : new.history ≡ (if is_accepted outcome then old.history ++ write ∷ [] else old.history)
  pub step : IsStep old.options (state_of old.options old.history) write outcome (state_of new.options new.history)
