-- Runs of a partition's machine: writes with what was replied to them.
use Rattle.std.specs.Prelude.{◌≡◌, ℕ, List, [], ◌∷◌, ◌++◌, Option, Some, None, if◌then◌else◌}
use Rattle.std.specs.List.{filter_map}
use Rattle.partition_model.specs.declared.options.Options.{Options}
use Rattle.partition_model.specs.declared.write.Write.{Write}
use Rattle.partition_model.specs.declared.write.Outcome.{Outcome}
use Rattle.partition_model.specs.Write.{is_accepted}
use Rattle.partition_model.specs.History.{History, MayGive, stamp_of, answer_of}

-- a write, the outcome that was replied, and the stamp after it
pub record RunStep : Type 0 where
  pub write : Write
  pub outcome : Outcome
  pub stamp : ℕ

-- the write of a step, if it was accepted
abbrev pub accepted_write : RunStep → Option Write
accepted_write step = if is_accepted step.outcome then Some step.write else None

-- the history of the steps: their accepted writes
abbrev pub history_of : List RunStep → History
history_of steps = filter_map accepted_write steps

-- Each reply is one that the machine may give after the history and the steps before it, and the stamp is the machine's after the write.
abbrev pub IsRunFrom : Options → History → List RunStep → Type 0
IsRunFrom options history [] = Unit {0}
IsRunFrom options history (step ∷ later) =
    MayGive options history step.write step.outcome
    × (step.stamp ≡ stamp_of options (history ++ history_of (step ∷ [])))
    × IsRunFrom options (history ++ history_of (step ∷ [])) later

-- a run of the machine from its start
abbrev pub IsRun : Options → List RunStep → Type 0
IsRun options steps = IsRunFrom options [] steps

-- the stamp and the value, if any, are those that the machine has for the key after the history
abbrev pub IsAnswerAt : Options → History → List ℕ → ℕ → Option (List ℕ) → Type 0
IsAnswerAt options history key stamp value = (stamp ≡ stamp_of options history) × (value ≡ answer_of options history key)
