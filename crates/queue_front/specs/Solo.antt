-- A front that is alone before its partitions.
use Rattle.std.specs.Prelude.{◌≡◌, ◌<◌, length, ◌++◌, ◌∷◌, [], ℕ, List, slice_get, slice_set, Option, Some, None}
use Rattle.partition_model.specs.declared.options.Options.{Options}
use Rattle.partition_model.specs.History.{History, MayGive, stamp_of}
use Rattle.partition_model.specs.Run.{RunStep, history_of}
use Rattle.fronts.specs.Session.{Session, Sessions}

-- the options, and each partition's history
pub record Solo : Type 0 where
  pub options : Options
  pub histories : List History

abbrev pub history_or_none : Option History → History
history_or_none None = []
history_or_none (Some history) = history

-- the history of a partition
abbrev pub history_at : List History → ℕ → History
history_at histories p = history_or_none (slice_get histories p)

-- all that was written was seen, and had ended
abbrev pub alone_with : Options → History → Session
alone_with options history = record { seen = history; done = history; last = stamp_of options history; told = None }

abbrev pub sessions_in : Solo → Sessions
sessions_in solo = λ p. alone_with solo.options (history_at solo.histories p)

-- no partition has a history yet
pub record IsNewSolo (options : Options) (solo : Solo) : Type 0 where
  pub options_are : solo.options ≡ options
  pub none : (p : ℕ) → history_at solo.histories p ≡ []

-- a partition took one step of its machine, and no other changed
pub record StepsPartition (old : Solo) (p : ℕ) (step : RunStep) (new : Solo) : Type 0 where
  pub here : p < length old.histories
  pub may : MayGive old.options (history_at old.histories p) step.write step.outcome
  pub stamped : step.stamp ≡ stamp_of old.options (history_at old.histories p ++ history_of (step ∷ []))
  pub gained : new ≡ record old { histories = slice_set old.histories p (history_at old.histories p ++ history_of (step ∷ [])) }
