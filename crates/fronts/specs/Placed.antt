-- The steps of a partition's machine, each with the front that it answers.
use Rattle.std.specs.Prelude.{ℕ, ◌==◌, List, map, Some, None, if◌then◌else◌}
use Rattle.std.specs.List.{filter_map}
use Rattle.partition_model.specs.History.{History}
use Rattle.partition_model.specs.Run.{RunStep, history_of}

-- a step of a partition's machine, and the front whose write it answers
pub record Placed : Type 0 where
  pub front : ℕ
  pub step : RunStep

-- the steps of one front
abbrev pub steps_by : ℕ → List Placed → List RunStep
steps_by front placed = filter_map (λ q. if q.front == front then Some q.step else None) placed

-- the steps without the fronts that they are of
abbrev pub steps_in : List Placed → List RunStep
steps_in placed = map (λ q. q.step) placed

-- the history of a partition: the accepted writes of all fronts, in the order of their stamps
abbrev pub history_in : List Placed → History
history_in placed = history_of (steps_in placed)
