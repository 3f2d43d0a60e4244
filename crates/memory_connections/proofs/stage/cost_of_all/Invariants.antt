use Rattle.std.proofs.Common.{◌≡◌, take}
use Rattle.std.specs.List.{sum_by}
use Rattle.memory_connections.specs.MemoryConnection.{cost_of}
use Rattle.memory_connections.proofs.stage.cost_of_all.Given as goal

abbrev pub invariant-loop-step : goal.invariant-loop-step
invariant-loop-step l = l.total ≡ sum_by cost_of (take l.step-index l.schedule)
