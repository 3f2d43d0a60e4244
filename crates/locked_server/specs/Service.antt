-- What a server may serve.
use Rattle.std.specs.Prelude.{◌≡◌, ◌+◌, ◌<◌, ◌≤◌, ℕ, true}
use Rattle.mica_words.specs.Mark.{has_marks}
use Rattle.partition_model.specs.Options.{IsPossible}
use Rattle.locked_front.specs.Plan.{Plan}
use Rattle.server_words.specs.PossiblePorts.{IsPossiblePorts}
use Rattle.server_words.specs.declared.limits.TheConstants.{MOST_FRONTS}
use Rattle.locked_server.specs.declared.service.Service.{Service}

-- each number is in its range, and there is a front, and no more than may be
pub record IsPossibleService (service : Service) : Type 0 where
  pub options : IsPossible service.options
  pub ports : IsPossiblePorts service.ports
  pub some : 1 ≤ service.places + service.ports.fronts
  pub few : service.places + service.ports.fronts ≤ MOST_FRONTS
  -- a flush of a connection is a mark
  pub marks : 0 < service.places → has_marks service.options.hashing ≡ true

-- the partitions of the plan are those that are served, before as many fronts
pub record IsPlanOf (service : Service) (plan : Plan) : Type 0 where
  pub options : service.options ≡ plan.options
  pub fronts : plan.fronts ≡ service.places + service.ports.fronts

-- and they lie under as many locks
pub record IsLockedPlan (service : Service) (plan : Plan) (many : ℕ) : Type 0 where
  pub valid : IsPossible service.options
  pub options : service.options ≡ plan.options
  pub locks : many ≡ service.options.partitions
  pub few : plan.fronts ≤ MOST_FRONTS
