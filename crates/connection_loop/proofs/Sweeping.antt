-- What sweeps make of sessions.
use Rattle.std.proofs.Common.{ℕ, Bool}
use Rattle.partition_model.specs.declared.options.Options.{Options}
use Rattle.fronts.specs.Session.{Sessions}
use Rattle.command_answers.specs.Sweeps.{SweepsBy}
use Rattle.connection_loop.specs.Going.{GoesByThese}
use Rattle.connection_loop.proofs.Going.{at_rise}

pub these_sweeps : {options : Options} {is_alone : Bool} {base most : ℕ} {old new : Sessions} {left left_after second : ℕ}
    → (s : SweepsBy options is_alone base second most old left new left_after) → GoesByThese options is_alone old left second s.answers new left_after second
these_sweeps {options} {second = second} s = record { in_order = s.in_order; seconds = at_rise options second s.answers s.seconds; few = s.few }
