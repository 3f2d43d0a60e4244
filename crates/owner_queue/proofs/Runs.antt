-- Runs of a partition's machine, by the options of its shape.
use Rattle.std.proofs.Common.{List, [], ◌∷◌, ◌++◌, ap, ◌∙◌}
use Rattle.partition_model.specs.declared.options.Options.{Options}
use Rattle.partition_model.specs.History.{History, stamp_in}
use Rattle.partition_model.specs.Run.{RunStep, history_of, IsRunFrom}
use Rattle.partition_words.specs.Shape.{shape_of, options_of}
use Rattle.partition_words.proofs.SameMachine.{same_state, same_may_give}

-- a run of the shape's machine is one of the options'
pub run_as : (options : Options) (history : History) (steps : List RunStep) → IsRunFrom (options_of (shape_of options)) history steps → IsRunFrom options history steps
run_as options history [] run = tt
run_as options history (step ∷ steps) run = (
  same_may_give options history step.write step.outcome run.0,
  run.1 ∙ ap stamp_in (same_state options (history ++ history_of (step ∷ []))),
  run_as options (history ++ history_of (step ∷ [])) steps run.2,
)
