-- Runs of the machine, one behind another.
use Rattle.std.proofs.Common.{◌≡◌, List, [], ◌∷◌, ◌++◌, sym, subst, append-nil, arith}
use Rattle.std.proofs.lemmas.List.Elements.{filter_map-append}
use Rattle.std.proofs.lemmas.Grind.{common_steps}
use Rattle.partition_model.specs.declared.options.Options.{Options}
use Rattle.partition_model.specs.History.{History}
use Rattle.partition_model.specs.Run.{RunStep, accepted_write, history_of, IsRunFrom}

pub history-append : (s t : List RunStep) → history_of (s ++ t) ≡ history_of s ++ history_of t
history-append s t = filter_map-append accepted_write s t

pub history_cons : (step : RunStep) (later : List RunStep) → history_of (step ∷ []) ++ history_of later ≡ history_of (step ∷ later)
history_cons step later = sym (history-append (step ∷ []) later)

-- a run goes on where one ends
pub run-append : (options : Options) (history : History) (s t : List RunStep) → IsRunFrom options history s → IsRunFrom options (history ++ history_of s) t → IsRunFrom options history (s ++ t)
run-append options history [] t one two = subst (λ h. IsRunFrom options h t) (append-nil history) two
run-append options history (step ∷ s) t one two = grind (arith, common_steps, run-append options (history ++ history_of (step ∷ [])) s t one.2)
