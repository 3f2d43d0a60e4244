-- What an owner gains with one write.
use Rattle.std.proofs.Common.{◌≡◌, ℕ, List, [], ◌∷◌, ◌++◌, Some, None, true, false, cond, sym, ap, ◌∙◌, subst, append-nil}
use Rattle.std.specs.List.{cons_option}
use Rattle.partition_model.specs.declared.write.Write.{Write}
use Rattle.partition_model.specs.declared.write.Outcome.{Outcome}
use Rattle.partition_model.specs.Write.{is_accepted}
use Rattle.partition_model.specs.History.{History}
use Rattle.partition_model.specs.Run.{history_of}
use Rattle.partition_words.specs.declared.state.OwnerState.{OwnerState}
use Rattle.partition_words.specs.OwnerStep.{IsOwnerStep}

-- an owner after a step has gained what the step gives a run
pub step_gains : (mid new : OwnerState) (write : Write) (outcome : Outcome) (stamp : ℕ) → IsOwnerStep mid new write outcome
    → new ≡ record mid { words = new.words; history = mid.history ++ history_of (record { write = write; outcome = outcome; stamp = stamp } ∷ []) }
step_gains mid new write outcome stamp step =
    elim (is_accepted outcome) as (λ b. new ≡ cond b (record mid { words = new.words; history = mid.history ++ write ∷ [] }) mid
    → new ≡ record mid { words = new.words; history = mid.history ++ cons_option (cond b (Some write) None) [] }) [
      | true ↦ λ e. e
      | false ↦ λ e.
          e ∙ subst (λ (ws : List ℕ). mid ≡ record mid { words = ws; history = mid.history ++ [] }) (sym (ap (λ (o : OwnerState). o.words) e))
          (ap (λ (h : History). record mid { history = h }) (sym (append-nil mid.history)))
    ] step.gained
