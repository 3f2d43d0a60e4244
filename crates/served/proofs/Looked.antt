-- Writes that were made of a look stand in their partition's run right behind what was looked at.
use Rattle.std.proofs.Common.{◌≡◌, ℕ, zero, suc, ◌==◌, Bool, cond, true, false, List, [], ◌∷◌, ◌++◌, Some, None, refl, sym, ap, ◌∙◌, subst, append_assoc, slice_get}
use Rattle.std.specs.List.{All, AllByRecursion, cons_option}
use Rattle.std.proofs.lemmas.List.{append-nil, append_cancel_right}
use Rattle.std.proofs.lemmas.List.Elements.{All-from_recursion, recursion_from_All}
use Rattle.std.proofs.lemmas.Option.{same_Some}
use Rattle.partition_model.specs.declared.options.Options.{Options}
use Rattle.partition_model.specs.History.{History, stamp_of}
use Rattle.partition_model.specs.Run.{RunStep, history_of, IsRunFrom}
use Rattle.partition_model.proofs.Rises.{one_cut}
use Rattle.partition_model.proofs.Runs.{history-append}
use Rattle.fronts.specs.Looks.{Look, IsLookAt}
use Rattle.fronts.specs.Answered.{Answered, wrote, got, changed, kept, steps_of}
use Rattle.fronts.specs.Placed.{Placed, steps_by, steps_in}
use Rattle.served.specs.Served.{ServesChange, ServesLook}
use Rattle.served.proofs.Beside.{MadeOfLast, IsOf}

-- the steps are some, then this one, then others
abbrev Stands : RunStep → List RunStep → Type 0
Stands step run = (earlier : List RunStep) × (later : List RunStep) × (run ≡ earlier ++ step ∷ later)

stands_later : (step other : RunStep) (run : List RunStep) → Stands step run → Stands step (other ∷ run)
stands_later step other run at = (other ∷ at.0, at.1, ap (λ l. other ∷ l) at.2)

-- a front's steps stand in the run of all
front_stands : (f : ℕ) (placed : List Placed) (n : ℕ) (step : RunStep) → slice_get (steps_by f placed) n ≡ Some step → Stands step (steps_in placed)
front_stands f [] n step at = absurd (cc at)
front_stands f (q ∷ placed) n step at = by n (q.front == f) (λ m h. front_stands f placed m step h) at
  where
    by : (n : ℕ) (own : Bool) → ((m : ℕ) → slice_get (steps_by f placed) m ≡ Some step → Stands step (steps_in placed))
        → slice_get (cons_option (cond own (Some q.step) None) (steps_by f placed)) n ≡ Some step → Stands step (q.step ∷ steps_in placed)
    by zero true rest at = ([], steps_in placed, ap (λ s. s ∷ steps_in placed) (same_Some _ _ at))
    by (suc n) true rest at = stands_later step q.step (steps_in placed) (rest n at)
    by n false rest at = stands_later step q.step (steps_in placed) (rest n at)

-- the stamp of a step is that of the history up to it
stamp_at : (options : Options) (earlier later : List RunStep) (step : RunStep) (origin : History) → IsRunFrom options origin (earlier ++ step ∷ later)
    → step.stamp ≡ stamp_of options ((origin ++ history_of earlier) ++ history_of (step ∷ []))
stamp_at options [] later step origin run = run.1 ∙ ap (λ h. stamp_of options (h ++ history_of (step ∷ []))) (sym (append-nil origin))
stamp_at options (s ∷ earlier) later step origin run =
    stamp_at options earlier later step (origin ++ history_of (s ∷ [])) run.2
    ∙ ap (λ h. stamp_of options (h ++ history_of (step ∷ []))) (append_assoc origin (history_of (s ∷ [])) (history_of earlier) ∙ ap (λ h. origin ++ h) (sym (history-append (s ∷ []) earlier)))

module _ (options : Options) (origin : History) (run : List RunStep) (runs : IsRunFrom options origin run) where
  changes_at : (step : RunStep) (look : Look) → Stands step run → MadeOfLast options origin (origin ++ history_of run) step look → ServesChange options origin run step look
  changes_at step look (earlier, later, is) made =
      let ended = (origin ++ history_of earlier) ++ history_of (step ∷ []) in
      let whole : origin ++ history_of run ≡ ended ++ history_of later =
      ap (λ r. origin ++ history_of r) is ∙ ap (λ h. origin ++ h) (history-append earlier (step ∷ later) ∙ ap (λ h. history_of earlier ++ h) (history-append (step ∷ []) later))
      ∙ sym (append_assoc origin (history_of earlier) (history_of (step ∷ []) ++ history_of later)) ∙ sym (append_assoc (origin ++ history_of earlier) (history_of (step ∷ [])) (history_of later)) in
      let same = one_cut options (origin ++ history_of run) step.stamp (made.before ++ history_of (step ∷ [])) ended
      (record { begins = made.begins; stamped = sym made.stamped })
      (record { begins = (history_of later, whole); stamped = sym (stamp_at options earlier later step origin (subst (IsRunFrom options origin) is runs)) }) in
      record {
        earlier = earlier;
        later = later;
        stands = is;
        looked = subst (λ h. IsLookAt options h step.write.key look) (append_cancel_right made.before (origin ++ history_of earlier) (history_of (step ∷ [])) same) made.looked;
      }

  serves_each : (own : List Answered) → ((n : ℕ) (step : RunStep) → slice_get (steps_of own) n ≡ Some step → Stands step run)
      → AllByRecursion (IsOf options origin (origin ++ history_of run)) own → AllByRecursion (ServesLook options origin run) own
  serves_each [] stand known = tt
  serves_each (wrote step ∷ own) stand known = (tt, serves_each own (λ n. stand (suc n)) known.1)
  serves_each (got key stamp value ∷ own) stand known = (tt, serves_each own stand known.1)
  serves_each (changed step look ∷ own) stand known = (changes_at step look (stand 0 step refl) known.0, serves_each own (λ n. stand (suc n)) known.1)
  serves_each (kept key stamp look ∷ own) stand known = (known.0, serves_each own stand known.1)

-- the looks of a front, where its writes are its steps in the run
pub serves_looks : (options : Options) (origin : History) (f : ℕ) (placed : List Placed) (own : List Answered) → IsRunFrom options origin (steps_in placed) → steps_of own ≡ steps_by f placed
    → All (IsOf options origin (origin ++ history_of (steps_in placed))) own → All (ServesLook options origin (steps_in placed)) own
serves_looks options origin f placed own runs written known =
    All-from_recursion (ServesLook options origin (steps_in placed)) own (serves_each options origin (steps_in placed) runs own
    (λ n step at. front_stands f placed n step (ap (λ (l : List RunStep). slice_get l n) (sym written) ∙ at))
    (recursion_from_All (IsOf options origin (origin ++ history_of (steps_in placed))) own known))
