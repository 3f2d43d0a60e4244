-- Lawful answers of all fronts stand in one order.
use Rattle.std.proofs.Common.{◌≡◌, ◌≤◌, ◌<◌, ℕ, Bool, true, false, cond, List, [], ◌∷◌, ◌++◌, length, filter, eqb, eqb-true, Option, Some, None, inl, inr, slice_get, refl, sym, ap, subst, ◌∙◌, append_assoc, arith}
use Rattle.std.specs.List.{AllByRecursion, cons_option}
use Rattle.std.proofs.lemmas.List.Elements.{recursion_from_All}
use Rattle.std.proofs.lemmas.List.{append-nil}
use Rattle.std.proofs.lemmas.Option.{slice_get_cases, slice_get_within}
use Rattle.partition_model.specs.declared.options.Options.{Options}
use Rattle.partition_model.specs.History.{History, IsPrefix, stamp_of, answer_of}
use Rattle.partition_model.specs.Run.{RunStep, history_of, IsRunFrom}
use Rattle.partition_model.proofs.Rises.{prefix_rises}
use Rattle.partition_model.proofs.Runs.{history-append, history_cons}
use Rattle.fronts.specs.Answered.{Answered, wrote, got, changed, kept, stamp_given, is_get, steps_of, answers_of, gets_of}
use Rattle.fronts.specs.Looks.{Look}
use Rattle.fronts.specs.Placed.{Placed, steps_by, steps_in, history_in}
use Rattle.served.specs.Served.{ServesWrites, ServesLook, ServesGet, ServesChange}
use Rattle.one_order.specs.Order.{StandInOneOrder}
use Rattle.one_order.proofs.Firsts.{Pairs, IsLow, is_look, pairs}
use Rattle.one_order.proofs.Nexts.{AtCut, OfCut, all_by, run_low}
use Rattle.one_order.proofs.Merged.{Merged, merge}

-- a run goes on behind its first steps
run_behind : (options : Options) (h : History) (earlier later : List RunStep) → IsRunFrom options h (earlier ++ later) → IsRunFrom options (h ++ history_of earlier) later
run_behind options h [] later run = subst (λ z. IsRunFrom options z later) (sym (append-nil h)) run
run_behind options h (step ∷ earlier) later run =
    subst (λ z. IsRunFrom options z later) (append_assoc h (history_of (step ∷ [])) (history_of earlier) ∙ ap (λ l. h ++ l) (history_cons step earlier))
    (run_behind options (h ++ history_of (step ∷ [])) earlier later run.2)

none_by : (count f : ℕ) (placed : List Placed) → AllByRecursion (λ q. q.front < count) placed → count ≤ f → steps_by f placed ≡ []
none_by count f [] within le = refl
none_by count f (q ∷ placed) within le = by (eqb q.front f) refl (none_by count f placed within.1 le)
  where
    by : (b : Bool) → eqb q.front f ≡ b → steps_by f placed ≡ [] → cons_option (cond b (Some q.step) None) (steps_by f placed) ≡ []
    by true same rest = let is = eqb-true q.front f same in absurd (omega (arith, is, le, within.0))
    by false apart rest = rest

module _ (options : Options) (origin : History) (placed : List Placed) (run : IsRunFrom options origin (steps_in placed)) where
  abbrev whole : History
  whole = origin ++ history_in placed

  -- what was looked at, and no lower stamp than at the beginning
  abbrev IsSeen : Answered → Type 0
  IsSeen a = OfCut options whole a × (is_look a ≡ true → stamp_of options origin ≤ stamp_given a)

  at_cut : {P : History → Type 0} (cut : History) → IsPrefix cut whole → P cut → AtCut options whole [] P
  at_cut cut begins holds = record { cut = cut; begins = subst (λ h. IsPrefix h whole) (sym (append-nil cut)) begins; holds = holds }

  of_change : (step : RunStep) (look : Look) → ServesChange options origin (steps_in placed) step look → OfCut options whole (changed step look)
  of_change step look c = record {
    cut = origin ++ history_of c.earlier;
    begins = (history_of c.later, all);
    holds = ((behind.0, behind.1, tt), c.looked);
  }
    where
      behind : IsRunFrom options (origin ++ history_of c.earlier) (step ∷ c.later)
      behind = run_behind options origin c.earlier (step ∷ c.later) (subst (IsRunFrom options origin) c.stands run)

      all : whole ≡ ((origin ++ history_of c.earlier) ++ history_of (step ∷ [])) ++ history_of c.later
      all =
          ap (λ l. origin ++ history_of l) c.stands
          ∙ ap (λ l. origin ++ l) (history-append c.earlier (step ∷ c.later))
          ∙ sym (append_assoc origin (history_of c.earlier) (history_of (step ∷ c.later)))
          ∙ ap (λ l. (origin ++ history_of c.earlier) ++ l) (sym (history_cons step c.later))
          ∙ sym (append_assoc (origin ++ history_of c.earlier) (history_of (step ∷ [])) (history_of c.later))

  of_get : (key : List ℕ) (stamp : ℕ) (value : Option (List ℕ)) → ServesGet options origin whole (got key stamp value) → IsSeen (got key stamp value)
  of_get key stamp value g =
      let at : stamp ≡ stamp_of options g.cut = ap stamp_given g.is in
      let is : value ≡ answer_of options g.cut key = ap value_told g.is in
      let up = prefix_rises options origin g.cut g.filled in
      (at_cut g.cut g.begins (at, is), λ _. omega (arith, up, at))
    where
      value_told : Answered → Option (List ℕ)
      value_told (got key stamp value) = value
      value_told _ = None

  seen : (following : List Answered) → AllByRecursion (ServesLook options origin (steps_in placed)) following → AllByRecursion (ServesGet options origin whole) (filter is_get following) → AllByRecursion IsSeen following
  seen [] looks gets = tt
  seen (wrote step ∷ following) looks gets = ((tt, λ off. absurd (cc)), seen following looks.1 gets)
  seen (got key stamp value ∷ following) looks gets = (of_get key stamp value gets.0, seen following looks.1 gets.1)
  seen (changed step look ∷ following) looks gets = ((of_change step look looks.0, λ off. absurd (cc)), seen following looks.1 gets)
  seen (kept key stamp look ∷ following) looks gets =
      let up = prefix_rises options origin looks.0.cut looks.0.filled in
      ((at_cut looks.0.cut looks.0.begins (looks.0.stamped, looks.0.looked), λ _. omega (arith, up, looks.0.stamped)), seen following looks.1 gets)

  cuts_of : (following : List Answered) → AllByRecursion IsSeen following → AllByRecursion (OfCut options whole) following
  cuts_of [] all = tt
  cuts_of (a ∷ following) all = (all.0.0, cuts_of following all.1)

  low_of : (following : List Answered) → AllByRecursion IsSeen following → AllByRecursion (λ step. stamp_of options origin ≤ step.stamp) (steps_of following) → IsLow (stamp_of options origin) following
  low_of [] all steps = tt
  low_of (wrote step ∷ following) all steps = steps.0
  low_of (got key stamp value ∷ following) all steps = all.0.1 refl
  low_of (changed step look ∷ following) all steps = steps.0
  low_of (kept key stamp look ∷ following) all steps = all.0.1 refl

pub ordered : StandInOneOrder
ordered options origin fronts runs lawful p less = record {
  turns = merged.turns;
  in_turn = merged.in_turn;
  each = λ f answers at. merged.each f ∙ ap of_front at;
  no_others = merged.no_others;
}
  where
    placed : List Placed
    placed = runs p

    writes : ServesWrites options (origin p) p fronts placed
    writes = lawful.writes p less

    of_front : Option (List Answered) → List Answered
    of_front None = []
    of_front (Some answers) = answers_of options p answers

    within : AllByRecursion (λ q. q.front < length fronts) placed
    within = recursion_from_All (λ q. q.front < length fronts) placed writes.no_others

    all : (f : ℕ) (answers : List Answered) → slice_get fronts f ≡ Some answers → AllByRecursion (IsSeen options (origin p) placed writes.run) (answers_of options p answers)
    all f answers at =
        seen options (origin p) placed writes.run (answers_of options p answers)
        (recursion_from_All (ServesLook options (origin p) (steps_in placed)) (answers_of options p answers) (lawful.looks p f answers less at))
        (recursion_from_All (ServesGet options (origin p) (origin p ++ history_in placed)) (gets_of options p answers) (lawful.gets p f answers less at))

    -- what holds of each front's answers, and of none
    for_each : (P : ℕ → List Answered → Type 0) → ((f : ℕ) → length fronts ≤ f → P f []) → ((f : ℕ) (answers : List Answered) → slice_get fronts f ≡ Some answers → P f (answers_of options p answers))
        → (f : ℕ) → P f (of_front (slice_get fronts f))
    for_each P none some f = elim (slice_get_cases fronts f).1 [
      | inl is ↦ subst (λ o. P f (of_front o)) (sym is.2) (some f is.0 is.2)
      | inr is ↦ subst (λ o. P f (of_front o)) (sym is.1) (none f is.0)
    ]

    steps : (f : ℕ) → steps_of (of_front (slice_get fronts f)) ≡ steps_by f placed
    steps = for_each (λ f l. steps_of l ≡ steps_by f placed) (λ f le. sym (none_by (length fronts) f placed within le)) (λ f answers at. writes.each f answers at)

    low_steps : (f : ℕ) → AllByRecursion (λ step. stamp_of options (origin p) ≤ step.stamp) (steps_of (of_front (slice_get fronts f)))
    low_steps f =
        subst (AllByRecursion (λ step. stamp_of options (origin p) ≤ step.stamp)) (sym (steps f))
        (all_by (λ step. stamp_of options (origin p) ≤ step.stamp) f placed (run_low options (stamp_of options (origin p)) (origin p) (steps_in placed) (omega arith) writes.run))

    merged : Merged options (origin p ++ history_in placed) (length fronts) (origin p) (λ f. of_front (slice_get fronts f))
    merged = merge options (origin p ++ history_in placed) (length fronts) placed (origin p) (λ f. of_front (slice_get fronts f)) (record {
      run = writes.run;
      whole = refl;
      steps = steps;
      cuts = for_each (λ f l. AllByRecursion (OfCut options (origin p ++ history_in placed)) l) (λ f le. tt) (λ f answers at. cuts_of options (origin p) placed writes.run (answers_of options p answers) (all f answers at));
      pairs = for_each (λ f l. Pairs l) (λ f le. tt) (λ f answers at. pairs (answers_of options p answers) (lawful.order p f answers less at));
      low = λ f. low_by f;
      few = for_each (λ f l. length fronts ≤ f → l ≡ []) (λ f le _. refl) (λ f answers at le. absurd (let within = slice_get_within fronts f answers at in omega (arith, within, le)));
      within = within;
    })
      where
        low_by : (f : ℕ) → IsLow (stamp_of options (origin p)) (of_front (slice_get fronts f))
        low_by = for_each (λ f l. IsLow (stamp_of options (origin p)) l) (λ f le. tt)
            (λ f answers at. low_of options (origin p) placed writes.run (answers_of options p answers) (all f answers at)
            (subst (λ o. AllByRecursion (λ step. stamp_of options (origin p) ≤ step.stamp) (steps_of (of_front o))) at (low_steps f)))
