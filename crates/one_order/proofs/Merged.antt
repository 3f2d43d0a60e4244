-- Steps of a run in their order, with the looks of all fronts at each history between them.
use Rattle.std.proofs.Common.{◌≡◌, ◌==◌, ◌≤◌, ◌<◌, ℕ, Bool, true, false, cond, List, [], ◌∷◌, ◌++◌, Some, None, refl, sym, ap, subst, ◌∙◌, eqb-true, append_assoc, arith}
use Rattle.std.specs.List.{AllByRecursion, cons_option}
use Rattle.std.proofs.lemmas.Bool.{eq-eqb}
use Rattle.std.proofs.lemmas.List.{append-nil}
use Rattle.std.proofs.lemmas.List.Elements.{filter_map-append}
use Rattle.partition_model.specs.declared.options.Options.{Options}
use Rattle.partition_model.specs.History.{History, IsPrefix, stamp_of}
use Rattle.partition_model.specs.Run.{history_of, IsRunFrom}
use Rattle.partition_model.proofs.Runs.{history_cons}
use Rattle.fronts.specs.Answered.{Answered, stamp_given, steps_of}
use Rattle.fronts.specs.Placed.{Placed, steps_by, steps_in}
use Rattle.one_order.specs.Order.{Turn, AreInTurn, answers_to}
use Rattle.one_order.proofs.Firsts.{is_at, here, past, heres, pick_of, Pairs, IsLow, IsAway, parts, all_both, all_past, steps_past, pairs_past, low_next, low_past, away_past, heres_of, all_heres, all_to}
use Rattle.one_order.proofs.Nexts.{all_by, run_low, IsHere, looks_then, OfCut, one_here, none_past, head_low, IsNext, is_next}

module _ (options : Options) (H : History) (count : ℕ) where
  -- those at one history, of a front
  all_here : (h : History) (f : ℕ) (following : List Answered) → IsPrefix h H → f < count → AllByRecursion (OfCut options H) following
      → AllByRecursion (λ a. IsHere options h a × (f < count)) (here (stamp_of options h) following)
  all_here h f [] begun less cuts = tt
  all_here h f (a ∷ following) begun less cuts = by (is_at (stamp_of options h) a) refl (all_here h f following begun less cuts.1)
    where
      by : (b : Bool) → is_at (stamp_of options h) a ≡ b → AllByRecursion (λ a. IsHere options h a × (f < count)) (here (stamp_of options h) following)
          → AllByRecursion (λ a. IsHere options h a × (f < count)) (cond b (a ∷ here (stamp_of options h) following) [])
      by true at rest = ((one_here options H h a begun at cuts.0, less), rest)
      by false at rest = tt

  -- what is left of a run and of what each front was answered
  pub record Fits (h : History) (placed : List Placed) (L : ℕ → List Answered) : Type 0 where
    pub run : IsRunFrom options h (steps_in placed)
    pub whole : H ≡ h ++ history_of (steps_in placed)
    pub steps : (f : ℕ) → steps_of (L f) ≡ steps_by f placed
    pub cuts : (f : ℕ) → AllByRecursion (OfCut options H) (L f)
    pub pairs : (f : ℕ) → Pairs (L f)
    pub low : (f : ℕ) → IsLow (stamp_of options h) (L f)
    pub few : (f : ℕ) → count ≤ f → L f ≡ []
    pub within : AllByRecursion (λ q. q.front < count) placed

  pub record Merged (h : History) (L : ℕ → List Answered) : Type 0 where
    pub turns : List Turn
    pub in_turn : AreInTurn options h turns
    pub each : (f : ℕ) → answers_to f turns ≡ L f
    pub no_others : AllByRecursion (λ t. t.front < count) turns

  -- all looks at a history
  record Looks (h : History) (L : ℕ → List Answered) : Type 0 where
    pub here_are : AllByRecursion (λ t. IsHere options h t.answered) (heres (stamp_of options h) L count)
    pub each : (f : ℕ) → answers_to f (heres (stamp_of options h) L count) ≡ here (stamp_of options h) (L f)
    pub no_others : AllByRecursion (λ t. t.front < count) (heres (stamp_of options h) L count)

  firsts : (P Q : Turn → Type 0) (ts : List Turn) → AllByRecursion (λ t. P t × Q t) ts → AllByRecursion P ts
  firsts P Q [] all = tt
  firsts P Q (t ∷ ts) all = (all.0.0, firsts P Q ts all.1)

  seconds : (P Q : Turn → Type 0) (ts : List Turn) → AllByRecursion (λ t. P t × Q t) ts → AllByRecursion Q ts
  seconds P Q [] all = tt
  seconds P Q (t ∷ ts) all = (all.0.1, seconds P Q ts all.1)

  abbrev Both : History → Turn → Type 0
  Both h t = IsHere options h t.answered × (t.front < count)

  looks : (h : History) (placed : List Placed) (L : ℕ → List Answered) → Fits h placed L → Looks h L
  looks h placed L fits = record {
    here_are = firsts (λ t. IsHere options h t.answered) (λ t. t.front < count) (heres (stamp_of options h) L count) all;
    each = λ f. heres_of (stamp_of options h) L count f (fits.few f);
    no_others = seconds (λ t. IsHere options h t.answered) (λ t. t.front < count) (heres (stamp_of options h) L count) all;
  }
    where
      all : AllByRecursion (Both h) (heres (stamp_of options h) L count)
      all = all_heres (Both h) (stamp_of options h) L count (λ f less. all_to (Both h) f (here (stamp_of options h) (L f)) (all_here h f (L f) (history_of (steps_in placed), fits.whole) less (fits.cuts f)))

  -- behind the last step
  last_step : (h : History) (L : ℕ → List Answered) → Fits h [] L → Merged h L
  last_step h L fits = record {
    turns = heres s L count;
    in_turn = subst (AreInTurn options h) (append-nil (heres s L count)) (looks_then options h (heres s L count) [] all.here_are tt);
    each = λ f. all.each f ∙ whole_here f;
    no_others = all.no_others;
  }
    where
      s : ℕ
      s = stamp_of options h

      all : Looks h L
      all = looks h [] L fits

      ends : H ≡ h
      ends = fits.whole ∙ append-nil h

      none : (f : ℕ) → past s (L f) ≡ []
      none f =
          subst (λ z. IsLow (stamp_of options z) (L f) → past (stamp_of options z) (L f) ≡ []) ends (none_past options H (L f) (fits.steps f) (fits.cuts f) (fits.pairs f)) (fits.low f)

      whole_here : (f : ℕ) → here s (L f) ≡ L f
      whole_here f = sym (append-nil (here s (L f))) ∙ ap (λ l. here s (L f) ++ l) (sym (none f)) ∙ parts s (L f)

  -- at one step, where the rest can be merged behind it
  module _ (q : Placed) (later : List Placed) (h : History) (L : ℕ → List Answered)
      (more : (next : History) (left : ℕ → List Answered) → Fits next later left → Merged next left) (fits : Fits h (q ∷ later) L) where
    abbrev s : ℕ
    s = stamp_of options h

    abbrev next : History
    next = h ++ history_of (q.step ∷ [])

    all : Looks h L
    all = looks h (q ∷ later) L fits

    run : IsRunFrom options h (q.step ∷ [])
    run = (fits.run.0, fits.run.1, tt)

    whole : H ≡ next ++ history_of (steps_in later)
    whole = fits.whole ∙ ap (λ l. h ++ l) (sym (history_cons q.step (steps_in later))) ∙ sym (append_assoc h (history_of (q.step ∷ [])) (history_of (steps_in later)))

    begun : IsPrefix next H
    begun = (history_of (steps_in later), whole)

    first_step : steps_by q.front (q ∷ later) ≡ q.step ∷ steps_by q.front later
    first_step = ap (λ b. cons_option (cond b (Some q.step) None) (steps_by q.front later)) (eq-eqb q.front q.front refl)

    left_steps : steps_of (past s (L q.front)) ≡ q.step ∷ steps_by q.front later
    left_steps = steps_past s (L q.front) ∙ fits.steps q.front ∙ first_step

    other_steps : (f : ℕ) → (q.front == f) ≡ false → steps_of (past s (L f)) ≡ steps_by f later
    other_steps f apart = steps_past s (L f) ∙ fits.steps f ∙ ap (λ b. cons_option (cond b (Some q.step) None) (steps_by f later)) apart

    low_steps : (f : ℕ) → AllByRecursion (λ one. stamp_of options next ≤ one.stamp) (steps_by f later)
    low_steps f = all_by (λ one. stamp_of options next ≤ one.stamp) f later (run_low options (stamp_of options next) next (steps_in later) (omega arith) fits.run.2)

    low_other : (f : ℕ) → (q.front == f) ≡ false → IsLow (stamp_of options next) (past s (L f))
    low_other f apart =
        head_low options H h q.step run begun (past s (L f)) (all_past (OfCut options H) s (L f) (fits.cuts f)) (low_past s (L f) (fits.pairs f) (fits.low f)) (away_past s (L f))
        (subst (AllByRecursion (λ one. stamp_of options next ≤ one.stamp)) (sym (other_steps f apart)) (low_steps f))

    -- the answer to it stands first in what is left of its front's
    module _ (a : Answered) (following : List Answered) (is : past s (L q.front) ≡ a ∷ following) where
      abbrev turn : Turn
      turn = record { front = q.front; answered = a }

      cuts : AllByRecursion (OfCut options H) (a ∷ following)
      cuts = subst (AllByRecursion (OfCut options H)) is (all_past (OfCut options H) s (L q.front) (fits.cuts q.front))

      pairs : Pairs (a ∷ following)
      pairs = subst Pairs is (pairs_past s (L q.front) (fits.pairs q.front))

      low : s ≤ stamp_given a
      low = subst (IsLow s) is (low_past s (L q.front) (fits.pairs q.front) (fits.low q.front))

      away : is_at s a ≡ false
      away = subst (IsAway s) is (away_past s (L q.front))

      first : IsNext options H h q.step run begun a following (steps_by q.front later)
      first = is_next options H h q.step run begun a following (steps_by q.front later) cuts.0 pairs.0 low away (ap steps_of (sym is) ∙ left_steps)

      abbrev left : ℕ → List Answered
      left f = cond (q.front == f) following (past s (L f))

      -- what holds of what is left of its front's and of each other's
      for_left : (P : ℕ → List Answered → Type 0) → P q.front following → ((f : ℕ) → (q.front == f) ≡ false → P f (past s (L f))) → (f : ℕ) → P f (left f)
      for_left P own others f = by (q.front == f) refl
        where
          by : (b : Bool) → (q.front == f) ≡ b → P f (cond b following (past s (L f)))
          by true same = subst (λ g. P g following) (eqb-true q.front f same) own
          by false apart = others f apart

      left_fits : Fits next later left
      left_fits = record {
        run = fits.run.2;
        whole = whole;
        steps = for_left (λ f l. steps_of l ≡ steps_by f later) first.tail other_steps;
        cuts = for_left (λ f l. AllByRecursion (OfCut options H) l) cuts.1 (λ f apart. all_past (OfCut options H) s (L f) (fits.cuts f));
        pairs = for_left (λ f l. Pairs l) pairs.1 (λ f apart. pairs_past s (L f) (fits.pairs f));
        low = for_left (λ f l. IsLow (stamp_of options next) l) (low_next (stamp_of options next) a following (omega (arith, first.stamp, run.1)) pairs.0) low_other;
        few = for_left (λ f l. count ≤ f → l ≡ []) (λ le. absurd (omega (arith, le, fits.within.0))) (λ f apart le. ap (past s) (fits.few f le));
        within = fits.within.1;
      }

      rest : Merged next left
      rest = more next left left_fits

      behind_looks : (f : ℕ) → answers_to f (turn ∷ rest.turns) ≡ past s (L f)
      behind_looks f = by (q.front == f) refl (rest.each f)
        where
          by : (b : Bool) → (q.front == f) ≡ b → answers_to f rest.turns ≡ cond b following (past s (L f)) → cons_option (cond b (Some a) None) (answers_to f rest.turns) ≡ past s (L f)
          by true same own = ap (λ l. a ∷ l) own ∙ sym is ∙ ap (λ g. past s (L g)) (eqb-true q.front f same)
          by false apart other = other

      merged_here : Merged h L
      merged_here = record {
        turns = heres s L count ++ turn ∷ rest.turns;
        in_turn = looks_then options h (heres s L count) (turn ∷ rest.turns) all.here_are (first.answer, subst (λ z. AreInTurn options z rest.turns) (sym first.goes_to) rest.in_turn);
        each = λ f.
            filter_map-append (pick_of f) (heres s L count) (turn ∷ rest.turns)
            ∙ ap (λ l. l ++ answers_to f (turn ∷ rest.turns)) (all.each f)
            ∙ ap (λ l. here s (L f) ++ l) (behind_looks f)
            ∙ parts s (L f);
        no_others = all_both (λ t. t.front < count) (heres s L count) (turn ∷ rest.turns) all.no_others (fits.within.0, rest.no_others);
      }

    go : (l : List Answered) → past s (L q.front) ≡ l → Merged h L
    go [] is = let none : [] ≡ q.step ∷ steps_by q.front later = ap steps_of (sym is) ∙ left_steps in absurd (cc)
    go (a ∷ following) is = merged_here a following is

    one_step : Merged h L
    one_step = go (past s (L q.front)) refl

  pub merge : (placed : List Placed) (h : History) (L : ℕ → List Answered) → Fits h placed L → Merged h L
  merge [] h L fits = last_step h L fits
  merge (q ∷ later) h L fits = one_step q later h L (merge later) fits
