-- What stands at one history, and what a front was answered next.
use Rattle.std.proofs.Common.{◌≡◌, ◌==◌, ◌≤◌, ◌<◌, ◌⊎◌, inl, inr, ℕ, Bool, true, false, cond, List, [], ◌∷◌, ◌++◌, length, Some, None, nat_lt, refl, sym, ap, subst, ◌∙◌, eqb-true, arith}
use Rattle.std.specs.List.{AllByRecursion, cons_option}
use Rattle.std.proofs.lemmas.Bool.{eq-eqb, eqb-false, ltb-true, ltb-false}
use Rattle.std.proofs.lemmas.List.{append-nil, append_cancel_right}
use Rattle.partition_model.specs.declared.options.Options.{Options}
use Rattle.partition_model.specs.declared.write.Write.{Write}
use Rattle.partition_model.specs.Write.{is_accepted}
use Rattle.partition_model.specs.History.{History, IsPrefix, stamp_of}
use Rattle.partition_model.specs.Run.{RunStep, history_of, IsRunFrom, IsAnswerAt}
use Rattle.partition_model.proofs.Rises.{prefix_rises, one_cut}
use Rattle.fronts.specs.Answered.{Answered, wrote, got, changed, kept, stamp_given, steps_of}
use Rattle.fronts.specs.Looks.{IsLookAt}
use Rattle.fronts.specs.Placed.{Placed, steps_by, steps_in}
use Rattle.served.specs.Served.{NoFall}
use Rattle.one_order.specs.Order.{Turn, IsAnswerBehind, behind, AreInTurn}
use Rattle.one_order.proofs.Firsts as firsts_of
use Rattle.one_order.proofs.Firsts.{is_at, past, Pairs, IsLow, IsAway, low_next, first_write}

-- Beginnings of one history

-- of two of them one begins the other
comparable : (a la b lb : History) → a ++ la ≡ b ++ lb → (IsPrefix a b) ⊎ (IsPrefix b a)
comparable [] la b lb same = inl (b, refl)
comparable (x ∷ a) la [] lb same = inr (x ∷ a, refl)
comparable (x ∷ a) la (y ∷ b) lb same =
    let heads : x ≡ y = cc in
    let tails : a ++ la ≡ b ++ lb = cc in
    elim (comparable a la b lb tails) [
      | inl is ↦ inl (is.0, ap (λ z. z ∷ b) (sym heads) ∙ ap (λ l. x ∷ l) is.1)
      | inr is ↦ inr (is.0, ap (λ z. z ∷ a) heads ∙ ap (λ l. y ∷ l) is.1)
    ]

no_front : (a b : History) → [] ≡ a ++ b → a ≡ []
no_front [] b same = refl
no_front (x ∷ a) b same = absurd (cc)

-- what begins one with one write more begins it, or is all of it
pushed : (h : History) (w : Write) (cut later : History) → h ++ w ∷ [] ≡ cut ++ later → (IsPrefix cut h) ⊎ (cut ≡ h ++ w ∷ [])
pushed h w [] later same = inl (h, refl)
pushed [] w (c ∷ cut) later same =
    let heads : w ≡ c = cc in
    let tails : [] ≡ cut ++ later = cc in
    inr (ap (λ z. z ∷ cut) (sym heads) ∙ ap (λ l. w ∷ l) (no_front cut later tails))
pushed (x ∷ h) w (c ∷ cut) later same =
    let heads : x ≡ c = cc in
    let tails : h ++ w ∷ [] ≡ cut ++ later = cc in
    elim (pushed h w cut later tails) [
      | inl is ↦ inl (is.0, ap (λ z. z ∷ h) heads ∙ ap (λ l. c ∷ l) is.1)
      | inr is ↦ inr (ap (λ z. z ∷ cut) (sym heads) ∙ ap (λ l. x ∷ l) is)
    ]

within_more : (h add cut : History) → length add ≤ 1 → IsPrefix cut (h ++ add) → (IsPrefix cut h) ⊎ (cut ≡ h ++ add)
within_more h [] cut one is = inl (is.0, sym (append-nil h) ∙ is.1)
within_more h (w ∷ []) cut one is = pushed h w cut is.0 is.1
within_more h (w ∷ x ∷ more) cut one is = absurd (omega (arith, one))

-- a step has one write at most
one_at_most : (step : RunStep) → length (history_of (step ∷ [])) ≤ 1
one_at_most step = by (is_accepted step.outcome)
  where
    by : (b : Bool) → length (cons_option (cond b (Some step.write) None) []) ≤ 1
    by true = omega arith
    by false = omega arith

-- and none, where it was refused
refused_same : (h : History) (step : RunStep) → is_accepted step.outcome ≡ false → h ++ history_of (step ∷ []) ≡ h
refused_same h step off = ap (λ b. h ++ cons_option (cond b (Some step.write) None) []) off ∙ append-nil h

-- Steps of a run

-- of one front
pub all_by : (P : RunStep → Type 0) (g : ℕ) (placed : List Placed) → AllByRecursion P (steps_in placed) → AllByRecursion P (steps_by g placed)
all_by P g [] all = tt
all_by P g (q ∷ placed) all = by (q.front == g) (all_by P g placed all.1)
  where
    by : (b : Bool) → AllByRecursion P (steps_by g placed) → AllByRecursion P (cons_option (cond b (Some q.step) None) (steps_by g placed))
    by true rest = (all.0, rest)
    by false rest = rest

module _ (options : Options) where
  -- none has a lower stamp than the history before it
  pub run_low : (low : ℕ) (h : History) (steps : List RunStep) → low ≤ stamp_of options h → IsRunFrom options h steps → AllByRecursion (λ step. low ≤ step.stamp) steps
  run_low low h [] le run = tt
  run_low low h (step ∷ later) le run =
      let up = prefix_rises options h (h ++ history_of (step ∷ [])) (history_of (step ∷ []), refl) in
      (omega (arith, le, up, run.1), run_low low (h ++ history_of (step ∷ [])) later (omega (arith, le, up)) run.2)

  -- looks leave the history
  abbrev pub IsHere : History → Answered → Type 0
  IsHere h a = IsAnswerBehind options h a × (behind h a ≡ h)

  pub looks_then : (h : History) (xs ys : List Turn) → AllByRecursion (λ t. IsHere h t.answered) xs → AreInTurn options h ys → AreInTurn options h (xs ++ ys)
  looks_then h [] ys all rest = rest
  looks_then h (t ∷ xs) ys all rest = (all.0.0, subst (λ z. AreInTurn options z (xs ++ ys)) (sym all.0.1) (looks_then h xs ys all.1 rest))

module _ (options : Options) (H : History) where
  -- so behind a beginning of the whole history, where that has these writes more
  pub record AtCut (add : History) (P : History → Type 0) : Type 0 where
    pub cut : History
    pub begins : IsPrefix (cut ++ add) H
    pub holds : P cut

  -- what was looked at is what the machine had behind a beginning of it
  abbrev pub OfCut : Answered → Type 0
  OfCut (wrote step) = Unit {0}
  OfCut (got key stamp value) = AtCut [] (λ cut. IsAnswerAt options cut key stamp value)
  OfCut (changed step look) = AtCut (history_of (step ∷ [])) (λ cut. IsRunFrom options cut (step ∷ []) × IsLookAt options cut step.write.key look)
  OfCut (kept key stamp look) = AtCut [] (λ cut. (stamp ≡ stamp_of options cut) × IsLookAt options cut key look)

  plain : {P : History → Type 0} (seen : AtCut [] P) → IsPrefix seen.cut H
  plain seen = subst (λ h. IsPrefix h H) (append-nil seen.cut) seen.begins

  same_cut : (h cut : History) → IsPrefix h H → IsPrefix cut H → stamp_of options cut ≡ stamp_of options h → cut ≡ h
  same_cut h cut begun is same = one_cut options H (stamp_of options h) cut h (record { begins = is; stamped = same }) (record { begins = begun; stamped = refl })

  -- what has a stamp above that of a history has none below that of the next one
  next_stamp : (h add cut : History) → length add ≤ 1 → IsPrefix (h ++ add) H → IsPrefix cut H → stamp_of options h < stamp_of options cut
      → stamp_of options (h ++ add) ≤ stamp_of options cut
  next_stamp h add cut one begun is above = elim (comparable (h ++ add) begun.0 cut is.0 (sym begun.1 ∙ is.1)) [
    | inl before ↦ prefix_rises options (h ++ add) cut before
    | inr within ↦ elim (within_more h add cut one within) [
      | inl low ↦ let le = prefix_rises options cut h low in absurd (omega (arith, le, above))
      | inr same ↦ let eq = ap (stamp_of options) same in omega (arith, eq)
    ]
  ]

  -- Looks at one history

  pub one_here : (h : History) (a : Answered) → IsPrefix h H → is_at (stamp_of options h) a ≡ true → OfCut a → IsHere options h a
  one_here h (wrote step) begun at seen = absurd (cc)
  one_here h (got key stamp value) begun at seen =
      let same : stamp ≡ stamp_of options h = eqb-true stamp (stamp_of options h) at in
      (subst (λ z. IsAnswerAt options z key stamp value) (same_cut h seen.cut begun (plain seen) (sym seen.holds.0 ∙ same)) seen.holds, refl)
  one_here h (changed step look) begun at seen = absurd (cc)
  one_here h (kept key stamp look) begun at seen =
      let same : stamp ≡ stamp_of options h = eqb-true stamp (stamp_of options h) at in
      (subst (λ z. (stamp ≡ stamp_of options z) × IsLookAt options z key look) (same_cut h seen.cut begun (plain seen) (sym seen.holds.0 ∙ same)) seen.holds, refl)

  -- behind the last write all that is left is looks at the whole history
  record IsLast (a : Answered) (following : List Answered) : Type 0 where
    pub at : is_at (stamp_of options H) a ≡ true
    pub none : steps_of following ≡ []

  last_look : (a : Answered) (following : List Answered) → steps_of (a ∷ following) ≡ [] → OfCut a → stamp_of options H ≤ stamp_given a → IsLast a following
  last_look (wrote step) following none seen low = absurd (cc)
  last_look (got key stamp value) following none seen low =
      let up = prefix_rises options seen.cut H (plain seen) in
      record { at = eq-eqb stamp (stamp_of options H) (omega (arith, up, low, seen.holds.0)); none = none }
  last_look (changed step look) following none seen low = absurd (cc)
  last_look (kept key stamp look) following none seen low =
      let up = prefix_rises options seen.cut H (plain seen) in
      record { at = eq-eqb stamp (stamp_of options H) (omega (arith, up, low, seen.holds.0)); none = none }

  pub none_past : (following : List Answered) → steps_of following ≡ [] → AllByRecursion OfCut following → Pairs following → IsLow (stamp_of options H) following → past (stamp_of options H) following ≡ []
  none_past [] none cuts pairs low = refl
  none_past (a ∷ following) none cuts pairs low =
      let last = last_look a following none cuts.0 low in
      ap (λ b. cond b (past (stamp_of options H) following) (a ∷ following)) last.at
      ∙ none_past following last.none cuts.1 pairs.1 (low_next (stamp_of options H) a following low pairs.0)

  -- One step

  module _ (h : History) (step : RunStep) (run : IsRunFrom options h (step ∷ [])) (begun : IsPrefix (h ++ history_of (step ∷ [])) H) where
    abbrev pub after : History
    after = h ++ history_of (step ∷ [])

    look_low : (stamp : ℕ) (cut : History) → IsPrefix cut H → stamp ≡ stamp_of options cut → (stamp == stamp_of options h) ≡ false → stamp_of options h ≤ stamp → stamp_of options after ≤ stamp
    look_low stamp cut is at away low =
        let above : stamp_of options h < stamp_of options cut = strictly (nat_lt (stamp_of options h) (stamp_of options cut)) refl in
        let le = next_stamp h (history_of (step ∷ [])) cut (one_at_most step) begun is above in
        omega (arith, le, at)
      where
        strictly : (b : Bool) → nat_lt (stamp_of options h) (stamp_of options cut) ≡ b → stamp_of options h < stamp_of options cut
        strictly true is = ltb-true (stamp_of options h) (stamp_of options cut) is
        strictly false is =
            let le = ltb-false (stamp_of options h) (stamp_of options cut) is in
            absurd (eqb-false stamp (stamp_of options h) away (omega (arith, le, low, at)))

    -- what is left of other fronts has no lower stamp than the one behind it
    pub head_low : (following : List Answered) → AllByRecursion OfCut following → IsLow (stamp_of options h) following → IsAway (stamp_of options h) following
        → AllByRecursion (λ one. stamp_of options after ≤ one.stamp) (steps_of following) → IsLow (stamp_of options after) following
    head_low [] cuts low away steps = tt
    head_low (wrote own ∷ following) cuts low away steps = steps.0
    head_low (got key stamp value ∷ following) cuts low away steps = look_low stamp cuts.0.cut (plain cuts.0) cuts.0.holds.0 away low
    head_low (changed own look ∷ following) cuts low away steps = steps.0
    head_low (kept key stamp look ∷ following) cuts low away steps = look_low stamp cuts.0.cut (plain cuts.0) cuts.0.holds.0 away low

    -- What its front was answered next is the answer to it.
    pub record IsNext (a : Answered) (following : List Answered) (rest : List RunStep) : Type 0 where
      pub answer : IsAnswerBehind options h a
      pub goes_to : behind h a ≡ after
      pub stamp : stamp_given a ≡ step.stamp
      pub tail : steps_of following ≡ rest

    -- a look is not, as its stamp would stand between
    no_look : (a : Answered) (following : List Answered) (rest : List RunStep) (cut : History) → IsPrefix cut H → stamp_given a ≡ stamp_of options cut
        → (stamp_given a == stamp_of options h) ≡ false → stamp_of options h ≤ stamp_given a → AllByRecursion (NoFall a) following → steps_of following ≡ step ∷ rest → ⊥
    no_look a following rest cut is at away low pairs steps = by (is_accepted step.outcome) refl
      where
        next : firsts_of.Write (NoFall a) step
        next = first_write (NoFall a) following step rest steps pairs

        least : stamp_of options after ≤ stamp_given a
        least = look_low (stamp_given a) cut is at away low

        by : (b : Bool) → is_accepted step.outcome ≡ b → ⊥
        by true on =
            let above : stamp_given a < stamp_given next.answer = next.holds.1 (next.accepted ∙ on) in
            omega (arith, above, least, next.stamp, run.1)
        by false off =
            let same = ap (stamp_of options) (refused_same h step off) in
            let up : stamp_given a ≤ stamp_given next.answer = next.holds.0 in
            eqb-false (stamp_given a) (stamp_of options h) away (omega (arith, same, up, low, next.stamp, run.1))

    pub is_next : (a : Answered) (following : List Answered) (rest : List RunStep) → OfCut a → AllByRecursion (NoFall a) following → stamp_of options h ≤ stamp_given a → is_at (stamp_of options h) a ≡ false
        → steps_of (a ∷ following) ≡ step ∷ rest → IsNext a following rest
    is_next (wrote own) following rest seen pairs low away steps =
        let same : step ≡ own = cc in
        let tails : steps_of following ≡ rest = cc in
        record {
          answer = subst (λ z. IsRunFrom options h (z ∷ [])) same run;
          goes_to = ap (λ z. h ++ history_of (z ∷ [])) (sym same);
          stamp = ap (λ (z : RunStep). z.stamp) (sym same);
          tail = tails;
        }
    is_next (got key stamp value) following rest seen pairs low away steps = absurd (no_look (got key stamp value) following rest seen.cut (plain seen) seen.holds.0 away low pairs steps)
    is_next (changed own look) following rest seen pairs low away steps =
        let same : step ≡ own = cc in
        let tails : steps_of following ≡ rest = cc in
        let ran : IsRunFrom options h (own ∷ []) = subst (λ z. IsRunFrom options h (z ∷ [])) same run in
        let now : IsPrefix (h ++ history_of (own ∷ [])) H = subst (λ z. IsPrefix (h ++ history_of (z ∷ [])) H) same begun in
        let cut : seen.cut ≡ h = append_cancel_right seen.cut h (history_of (own ∷ []))
        (one_cut options H own.stamp (seen.cut ++ history_of (own ∷ [])) (h ++ history_of (own ∷ [])) (record { begins = seen.begins; stamped = sym seen.holds.0.1 }) (record { begins = now; stamped = sym ran.1 })) in
        record {
          answer = (ran, subst (λ z. IsLookAt options z own.write.key look) cut seen.holds.1);
          goes_to = ap (λ z. h ++ history_of (z ∷ [])) (sym same);
          stamp = ap (λ (z : RunStep). z.stamp) (sym same);
          tail = tails;
        }
    is_next (kept key stamp look) following rest seen pairs low away steps = absurd (no_look (kept key stamp look) following rest seen.cut (plain seen) seen.holds.0 away low pairs steps)
