-- Each kind of step keeps the desk's rule.
use Rattle.std.proofs.Common.{◌≡◌, ◌≢◌, ℕ, zero, suc, List, [], ◌∷◌, ◌⊎◌, inl, inr, true, false, get_or, refl, sym, ap, ◌∙◌, subst, set, ◌++◌, arith, Option, Some, None, is_none, is_some, IfSome}
use mathlib.Core.Option.{Option as Home, some, none, some-injective, some-ne-none}
use lib.ListN.{get_elem?}
use Rattle.atomic_table.specs.Table.{State, Act, keeps, takes, gives, step, stepped, Allows, Splits, Valid, carried_after, rest}
use Rattle.work_desk.specs.declared.rule.DeskSeatView.{DeskSeatView}
use Rattle.work_desk.specs.declared.rule.Stage.{Stage}
use Rattle.work_desk.specs.declared.rule.Stage.TheVariants.{Gives, Told, Does, Dismissed}
use Rattle.work_desk.specs.Desk.{giver, doer, told, dismissed, new, open_desk, desk, Stands, Ended, IsLawful, IsSide, is_empty_slot, has_slot}
use Rattle.work_desk.specs.Plays.{Seated, slot_in, opens, hands, gives_back, ends, looks, awaits}

module _ {X : Type 0} where
  -- the one seat of a desk, and the two
  alone : (a u : X) (id : ℕ) → get_elem? (a ∷ []) id ≡ some u → (id ≡ 0) × (a ≡ u)
  alone a u zero e = (refl, some-injective a u e)
  alone a u (suc id) e = absurd (some-ne-none u (sym e))

  either_of : (a b u : X) (id : ℕ) → get_elem? (a ∷ b ∷ []) id ≡ some u → ((id ≡ 0) × (a ≡ u)) ⊎ ((id ≡ 1) × (b ≡ u))
  either_of a b u zero e = inl (refl, some-injective a u e)
  either_of a b u (suc id) e = let z = alone b u id e in inr (ap suc z.0, z.1)

module _ {T : Type 0} where
  empty_is : (k : ℕ) (x : Option T) → is_empty_slot k x ≡ true → ◌≡◌ {A = ℕ × Option T} (k, x) (0, None)
  empty_is zero None e = refl
  empty_is zero (Some t) e = absurd (cc e)
  empty_is (suc k) x e = absurd (cc e)

  has_it : (held : List (ℕ × Option T)) → has_slot true held ≡ true → held ≡ (0, None) ∷ []
  has_it [] e = absurd (cc e)
  has_it (x ∷ []) e = ap (λ y. y ∷ []) (empty_is x.0 x.1 e)
  has_it (x ∷ y ∷ xs) e = absurd (cc e)

  has_none : (held : List (ℕ × Option T)) → has_slot false held ≡ true → held ≡ []
  has_none [] e = refl
  has_none (x ∷ xs) e = absurd (cc e)

  held_out : (w : Option T) (held : List (ℕ × Option T)) → w ≢ None → has_slot (is_none w) held ≡ true → held ≡ []
  held_out None held n h = absurd (n refl)
  held_out (Some t) held n h = has_none held h

  held_in : (w : Option T) (held : List (ℕ × Option T)) → w ≢ None → has_slot (is_some w) held ≡ true → held ≡ (0, None) ∷ []
  held_in None held n h = absurd (n refl)
  held_in (Some t) held n h = has_it held h

  abbrev or_else : T → Option T → T
  or_else a None = a
  or_else a (Some b) = b

  pub some_is : (a b : T) → Some a ≡ Some b → a ≡ b
  some_is a b e = ap (or_else a) e

  -- a seat that has one slot, as an exchange asks and tells

  pub one_slot : (held : List (ℕ × Option T)) (x : ℕ × Option T) → held ≡ x ∷ [] → held ≡ x ∷ rest held
  one_slot held x e = e ∙ ap (λ l. x ∷ rest l) (sym e)

  pub slot_is : (held : List (ℕ × Option T)) (a b : Option T) → held ≡ (0, b) ∷ rest held → held ≡ (0, a) ∷ [] → b ≡ a
  slot_is held a b e f = ap slot_in (sym e ∙ f)

module _ {T S : Type 0} where
  abbrev stage_of : DeskSeatView T S → Stage
  stage_of v = v.stage

  -- a side with work is no side behind the end
  pub at_work : (works ended : Stage) (side : DeskSeatView T S) → IsSide works ended side → side.work ≢ None → side.stage ≡ works
  at_work works ended side (inl s) n = s
  at_work works ended side (inr e) n = absurd (n e.1)

  -- a seat, by what is kept of it

  view_is : (v : DeskSeatView T S) (stage : Stage) (work : Option T) → v.stage ≡ stage → v.work ≡ work → v ≡ record { stage = stage; terms = v.terms; work = work }
  view_is v stage work s w i = record { stage = s i; terms = v.terms; work = w i }

  seat_is : (me : Seated T S) (stage : Stage) (work : Option T) (held : List (ℕ × Option T)) → me.0.stage ≡ stage → me.0.work ≡ work → me.1 ≡ held → me ≡ (record { stage = stage; terms = me.0.terms; work = work }, held)
  seat_is me stage work held s w h i = (view_is me.0 stage work s w i, h i)

  pub giver_idle : (me : Seated T S) → me.0.stage ≡ Gives → me.0.work ≡ None → has_slot (is_none me.0.work) me.1 ≡ true → me ≡ (giver me.0.terms None, (0, None) ∷ [])
  giver_idle me s w h = seat_is me Gives None ((0, None) ∷ []) s w (has_it me.1 (ap (λ x. has_slot (is_none x) me.1) (sym w) ∙ h))

  pub giver_waits : (me : Seated T S) → me.0.stage ≡ Gives → me.0.work ≢ None → has_slot (is_none me.0.work) me.1 ≡ true → me ≡ (giver me.0.terms me.0.work, [])
  giver_waits me s n h = seat_is me Gives me.0.work [] s refl (held_out me.0.work me.1 n h)

  pub doer_idle : (me : Seated T S) → me.0.stage ≡ Does → me.0.work ≡ None → has_slot (is_some me.0.work) me.1 ≡ true → me ≡ (doer me.0.terms None, [])
  doer_idle me s w h = seat_is me Does None [] s w (has_none me.1 (ap (λ x. has_slot (is_some x) me.1) (sym w) ∙ h))

  pub doer_busy : (me : Seated T S) → me.0.stage ≡ Does → me.0.work ≢ None → has_slot (is_some me.0.work) me.1 ≡ true → me ≡ (doer me.0.terms me.0.work, (0, None) ∷ [])
  doer_busy me s n h = seat_is me Does me.0.work ((0, None) ∷ []) s refl (held_in me.0.work me.1 n h)

module _ {T S : Type 0} (unset : S) (ready : S → T → Type 0) (done : S → T → T → Type 0) where
  abbrev Desk : Type 0
  Desk = State (Option T) (DeskSeatView T S)

  abbrev DeskRule : Desk → Type 0
  DeskRule = IsLawful unset ready done

  abbrev Stand : S → ℕ → Home (Option T) → Option T → Option T → Type 0
  Stand = Stands ready done

  -- what a step asks of one desk
  abbrev Goes : ℕ → Seated T S → (ℕ → ℕ) → (ℕ → Seated T S → Type 0) → Desk → Type 0
  Goes id me f then s = (w : DeskSeatView T S) × (a : Act (Option T)) × Valid s.homes me.1 a × DeskRule (stepped s 0 (f (get_or s.words 0 0)) id me.1 w a) × then (get_or s.words 0 0) (w, carried_after me.1 a)

  abbrev sides : S → Option T → Option T → List (DeskSeatView T S)
  sides terms handed in_hand = giver terms handed ∷ doer terms in_hand ∷ []

  runs : (terms : S) (word : ℕ) (home : Home (Option T)) (handed in_hand : Option T) → Stand terms word home handed in_hand → DeskRule (desk word home (sides terms handed in_hand))
  runs terms word home handed in_hand stands = inr (inr (inl (record { word = word; home = home; terms = terms; handed = handed; in_hand = in_hand; is = refl; stands = stands })))

  has_ended : (terms : S) (home : Home (Option T)) (other : DeskSeatView T S) → home ≡ none → (other ≡ doer terms None) ⊎ (other ≡ dismissed terms) → DeskRule (desk 2 home (told terms ∷ other ∷ []))
  has_ended terms home other h knows = inr (inr (inr (record { terms = terms; other = other; is = ap (λ x. desk 2 x (told terms ∷ other ∷ [])) h; knows = knows })))

  not_new : (u : DeskSeatView T S) (s : Desk) (id : ℕ) (v : DeskSeatView T S) (word : ℕ) (home : Home (Option T)) → s ≡ desk word home (v ∷ []) → get_elem? s.views id ≡ some u → v ≡ u
  not_new u s id v word home is at = (alone v u id (ap (λ (d : Desk). get_elem? d.views id) (sym is) ∙ at)).1

  -- a seat at a desk whose end was told: of who told it, of who found it, or of who did the work
  at_end : (s : Desk) (e : Ended s) (id : ℕ) (u : DeskSeatView T S) → get_elem? s.views id ≡ some u
      → (u.stage ≡ Told) ⊎ ((u.stage ≡ Dismissed) ⊎ ((id ≡ 1) × (u ≡ doer e.terms None) × (s ≡ desk 2 none (told e.terms ∷ doer e.terms None ∷ []))))
  at_end s e id u at =
      let Seat : Type 0 = (u.stage ≡ Told) ⊎ ((u.stage ≡ Dismissed) ⊎ ((id ≡ 1) × (u ≡ doer e.terms None) × (s ≡ desk 2 none (told e.terms ∷ doer e.terms None ∷ [])))) in
      elim (either_of (told e.terms) e.other u id (ap (λ (d : Desk). get_elem? d.views id) (sym e.is) ∙ at)) as (λ _. Seat) [
        | inl z ↦ inl (ap stage_of (sym z.1))
        | inr z ↦ elim e.knows as (λ _. Seat) [
          | inl k ↦ inr (inr (z.0, sym z.1 ∙ k, e.is ∙ ap (λ (o : DeskSeatView T S). desk 2 none (told e.terms ∷ o ∷ [])) k))
          | inr k ↦ inr (inl (ap stage_of (sym z.1 ∙ k)))
        ]
      ]

  not_at_end : (s : Desk) (e : Ended s) (id : ℕ) (u : DeskSeatView T S) → u.stage ≢ Told → u.stage ≢ Dismissed → u.stage ≢ Does → get_elem? s.views id ≡ some u → ⊥
  not_at_end s e id u no_told no_dismissed no_doer at =
      elim (at_end s e id u at) as (λ _. ⊥) [
        | inl t ↦ no_told t
        | inr r ↦ elim r as (λ _. ⊥) [
          | inl d ↦ no_dismissed d
          | inr z ↦ no_doer (ap stage_of z.1)
        ]
      ]

  giver_step : (f : ℕ → ℕ) (then : ℕ → Seated T S → Type 0) (terms : S) (handed : Option T) (held : List (ℕ × Option T))
      → ((word : ℕ) (home : Home (Option T)) (in_hand : Option T) → Stand terms word home handed in_hand → Goes 0 (giver terms handed, held) f then (desk word home (sides terms handed in_hand)))
      → (slots id : ℕ) → Allows DeskRule slots id (giver terms handed, held) 0 f then
  giver_step f then terms handed held go slots id s (inl e) _ at _ = absurd (cc (ap stage_of (not_new (giver terms handed) s id (new unset) 0 (some None) e at)))
  giver_step f then terms handed held go slots id s (inr (inl e)) _ at _ = absurd (cc (ap stage_of (not_new (giver terms handed) s id (open_desk unset) 0 none e at)))
  giver_step f then terms handed held go slots id s (inr (inr (inr e))) _ at _ = absurd (not_at_end s e id (giver terms handed) (λ h. cc h) (λ h. cc h) (λ h. cc h) at)
  giver_step f then terms handed held go slots id s (inr (inr (inl r))) _ at _ =
      elim (either_of (giver r.terms r.handed) (doer r.terms r.in_hand) (giver terms handed) id (ap (λ (d : Desk). get_elem? d.views id) (sym r.is) ∙ at)) as (λ _. Goes id (giver terms handed, held) f then s) [
        | inl z ↦
            let t : r.terms ≡ terms = ap (λ (v : DeskSeatView T S). v.terms) z.1 in
            let h : r.handed ≡ handed = ap (λ (v : DeskSeatView T S). v.work) z.1 in
            subst (λ (y : ℕ × Desk). Goes y.0 (giver terms handed, held) f then y.1)
            (λ i. (sym z.0 i, (sym (r.is ∙ (λ j. desk r.word r.home (sides (t j) (h j) r.in_hand)))) i))
            (go r.word r.home r.in_hand (subst (λ (y : S × Option T). Stand y.0 r.word r.home y.1 r.in_hand) (λ i. (t i, h i)) r.stands))
        | inr z ↦ absurd (cc (ap stage_of z.1))
      ]

  doer_step : (f : ℕ → ℕ) (then : ℕ → Seated T S → Type 0) (terms : S) (in_hand : Option T) (held : List (ℕ × Option T))
      → ((word : ℕ) (home : Home (Option T)) (handed : Option T) → Stand terms word home handed in_hand → Goes 1 (doer terms in_hand, held) f then (desk word home (sides terms handed in_hand)))
      → (None ≡ in_hand → Goes 1 (doer terms in_hand, held) f then (desk 2 none (told terms ∷ doer terms in_hand ∷ [])))
      → (slots id : ℕ) → Allows DeskRule slots id (doer terms in_hand, held) 0 f then
  doer_step f then terms in_hand held go last slots id s (inl e) _ at _ = absurd (cc (ap stage_of (not_new (doer terms in_hand) s id (new unset) 0 (some None) e at)))
  doer_step f then terms in_hand held go last slots id s (inr (inl e)) _ at _ = absurd (cc (ap stage_of (not_new (doer terms in_hand) s id (open_desk unset) 0 none e at)))
  doer_step f then terms in_hand held go last slots id s (inr (inr (inr e))) _ at _ =
      elim (at_end s e id (doer terms in_hand) at) as (λ _. Goes id (doer terms in_hand, held) f then s) [
        | inl h ↦ absurd (cc h)
        | inr r ↦ elim r as (λ _. Goes id (doer terms in_hand, held) f then s) [
          | inl h ↦ absurd (cc h)
          | inr z ↦
              let t : e.terms ≡ terms = ap (λ (v : DeskSeatView T S). v.terms) (sym z.1) in
              let h : None ≡ in_hand = ap (λ (v : DeskSeatView T S). v.work) (sym z.1) in
              subst (λ (y : ℕ × Desk). Goes y.0 (doer terms in_hand, held) f then y.1)
              (λ i. (sym z.0 i, (sym (z.2 ∙ (λ j. desk 2 none (told (t j) ∷ doer (t j) (h j) ∷ [])))) i))
              (last h)
        ]
      ]
  doer_step f then terms in_hand held go last slots id s (inr (inr (inl r))) _ at _ =
      elim (either_of (giver r.terms r.handed) (doer r.terms r.in_hand) (doer terms in_hand) id (ap (λ (d : Desk). get_elem? d.views id) (sym r.is) ∙ at)) as (λ _. Goes id (doer terms in_hand, held) f then s) [
        | inl z ↦ absurd (cc (ap stage_of z.1))
        | inr z ↦
            let t : r.terms ≡ terms = ap (λ (v : DeskSeatView T S). v.terms) z.1 in
            let h : r.in_hand ≡ in_hand = ap (λ (v : DeskSeatView T S). v.work) z.1 in
            subst (λ (y : ℕ × Desk). Goes y.0 (doer terms in_hand, held) f then y.1)
            (λ i. (sym z.0 i, (sym (r.is ∙ (λ j. desk r.word r.home (sides (t j) r.handed (h j))))) i))
            (go r.word r.home r.handed (subst (λ (y : S × Option T). Stand y.0 r.word r.home r.handed y.1) (λ i. (t i, h i)) r.stands))
      ]

  hand_goes : (terms : S) (t : T) → ready terms t → (word : ℕ) (home : Home (Option T)) (in_hand : Option T) → Stand terms word home None in_hand
      → Goes 0 (giver terms None, (0, Some t) ∷ []) (λ _. 1) (λ _ m. m ≡ (giver terms (Some t), [])) (desk word home (sides terms None in_hand))
  hand_goes terms t may word home None st = (giver terms (Some t), gives, tt, runs terms 1 (some (Some t)) (Some t) None (inl (refl, refl, may)), refl)
  hand_goes terms t may word home (Some u) st = absurd st

  end_goes : (terms : S) (held : List (ℕ × Option T)) (word : ℕ) (home : Home (Option T)) (in_hand : Option T) → Stand terms word home None in_hand
      → Goes 0 (giver terms None, held) (λ _. 2) (λ _ m. m ≡ (told terms, held)) (desk word home (sides terms None in_hand))
  end_goes terms held word home None st = (told terms, keeps, tt, has_ended terms home (doer terms None) st.1 (inl refl), refl)
  end_goes terms held word home (Some u) st = absurd st

  give_goes : (terms : S) (t u : T) → done terms t u → (word : ℕ) (home : Home (Option T)) (handed : Option T) → Stand terms word home handed (Some t)
      → Goes 1 (doer terms (Some t), (0, Some u) ∷ []) (λ _. 0) (λ _ m. m ≡ (doer terms None, [])) (desk word home (sides terms handed (Some t)))
  give_goes terms t u did word home None st = absurd st
  give_goes terms t u did word home (Some v) st = (doer terms None, gives, tt, runs terms 0 (some (Some u)) (Some v) None (inr (refl, (u, refl, subst (λ y. done terms y u) st.2 did))), refl)

  look_goes : (terms : S) (word : ℕ) (home : Home (Option T)) (handed : Option T) → Stand terms word home handed None
      → Goes 1 (doer terms None, []) (λ n. n) (looks ready (step 1 0 0 0 none) (doer terms None, [])) (desk word home (sides terms handed None))
  look_goes terms word home None st = (doer terms None, keeps, tt, runs terms word home None None st, (λ e. absurd (omega (arith, e, st.0)), λ e. absurd (omega (arith, e, st.0)), λ _ _. refl))
  look_goes terms word home (Some t) (inl st) =
      (doer terms (Some t), takes 0 (Some t), ap some st.1, runs terms word none (Some t) (Some t) (st.0, refl, refl), (λ _. (t, st.2, refl), λ e. absurd (omega (arith, e, st.0)), λ n _. absurd (n st.0)))
  look_goes terms word home (Some t) (inr st) =
      (doer terms None, keeps, tt, runs terms word home (Some t) None (inr st), (λ e. absurd (omega (arith, e, st.0)), λ e. absurd (omega (arith, e, st.0)), λ _ _. refl))

  look_last : (terms : S) → Goes 1 (doer terms None, []) (λ n. n) (looks ready (step 1 0 0 0 none) (doer terms None, [])) (desk 2 none (told terms ∷ doer terms None ∷ []))
  look_last terms = (dismissed terms, keeps, tt, has_ended terms none (dismissed terms) refl (inr refl), (λ e. absurd (omega (arith, e)), λ _. refl, λ _ n. absurd (n refl)))

  await_goes : (terms : S) (t : T) (word : ℕ) (home : Home (Option T)) (in_hand : Option T) → Stand terms word home (Some t) in_hand
      → Goes 0 (giver terms (Some t), []) (λ n. n) (awaits done (step 1 0 0 0 none) (giver terms (Some t), [])) (desk word home (sides terms (Some t) in_hand))
  await_goes terms t word home (Some u) st = (giver terms (Some t), keeps, tt, runs terms word home (Some t) (Some u) st, (λ e. absurd (omega (arith, e, st.0)), λ _. refl))
  await_goes terms t word home None (inl st) = (giver terms (Some t), keeps, tt, runs terms word home (Some t) None (inl st), (λ e. absurd (omega (arith, e, st.0)), λ _. refl))
  await_goes terms t word home None (inr st) =
      (giver terms None, takes 0 (Some st.1.0), ap some st.1.1, runs terms word none None None (st.0, refl), (λ _. (st.1.0, st.1.2, refl), λ n. absurd (n st.0)))

  -- The steps above, from what a caller knows of its seat

  pub hand_rule : (slots id : ℕ) (me : Seated T S) (terms : S) (t : T) → me ≡ (giver terms None, (0, Some t) ∷ []) → ready terms t → Allows DeskRule slots id me 0 (λ _. 1) (λ _. hands (step slots 0 1 0 none) me 1)
  hand_rule slots id me terms t e may = subst (λ (y : Seated T S). Allows DeskRule slots id y 0 (λ _. 1) (λ _. hands (step slots 0 1 0 none) y 1)) (sym e)
      (giver_step (λ _. 1) (λ _ m. m ≡ (giver terms (Some t), [])) terms None ((0, Some t) ∷ []) (hand_goes terms t may) slots id)

  pub end_rule : (slots id : ℕ) (me : Seated T S) (terms : S) (held : List (ℕ × Option T)) → me ≡ (giver terms None, held) → Allows DeskRule slots id me 0 (λ _. 2) (λ _. ends (step slots 0 2 0 none) me 2)
  end_rule slots id me terms held e = subst (λ (y : Seated T S). Allows DeskRule slots id y 0 (λ _. 2) (λ _. ends (step slots 0 2 0 none) y 2)) (sym e)
      (giver_step (λ _. 2) (λ _ m. m ≡ (told terms, held)) terms None held (end_goes terms held) slots id)

  pub give_rule : (slots id : ℕ) (me : Seated T S) (terms : S) (work : Option T) (u : T) → me ≡ (doer terms work, (0, Some u) ∷ []) → work ≢ None → IfSome work (λ t. done terms t u)
      → Allows DeskRule slots id me 0 (λ _. 0) (λ _. gives_back (step slots 0 0 0 none) me 0)
  give_rule slots id me terms None u e n did = absurd (n refl)
  give_rule slots id me terms (Some t) u e n did = subst (λ (y : Seated T S). Allows DeskRule slots id y 0 (λ _. 0) (λ _. gives_back (step slots 0 0 0 none) y 0)) (sym e)
      (doer_step (λ _. 0) (λ _ m. m ≡ (doer terms None, [])) terms (Some t) ((0, Some u) ∷ []) (give_goes terms t u did) (λ e. absurd (cc e)) slots id)

  pub look_rule : (slots id : ℕ) (me : Seated T S) (terms : S) → me ≡ (doer terms None, []) → Allows DeskRule slots id me 0 (λ n. n) (looks ready (step slots 0 0 0 none) me)
  look_rule slots id me terms e = subst (λ (y : Seated T S). Allows DeskRule slots id y 0 (λ n. n) (looks ready (step slots 0 0 0 none) y)) (sym e)
      (doer_step (λ n. n) (looks ready (step slots 0 0 0 none) (doer terms None, [])) terms None [] (look_goes terms) (λ _. look_last terms) slots id)

  pub await_rule : (slots id : ℕ) (me : Seated T S) (terms : S) (work : Option T) → me ≡ (giver terms work, []) → work ≢ None → Allows DeskRule slots id me 0 (λ n. n) (awaits done (step slots 0 0 0 none) me)
  await_rule slots id me terms None e n = absurd (n refl)
  await_rule slots id me terms (Some t) e n = subst (λ (y : Seated T S). Allows DeskRule slots id y 0 (λ n. n) (awaits done (step slots 0 0 0 none) y)) (sym e)
      (giver_step (λ n. n) (awaits done (step slots 0 0 0 none) (giver terms (Some t), [])) terms (Some t) [] (await_goes terms t) slots id)

  open_step : (slots id : ℕ) → Allows DeskRule slots id (new unset, []) 0 (λ n. n) (opens (step slots 0 0 0 none) (new unset, []))
  open_step slots id s (inl e) _ at _ =
      let here = alone (new unset) (new unset) id (ap (λ (d : Desk). get_elem? d.views id) (sym e) ∙ at) in
      subst (λ (y : ℕ × Desk). Goes y.0 (new unset, []) (λ n. n) (opens (step slots 0 0 0 none) (new unset, [])) y.1) (λ i. (sym here.0 i, sym e i))
      (open_desk unset, takes 0 None, refl, inr (inl refl), refl)
  open_step slots id s (inr (inl e)) _ at _ = absurd (cc (ap stage_of (not_new (new unset) s id (open_desk unset) 0 none e at)))
  open_step slots id s (inr (inr (inr e))) _ at _ = absurd (not_at_end s e id (new unset) (λ h. cc h) (λ h. cc h) (λ h. cc h) at)
  open_step slots id s (inr (inr (inl r))) _ at _ =
      elim (either_of (giver r.terms r.handed) (doer r.terms r.in_hand) (new unset) id (ap (λ (d : Desk). get_elem? d.views id) (sym r.is) ∙ at)) as (λ _. Goes id (new unset, []) (λ n. n) (opens (step slots 0 0 0 none) (new unset, [])) s) [
        | inl z ↦ absurd (cc (ap stage_of z.1))
        | inr z ↦ absurd (cc (ap stage_of z.1))
      ]

  pub open_rule : (slots id : ℕ) (me : Seated T S) → me ≡ (new unset, []) → Allows DeskRule slots id me 0 (λ n. n) (opens (step slots 0 0 0 none) me)
  open_rule slots id me e = subst (λ (y : Seated T S). Allows DeskRule slots id y 0 (λ n. n) (opens (step slots 0 0 0 none) y)) (sym e) (open_step slots id)

  pub split_rule : (id : ℕ) (v : DeskSeatView T S) (terms : S) → v ≡ open_desk unset → Splits DeskRule id v (giver terms None) (doer terms None)
  split_rule id v terms e s law at =
      let at' : get_elem? s.views id ≡ some (open_desk unset) = at ∙ ap some e in
      let After : ℕ → Desk → Type 0 = λ id s. DeskRule record { words = s.words; homes = s.homes; views = set s.views id (giver terms None) ++ doer terms None ∷ [] } in
      elim law as (λ _. After id s) [
        | inl e ↦ absurd (cc (ap stage_of (not_new (open_desk unset) s id (new unset) 0 (some None) e at')))
        | inr law ↦ elim law as (λ _. After id s) [
          | inl e ↦
              let here = alone (open_desk unset) (open_desk unset) id (ap (λ (d : Desk). get_elem? d.views id) (sym e) ∙ at') in
              subst (λ (y : ℕ × Desk). After y.0 y.1) (λ i. (sym here.0 i, sym e i)) (runs terms 0 none None None (refl, refl))
          | inr law ↦ elim law as (λ _. After id s) [
            | inl r ↦ elim (either_of (giver r.terms r.handed) (doer r.terms r.in_hand) (open_desk unset) id (ap (λ (d : Desk). get_elem? d.views id) (sym r.is) ∙ at')) as (λ _. After id s) [
              | inl z ↦ absurd (cc (ap stage_of z.1))
              | inr z ↦ absurd (cc (ap stage_of z.1))
            ]
            | inr e ↦ absurd (not_at_end s e id (open_desk unset) (λ h. cc h) (λ h. cc h) (λ h. cc h) at')
          ]
        ]
      ]
