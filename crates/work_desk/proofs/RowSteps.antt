-- Work is handed over from the last to the first, and taken back from the first to the last.
use Rattle.std.proofs.Common.{◌≡◌, ◌≢◌, ℕ, zero, suc, ◌<◌, ◌≤◌, List, [], ◌∷◌, ◌++◌, length, map, slice_get, slice_set, refl, sym, ap, subst, arith, Some, None, IfSome}
use Rattle.work_desk.specs.declared.rule.DeskSeatView.{DeskSeatView}
use Rattle.work_desk.specs.Desk.{giver, told}
use Rattle.work_desk.specs.Rows.{free_again, all_told, handed, AllHanded, MayHand, Returned}
use Rattle.work_desk.proofs.Steps.{some_is}

module _ {T S : Type 0} (ready : S → T → Type 0) where
  -- the desk at which the last work is handed
  pub record Last (ws : List T) (w : T) (gs : List (DeskSeatView T S)) : Type 0 where
    pub at : DeskSeatView T S
    pub is : slice_get gs (length ws) ≡ Some at
    pub free : at ≡ giver at.terms None
    pub may : ready at.terms w
    pub left : MayHand ready ws (slice_set gs (length ws) (giver at.terms (Some w)))
    pub same : handed ws (slice_set gs (length ws) (giver at.terms (Some w))) ≡ handed (ws ++ w ∷ []) gs

  pub last_of : (ws : List T) (w : T) (gs : List (DeskSeatView T S)) → MayHand ready (ws ++ w ∷ []) gs → Last ws w gs
  last_of [] w [] may = absurd may
  last_of [] w (g ∷ gs) may = record { at = g; is = refl; free = may.0; may = may.1; left = tt; same = refl }
  last_of (x ∷ xs) w [] may = absurd may
  last_of (x ∷ xs) w (g ∷ gs) may =
      let r = last_of xs w gs may.2 in
      record { at = r.at; is = r.is; free = r.free; may = r.may; left = (may.0, may.1, r.left); same = ap (λ l. giver g.terms (Some x) ∷ l) r.same }

module _ {T S : Type 0} (done : S → T → T → Type 0) where
  -- the first desks have their work back, and the others are as they were
  abbrev pub TakenTo : List (DeskSeatView T S) → List (DeskSeatView T S) → List T → Type 0
  TakenTo gs ns [] = (ns ≡ gs) × AllHanded gs
  TakenTo [] ns (u ∷ us) = ⊥
  TakenTo (g ∷ gs) [] (u ∷ us) = ⊥
  TakenTo (g ∷ gs) (n ∷ ns) (u ∷ us) = (n ≡ free_again g) × IfSome g.work (λ t. done g.terms t u) × TakenTo gs ns us

  pub record Next (gs ns : List (DeskSeatView T S)) (us : List T) : Type 0 where
    pub at : DeskSeatView T S
    pub is : slice_get ns (length us) ≡ Some at
    pub work : at.work ≢ None
    pub goes : (u : T) → IfSome at.work (λ t. done at.terms t u) → TakenTo gs (slice_set ns (length us) (free_again at)) (us ++ u ∷ [])

  next_new : (gs : List (DeskSeatView T S)) → AllHanded gs → 0 < length gs → Next gs gs []
  next_new [] all less = absurd (omega (arith, less))
  next_new (g ∷ gs) all less = record { at = g; is = refl; work = all.0; goes = λ u d. (refl, d, (refl, all.1)) }

  pub next_of : (gs ns : List (DeskSeatView T S)) (us : List T) → TakenTo gs ns us → length us < length ns → Next gs ns us
  next_of gs ns [] so_far less = subst (λ (l : List (DeskSeatView T S)). Next gs l []) (sym so_far.0) (next_new gs so_far.1 (omega (arith, less, ap length so_far.0)))
  next_of [] ns (u ∷ us) so_far less = absurd so_far
  next_of (g ∷ gs) [] (u ∷ us) so_far less = absurd so_far
  next_of (g ∷ gs) (n ∷ ns) (u ∷ us) so_far less =
      let r = next_of gs ns us so_far.2 (omega (arith, less)) in
      record { at = r.at; is = r.is; work = r.work; goes = λ x d. (so_far.0, so_far.1, r.goes x d) }

  taken_long : (gs ns : List (DeskSeatView T S)) (us : List T) → TakenTo gs ns us → length ns ≡ length gs
  taken_long gs ns [] so_far = ap length so_far.0
  taken_long [] ns (u ∷ us) so_far = absurd so_far
  taken_long (g ∷ gs) [] (u ∷ us) so_far = absurd so_far
  taken_long (g ∷ gs) (n ∷ ns) (u ∷ us) so_far = ap suc (taken_long gs ns us so_far.2)

  pub long_of : (gs ns : List (DeskSeatView T S)) (us : List T) → TakenTo gs ns us → length ns ≡ length gs
  long_of = taken_long

  pub all_taken : (gs ns : List (DeskSeatView T S)) (us : List T) → TakenTo gs ns us → length gs ≤ length us → Returned done gs us × (ns ≡ map (λ g. free_again g) gs)
  all_taken [] ns [] so_far most = (tt, so_far.0)
  all_taken (g ∷ gs) ns [] so_far most = absurd (omega (arith, most))
  all_taken [] ns (u ∷ us) so_far most = absurd so_far
  all_taken (g ∷ gs) [] (u ∷ us) so_far most = absurd so_far
  all_taken (g ∷ gs) (n ∷ ns) (u ∷ us) so_far most =
      let r = all_taken gs ns us so_far.2 (omega (arith, most)) in
      ((so_far.1, r.0), (λ i. so_far.0 i ∷ r.1 i))

module _ {T S : Type 0} where
  -- the end was told at the first so many desks
  abbrev pub told_to : ℕ → List (DeskSeatView T S) → List (DeskSeatView T S)
  told_to zero gs = gs
  told_to (suc n) [] = []
  told_to (suc n) (g ∷ gs) = told g.terms ∷ told_to n gs

  -- the next desk is as it was, and then it is told there too
  pub not_told_yet : (n : ℕ) (gs : List (DeskSeatView T S)) → slice_get (told_to n gs) n ≡ slice_get gs n
  not_told_yet zero gs = refl
  not_told_yet (suc n) [] = refl
  not_told_yet (suc n) (g ∷ gs) = not_told_yet n gs

  pub told_next : (n : ℕ) (gs : List (DeskSeatView T S)) (g : DeskSeatView T S) → slice_get gs n ≡ Some g → slice_set (told_to n gs) n (told g.terms) ≡ told_to (suc n) gs
  told_next zero [] g e = refl
  told_next zero (x ∷ gs) g e = ap (λ (k : DeskSeatView T S). told k.terms ∷ gs) (some_is g x (sym e))
  told_next (suc n) [] g e = refl
  told_next (suc n) (x ∷ gs) g e = ap (λ l. told x.terms ∷ l) (told_next n gs g e)

  pub length-told : (n : ℕ) (gs : List (DeskSeatView T S)) → length (told_to n gs) ≡ length gs
  length-told zero gs = refl
  length-told (suc n) [] = refl
  length-told (suc n) (g ∷ gs) = ap suc (length-told n gs)

  pub told_all : (n : ℕ) (gs : List (DeskSeatView T S)) → length gs ≤ n → told_to n gs ≡ all_told gs
  told_all zero [] most = refl
  told_all zero (g ∷ gs) most = absurd (omega (arith, most))
  told_all (suc n) [] most = refl
  told_all (suc n) (g ∷ gs) most = ap (λ l. told g.terms ∷ l) (told_all n gs (omega (arith, most)))
