-- A round at a row of free desks: what is handed there, and what comes back.
use Rattle.std.proofs.Common.{◌≡◌, ℕ, zero, suc, ◌<◌, List, [], ◌∷◌, length, map, replicate, slice_index_or, All, None, refl, ap, arith}
use Rattle.std.proofs.lemmas.List.Elements.{All-head, All-tail}
use Rattle.work_desk.specs.declared.rule.DeskSeatView.{DeskSeatView}
use Rattle.work_desk.specs.Desk.{giver, told}
use Rattle.work_desk.specs.Rows.{free_again, all_told, handed, AllHanded, MayHand, Returned}

module _ {T S : Type 0} (terms : S) where
  abbrev pub free : ℕ → List (DeskSeatView T S)
  free n = replicate n (giver terms None)

  pub may_hand : (ready : S → T → Type 0) (ws : List T) → All (ready terms) ws → MayHand ready ws (free (length ws))
  may_hand ready [] all = tt
  may_hand ready (w ∷ ws) all = (refl, All-head (ready terms) w ws all, may_hand ready ws (All-tail (ready terms) w ws all))

  pub all_handed : (ws : List T) → AllHanded (handed ws (free (length ws)))
  all_handed [] = tt
  all_handed (w ∷ ws) = ((λ e. absurd (cc e)), all_handed ws)

  pub length-handed : (ws : List T) → length (handed ws (free (length ws))) ≡ length ws
  length-handed [] = refl
  length-handed (w ∷ ws) = ap suc (length-handed ws)

  pub freed : (ws : List T) → map (λ g. free_again g) (handed ws (free (length ws))) ≡ free (length ws)
  freed [] = refl
  freed (w ∷ ws) = ap (λ l. giver terms None ∷ l) (freed ws)

  -- the end is told at each free desk
  pub dismiss : (n : ℕ) → all_told (free n) ≡ replicate n (told terms)
  dismiss zero = refl
  dismiss (suc n) = ap (λ l. told terms ∷ l) (dismiss n)

  later : (done : S → T → T → Type 0) (w u : T) (ws us : List T) → done terms w u → ((i : ℕ) (d : T) → i < length ws → done terms (slice_index_or ws i d) (slice_index_or us i d))
      → (i : ℕ) (d : T) → i < length (w ∷ ws) → done terms (slice_index_or (w ∷ ws) i d) (slice_index_or (u ∷ us) i d)
  later done w u ws us first each zero d less = first
  later done w u ws us first each (suc i) d less = each i d (omega (arith, less))

  pub each_ran : (done : S → T → T → Type 0) (ws us : List T) → Returned done (handed ws (free (length ws))) us
      → (length us ≡ length ws) × ((i : ℕ) (d : T) → i < length ws → done terms (slice_index_or ws i d) (slice_index_or us i d))
  each_ran done [] [] back = (refl, λ i d less. absurd (omega (arith, less)))
  each_ran done [] (u ∷ us) back = absurd back
  each_ran done (w ∷ ws) [] back = absurd back
  each_ran done (w ∷ ws) (u ∷ us) back =
      let r = each_ran done ws us back.1 in
      (ap suc r.0, later done w u ws us back.0 r.1)
