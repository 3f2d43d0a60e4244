-- What is handed over at a row of desks, and what is taken back.
use Rattle.std.specs.Prelude.{◌≡◌, ◌≢◌, List, map, [], ◌∷◌, Some, None, IfSome, ⊤}
use Rattle.work_desk.specs.declared.rule.DeskSeatView.{DeskSeatView}
use Rattle.work_desk.specs.Desk.{giver, told}

module _ {T S : Type 0} where
  -- a giver whose work was taken back
  abbrev pub free_again : DeskSeatView T S → DeskSeatView T S
  free_again g = giver g.terms None

  -- the end was told at each desk
  abbrev pub all_told : List (DeskSeatView T S) → List (DeskSeatView T S)
  all_told gs = map (λ g. told g.terms) gs

  -- each desk that has work's place has that work
  abbrev pub handed : List T → List (DeskSeatView T S) → List (DeskSeatView T S)
  handed [] gs = gs
  handed (w ∷ ws) [] = []
  handed (w ∷ ws) (g ∷ gs) = giver g.terms (Some w) ∷ handed ws gs

  -- each of the givers has handed out work
  abbrev pub AllHanded : List (DeskSeatView T S) → Type 0
  AllHanded [] = ⊤
  AllHanded (g ∷ gs) = (g.work ≢ None) × AllHanded gs

  -- there is a free desk for each work, which may be handed there
  abbrev pub MayHand : (S → T → Type 0) → List T → List (DeskSeatView T S) → Type 0
  MayHand ready [] gs = ⊤
  MayHand ready (w ∷ ws) [] = ⊥
  MayHand ready (w ∷ ws) (g ∷ gs) = (g ≡ giver g.terms None) × ready g.terms w × MayHand ready ws gs

  -- what came back from each desk was done to what had been handed there
  abbrev pub Returned : (S → T → T → Type 0) → List (DeskSeatView T S) → List T → Type 0
  Returned done [] [] = ⊤
  Returned done [] (u ∷ us) = ⊥
  Returned done (g ∷ gs) [] = ⊥
  Returned done (g ∷ gs) (u ∷ us) = IfSome g.work (λ t. done g.terms t u) × Returned done gs us
