-- What is made of each two of two lists.
use Rattle.std.proofs.Common.{◌≡◌, ℕ, zero, suc, List, [], ◌∷◌, length, map, Some, refl, sym, ap, ◌∙◌, subst, slice_get, arith}
use Rattle.std.specs.List.{AllZip}
use Rattle.std.proofs.lemmas.List.{length-map}
use Rattle.std.proofs.lemmas.Option.{same_Some}

-- what is made of each two of two lists, as far as they are
module _ {X Y Z : Type 0} {Q : X → Y → Type 0} (make : (x : X) (y : Y) → Q x y → Z) where
  abbrev pub made_of : (xs : List X) (ys : List Y) → AllZip Q xs ys → List Z
  made_of [] [] z = []
  made_of [] (y ∷ ys) z = []
  made_of (x ∷ xs) [] z = []
  made_of (x ∷ xs) (y ∷ ys) z = make x y z.0 ∷ made_of xs ys z.1

  pub made_map : {W : Type 0} (g : Y → W) (h : Z → W) → ((x : X) (y : Y) (q : Q x y) → g y ≡ h (make x y q)) → (xs : List X) (ys : List Y) (z : AllZip Q xs ys)
      → map g ys ≡ map h (made_of xs ys z)
  made_map g h same [] [] z = refl
  made_map g h same [] (y ∷ ys) z = absurd z
  made_map g h same (x ∷ xs) [] z = absurd z
  made_map g h same (x ∷ xs) (y ∷ ys) z = λ i. same x y z.0 i ∷ made_map g h same xs ys z.1 i

  pub made_long : (xs : List X) (ys : List Y) (z : AllZip Q xs ys) → length (made_of xs ys z) ≡ length ys
  made_long xs ys z =
      sym (length-map (made_of xs ys z) (λ _. zero)) ∙ ap length (sym (made_map (λ _. zero) (λ _. zero) (λ x y q. refl) xs ys z)) ∙ length-map ys (λ _. zero)

  pub record MadeAt (xs : List X) (ys : List Y) (z : AllZip Q xs ys) (i : ℕ) (y : Y) : Type 0 where
    pub from : X
    pub both : Q from y
    pub at : slice_get xs i ≡ Some from
    pub is : slice_get (made_of xs ys z) i ≡ Some (make from y both)

  pub made_at : (xs : List X) (ys : List Y) (z : AllZip Q xs ys) (i : ℕ) (y : Y) → slice_get ys i ≡ Some y → MadeAt xs ys z i y
  made_at [] [] z zero y at = absurd (cc)
  made_at [] [] z (suc i) y at = absurd (cc)
  made_at [] (b ∷ ys) z i y at = absurd z
  made_at (a ∷ xs) [] z i y at = absurd z
  made_at (a ∷ xs) (b ∷ ys) z zero y at = subst (MadeAt (a ∷ xs) (b ∷ ys) z zero) (same_Some _ _ at) (record { from = a; both = z.0; at = refl; is = refl })
  made_at (a ∷ xs) (b ∷ ys) z (suc i) y at = let m = made_at xs ys z.1 i y at in record { from = m.from; both = m.both; at = m.at; is = m.is }

pub nil_of : {X : Type 0} (xs : List X) → length xs ≡ 0 → xs ≡ []
nil_of [] none = refl
nil_of (x ∷ xs) none = absurd (omega arith)
