-- Texts and their lines.
use Rattle.std.proofs.Common.{◌≡◌, ℕ, List, [], ◌∷◌, ◌++◌, cond, refl, ap, arith, Bool, true, false, eqb, eqb-true, flat_map, ◌⊎◌, inl, inr}
use Rattle.std.proofs.lemmas.Grind.{common_steps}
use Rattle.mica_trace.specs.Lines.{onto_first, lines_of, Lacks}

-- each text with a line feed behind it
abbrev pub fed : List (List ℕ) → List ℕ
fed texts = flat_map (λ t. t ++ 10 ∷ []) texts

-- where a byte stands behind parts that lack it, the parts are the same
pub one_split : (byte : ℕ) (a b c d : List ℕ) → Lacks byte a → Lacks byte c → a ++ byte ∷ b ≡ c ++ byte ∷ d → (a ≡ c) × (b ≡ d)
one_split byte [] b [] d a_lacks c_lacks same = (refl, cc)
one_split byte [] b (y ∷ c) d a_lacks c_lacks same = let head : y ≡ byte = cc in absurd (c_lacks.0 head)
one_split byte (x ∷ a) b [] d a_lacks c_lacks same = let head : x ≡ byte = cc in absurd (a_lacks.0 head)
one_split byte (x ∷ a) b (y ∷ c) d a_lacks c_lacks same = grind (arith, common_steps, one_split byte a b c d a_lacks.1 c_lacks.1)

pub Lacks_append : (byte : ℕ) (a b : List ℕ) → Lacks byte a → Lacks byte b → Lacks byte (a ++ b)
Lacks_append byte [] b left right = right
Lacks_append byte (x ∷ a) b left right = (left.0, Lacks_append byte a b left.1 right)

pub lacks_or_has : (byte : ℕ) (a b : List ℕ) → ¬ (Lacks byte (a ++ byte ∷ b))
lacks_or_has byte [] b lacks = lacks.0 refl
lacks_or_has byte (x ∷ a) b lacks = lacks_or_has byte a b lacks.1

-- a text is its lines, each with its line feed, which the last one may lack
abbrev pub IsFed : List ℕ → List ℕ → Type 0
IsFed text whole = (text ≡ whole) ⊎ (text ++ 10 ∷ [] ≡ whole)

fed_onto : (b : ℕ) (text : List ℕ) (texts : List (List ℕ)) → IsFed text (fed texts) → IsFed (b ∷ text) (fed (onto_first b texts))
fed_onto b text [] is = grind (arith, common_steps)
fed_onto b text (t ∷ texts) is = elim is [ inl whole ↦ inl (ap (λ x. b ∷ x) whole) | inr whole ↦ inr (ap (λ x. b ∷ x) whole) ]

pub fed_lines : (text : List ℕ) → IsFed text (fed (lines_of text))
fed_lines [] = inl refl
fed_lines (b ∷ text) = go (fed_lines text) (eqb b 10) refl
  where
    go : IsFed text (fed (lines_of text)) → (t : Bool) → eqb b 10 ≡ t → IsFed (b ∷ text) (fed (cond t ([] ∷ lines_of text) (onto_first b (lines_of text))))
    go rest true is = let here = eqb-true b 10 is in elim rest [ inl whole ↦ inl (cc) | inr whole ↦ inr (cc) ]
    go rest false is = fed_onto b text (lines_of text) rest

-- texts of the same lines differ in the last line feed alone
pub same_lines : (s t whole : List ℕ) → IsFed s whole → IsFed t whole → (s ≡ t) ⊎ ((s ≡ t ++ 10 ∷ []) ⊎ (t ≡ s ++ 10 ∷ []))
same_lines s t whole left right = grind (arith, common_steps)
