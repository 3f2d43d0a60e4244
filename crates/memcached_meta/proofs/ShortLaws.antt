-- How long what is told for flags is, where each stands once.
use Rattle.std.specs.Prelude.{◌||◌, ◌&&◌, ◌==◌, if◌then◌else◌}
use Rattle.std.specs.List.{list_any}
use Rattle.std.proofs.Common.{◌≡◌, ℕ, ◌+◌, ◌≤◌, List, [], ◌∷◌, Bool, true, false, Option, Some, None, length, nat_lt, nat_le, refl, sym, subst, ◌∙◌, eqb-true, true≢false, arith}
use Rattle.std.proofs.lemmas.Bool.{ltb-false, eq-eqb}
use Rattle.memcached_meta.specs.declared.fault.MetaFault.{MetaFault}
use Rattle.memcached_meta.specs.declared.fault.MetaFault.TheVariants.{LongOpaque}
use Rattle.memcached_meta.specs.declared.flags.TheConstants.{MAX_OPAQUE_LEN}
use Rattle.memcached_meta.specs.Flags.{letter_of, fault_in, fault_behind, flags_fault}
use Rattle.memcached_meta.specs.Short.{most_of_flag, most_of_flags}

abbrev seen : ℕ → List ℕ → Bool
seen letter letters = list_any (λ one. one == letter) letters

abbrev unless : Bool → ℕ → ℕ
unless seen n = if seen then 0 else n

-- the most bytes of flags that are none of these letters
abbrev left : ℕ → List ℕ → ℕ
left len letters =
    unless (seen 115 letters) 22 + (unless (seen 116 letters) 22 + (unless (seen 99 letters) 22 + (unless (seen 102 letters) 22
    + (unless (seen 107 letters) (len + 4) + unless (seen 79 letters) 33))))

abbrev Lessens : ℕ → List ℕ → List ℕ → ℕ → Type 0
Lessens len rest letters a = seen a letters ≡ false → fault_in (a ∷ rest) ≡ None → most_of_flag len (a ∷ rest) + left len (a ∷ letters) ≤ left len letters

opaque_short : (rest : List ℕ) → fault_in (79 ∷ rest) ≡ None → length rest ≤ 31
unfolding fault_in
opaque_short rest is = go (nat_lt MAX_OPAQUE_LEN (length rest)) refl is
  where
    go : (t : Bool) → nat_lt MAX_OPAQUE_LEN (length rest) ≡ t → (if t then Some LongOpaque else None) ≡ None → length rest ≤ 31
    go true long said = let bad : ⊥ = cc in absurd bad
    go false short said = let few = ltb-false _ _ short in omega (arith, few)

of_s : (len : ℕ) (rest letters : List ℕ) → Lessens len rest letters 115
of_s len rest letters fresh is = rw fresh (omega arith)

of_t : (len : ℕ) (rest letters : List ℕ) → Lessens len rest letters 116
of_t len rest letters fresh is = rw fresh (omega arith)

of_c : (len : ℕ) (rest letters : List ℕ) → Lessens len rest letters 99
of_c len rest letters fresh is = rw fresh (omega arith)

of_f : (len : ℕ) (rest letters : List ℕ) → Lessens len rest letters 102
of_f len rest letters fresh is = rw fresh (omega arith)

of_k : (len : ℕ) (rest letters : List ℕ) → Lessens len rest letters 107
of_k len rest letters fresh is = rw fresh (omega arith)

of_opaque : (len : ℕ) (rest letters : List ℕ) → Lessens len rest letters 79
of_opaque len rest letters fresh is = let few = opaque_short rest is in rw fresh (omega (arith, few))

apart : (a b : ℕ) → (a == b) ≡ false → (b == a) ≡ false
apart a b is = go (b == a) refl
  where
    go : (t : Bool) → (b == a) ≡ t → t ≡ false
    go true same = absurd (true≢false (sym (eq-eqb a b (sym (eqb-true b a same))) ∙ is))
    go false same = refl

-- what a flag may have, by which letter it has
abbrev most_by : Bool → Bool → Bool → Bool → Bool → Bool → ℕ → ℕ → ℕ
most_by s t c f k o len size = if s then 22 else (if t then 22 else (if c then 22 else (if f then 22 else (if k then len + 4 else (if o then 1 + size else 0)))))

flag_lessens : (len a : ℕ) (rest letters : List ℕ) → Lessens len rest letters a
flag_lessens len a rest letters = go (a == 115) (a == 116) (a == 99) (a == 102) (a == 107) (a == 79) refl refl refl refl refl refl
  where
    of : (letter : ℕ) → (a == letter) ≡ true → Lessens len rest letters letter → Lessens len rest letters a
    of letter is lessens = subst (Lessens len rest letters) (sym (eqb-true a letter is)) lessens

    go : (s t c f k o : Bool) → (a == 115) ≡ s → (a == 116) ≡ t → (a == 99) ≡ c → (a == 102) ≡ f → (a == 107) ≡ k → (a == 79) ≡ o → Lessens len rest letters a
    go true t c f k o s_is t_is c_is f_is k_is o_is = of 115 s_is (of_s len rest letters)
    go false true c f k o s_is t_is c_is f_is k_is o_is = of 116 t_is (of_t len rest letters)
    go false false true f k o s_is t_is c_is f_is k_is o_is = of 99 c_is (of_c len rest letters)
    go false false false true k o s_is t_is c_is f_is k_is o_is = of 102 f_is (of_f len rest letters)
    go false false false false true o s_is t_is c_is f_is k_is o_is = of 107 k_is (of_k len rest letters)
    go false false false false false true s_is t_is c_is f_is k_is o_is = of 79 o_is (of_opaque len rest letters)
    go false false false false false false s_is t_is c_is f_is k_is o_is = λ fresh is.
        let none : most_of_flag len (a ∷ rest) ≡ 0 =
        λ i. most_by (apart a 115 s_is i && true) (apart a 116 t_is i && true) (apart a 99 c_is i && true) (apart a 102 f_is i && true) (apart a 107 k_is i && true) (apart a 79 o_is i && true) len (length (a ∷ rest)) in
        let same : left len (a ∷ letters) ≡ left len letters =
        λ i. unless (s_is i || seen 115 letters) 22 + (unless (t_is i || seen 116 letters) 22 + (unless (c_is i || seen 99 letters) 22
        + (unless (f_is i || seen 102 letters) 22 + (unless (k_is i || seen 107 letters) (len + 4) + unless (o_is i || seen 79 letters) 33)))) in
        omega (arith, none, same)

word_lessens : (len : ℕ) (word letters : List ℕ) → seen (letter_of word) letters ≡ false → fault_in word ≡ None
    → most_of_flag len word + left len (letter_of word ∷ letters) ≤ left len letters
word_lessens len [] letters fresh is = omega arith
word_lessens len (a ∷ rest) letters fresh is = flag_lessens len a rest letters fresh is

all_lessen : (len : ℕ) (flags : List (List ℕ)) (letters : List ℕ) → fault_behind letters flags ≡ None → most_of_flags len flags ≤ left len letters
unfolding most_of_flags fault_behind
all_lessen len [] letters is = omega arith
all_lessen len (word ∷ words) letters is = go (all_lessen len words (letter_of word ∷ letters)) (nat_le 127 (letter_of word) || seen (letter_of word) letters) refl (fault_in word) refl
  where
    fresh : (a b : Bool) → (a || b) ≡ false → b ≡ false
    fresh true b is = let bad : ⊥ = cc in absurd bad
    fresh false b is = is

    go : (fault_behind (letter_of word ∷ letters) words ≡ None → most_of_flags len words ≤ left len (letter_of word ∷ letters))
        → (t : Bool) → (nat_le 127 (letter_of word) || seen (letter_of word) letters) ≡ t → (o : Option MetaFault) → fault_in word ≡ o
        → most_of_flag len word + most_of_flags len words ≤ left len letters
    go behind true twice o fault = let no : ⊥ = let here = rw twice at is in cc in absurd no
    go behind false once (Some why) fault = let no : ⊥ = let here = rw (once, fault) at is in cc in absurd no
    go behind false once None fault =
        let later = behind (rw (once, fault) at is) in
        let here = word_lessens len word letters (fresh _ _ once) fault in
        omega (arith, later, here)

pub flags_short : (len : ℕ) (flags : List (List ℕ)) → flags_fault flags ≡ None → most_of_flags len flags ≤ len + 125
flags_short len flags is = let all = all_lessen len flags [] is in omega (arith, all)
