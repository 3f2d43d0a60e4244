-- The line `check` parts bytes in one way.
use Rattle.std.proofs.Common.{◌≡◌, ◌≢◌, ℕ, ◌+◌, inl, inr, List, [], ◌∷◌, ◌++◌, Option, Some, None, codes, cond, Bool, refl, sym, ap, ◌∙◌, subst, true, false, eqb, eqb-true, append_assoc, append-nil, flat_map, arith, ◌<◌, ◌≤◌, ◌-◌, length, length-append, take, drop, take-append-drop}
use Rattle.std.specs.Prelude.{bytes_eq}
use Rattle.std.proofs.Math.Seq.{take-append_seam, take-append-add}
use Rattle.std.proofs.lemmas.List.{length-take-le, length-drop, take_all}
use Rattle.std.proofs.lemmas.Slice.Eq.{bytes_eq-Decides}
use Rattle.std.proofs.lemmas.Bool.{true≢false}
use Rattle.std.specs.List.{AllByRecursion}
use Rattle.std.proofs.lemmas.List.{append_cancel_left}
use Rattle.mica_trace.specs.Lines.{onto_first, lines_of, Lacks}
use Rattle.mica_trace.proofs.LineLemmas.{lines_of_fed, lines_of_last}
use Rattle.mica_cmd.specs.CheckParts.{EndsLine, HasNoCheck, IsParted, HasParts}

-- bytes have a first line
lines_some : (b : ℕ) (bytes : List ℕ) → (first : List ℕ) × (others : List (List ℕ)) × (lines_of (b ∷ bytes) ≡ first ∷ others)
lines_some b bytes =
    elim (eqb b 10) as (λ t. (first : List ℕ) × (others : List (List ℕ)) × (cond t ([] ∷ lines_of bytes) (onto_first b (lines_of bytes)) ≡ first ∷ others)) [
      | true ↦ ([], lines_of bytes, refl)
      | false ↦ by (lines_of bytes)
    ]
  where
    by : (lines : List (List ℕ)) → (first : List ℕ) × (others : List (List ℕ)) × (onto_first b lines ≡ first ∷ others)
    by [] = (b ∷ [], [], refl)
    by (line ∷ lines) = (b ∷ line, lines, refl)

-- the lines of whole lines and of what stands behind them
pub lines_behind : (front rest : List ℕ) → EndsLine front → lines_of (front ++ rest) ≡ lines_of front ++ lines_of rest
lines_behind [] rest whole = refl
lines_behind (b ∷ []) rest whole = subst (λ x. lines_of (x ∷ rest) ≡ lines_of (x ∷ []) ++ lines_of rest) (sym whole) refl
lines_behind (b ∷ c ∷ front) rest whole =
    let later = lines_behind (c ∷ front) rest whole in
    elim (eqb b 10) as (λ t. cond t ([] ∷ lines_of (c ∷ front ++ rest)) (onto_first b (lines_of (c ∷ front ++ rest))) ≡ cond t ([] ∷ lines_of (c ∷ front)) (onto_first b (lines_of (c ∷ front))) ++ lines_of rest) [
      | true ↦ ap (λ ls. [] ∷ ls) later
      | false ↦
          let some = lines_some c front in
          ap (onto_first b) (later ∙ ap (λ ls. ls ++ lines_of rest) some.2) ∙ ap (λ ls. onto_first b ls ++ lines_of rest) (sym some.2)
    ]

-- whole lines are known by their lines
abbrev fed : List (List ℕ) → List ℕ
fed lines = flat_map (λ line. line ++ 10 ∷ []) lines

whole_again : (front : List ℕ) → EndsLine front → fed (lines_of front) ≡ front
whole_again [] whole = refl
whole_again (b ∷ []) whole = subst (λ x. fed (lines_of (x ∷ [])) ≡ x ∷ []) (sym whole) refl
whole_again (b ∷ c ∷ front) whole =
    let later = whole_again (c ∷ front) whole in
    elim (eqb b 10) as (λ t. eqb b 10 ≡ t → fed (cond t ([] ∷ lines_of (c ∷ front)) (onto_first b (lines_of (c ∷ front)))) ≡ b ∷ c ∷ front) [
      | true ↦ λ e. ap (λ bs. 10 ∷ bs) later ∙ ap (λ x. x ∷ c ∷ front) (sym (eqb-true b 10 e))
      | false ↦ λ _.
          let some = lines_some c front in
          ap (λ ls. fed (onto_first b ls)) some.2 ∙ ap (λ ls. b ∷ fed ls) (sym some.2) ∙ ap (λ bs. b ∷ bs) later
    ] refl

ends_fed : (front line : List ℕ) → EndsLine (front ++ line ++ 10 ∷ [])
ends_fed front line = last (front ++ line)
  where
    last : (text : List ℕ) → EndsLine (text ++ 10 ∷ [])
    last [] = refl
    last (b ∷ []) = refl
    last (b ∷ c ∷ text) = last (c ∷ text)

abbrev pub check : List ℕ
check = codes "check"

check_lacks : Lacks 10 check
check_lacks = ((λ e. omega arith), ((λ e. omega arith), ((λ e. omega arith), ((λ e. omega arith), ((λ e. omega arith), tt)))))

-- the lines of parted bytes
parted_lines : (bytes before after : List ℕ) → IsParted bytes before after → (others : List (List ℕ)) × (lines_of bytes ≡ lines_of before ++ check ∷ others)
parted_lines bytes before after is =
    elim is.parts as (λ _. (others : List (List ℕ)) × (lines_of bytes ≡ lines_of before ++ check ∷ others)) [
      | inl fed ↦ (
        lines_of after,
        ap lines_of (fed ∙ append_assoc before check (10 ∷ after)) ∙ lines_behind before (check ++ 10 ∷ after) is.whole
            ∙ ap (λ ls. lines_of before ++ ls) (lines_of_fed check after check_lacks),
      )
      | inr last ↦ ([], ap lines_of last.0 ∙ lines_behind before check is.whole ∙ ap (λ ls. lines_of before ++ ls) (lines_of_last check (omega arith) check_lacks))
    ]

abbrev NoCheck : List (List ℕ) → Type 0
NoCheck lines = AllByRecursion (λ line. line ≢ check) lines

-- the first such line
one_first : (one two more rest : List (List ℕ)) → NoCheck one → NoCheck two → one ++ check ∷ more ≡ two ++ check ∷ rest → one ≡ two
one_first [] [] more rest a b same = refl
one_first [] (line ∷ two) more rest a b same = let is : check ≡ line = cc in absurd (b.0 (sym is))
one_first (line ∷ one) [] more rest a b same = let is : line ≡ check = cc in absurd (a.0 is)
one_first (line ∷ one) (other ∷ two) more rest a b same =
    let first : line ≡ other = cc in
    let later : one ++ check ∷ more ≡ two ++ check ∷ rest = cc in
    ap (λ l. l ∷ one) first ∙ ap (λ ls. other ∷ ls) (one_first one two more rest a.1 b.1 later)

none_there : (lines one more : List (List ℕ)) → NoCheck lines → lines ≡ one ++ check ∷ more → ⊥
none_there [] [] more lacks_it is = cc
none_there [] (line ∷ one) more lacks_it is = cc
none_there (l ∷ lines) [] more lacks_it is = let same : l ≡ check = cc in lacks_it.0 same
none_there (l ∷ lines) (line ∷ one) more lacks_it is = let later : lines ≡ one ++ check ∷ more = cc in none_there lines one more lacks_it.1 later

-- the bytes behind the line follow from those before it
after_once : (bytes before after later : List ℕ) → IsParted bytes before after → IsParted bytes before later → after ≡ later
after_once bytes before after later one two =
    elim one.parts as (λ _. after ≡ later) [
      | inl fed ↦ elim two.parts as (λ _. after ≡ later) [
        | inl other ↦ behind (append_cancel_left (before ++ check) (10 ∷ after) (10 ∷ later) (sym fed ∙ other))
        | inr last ↦ absurd (not_fed (before ++ check) after (sym fed ∙ last.0))
      ]
      | inr last ↦ elim two.parts as (λ _. after ≡ later) [
        | inl other ↦ absurd (not_fed (before ++ check) later (sym other ∙ last.0))
        | inr other ↦ last.1 ∙ sym other.1
      ]
    ]
  where
    behind : 10 ∷ after ≡ 10 ∷ later → after ≡ later
    behind e = cc

    not_fed : (front rest : List ℕ) → front ++ 10 ∷ rest ≡ front → ⊥
    not_fed front rest e = let none = append_cancel_left front (10 ∷ rest) [] (e ∙ sym (append-nil front)) in absurd (cc)

pub parts_once : (bytes before other : List ℕ) (after later : Option (List ℕ)) → HasParts bytes before after → HasParts bytes other later → (before ≡ other) × (after ≡ later)
parts_once bytes before other None None one two = (one.1 ∙ sym two.1, refl)
parts_once bytes before other None (Some later) one two = let lines = parted_lines bytes other later two in absurd (none_there (lines_of bytes) (lines_of other) lines.0 one.0 lines.1)
parts_once bytes before other (Some after) None one two = let lines = parted_lines bytes before after one in absurd (none_there (lines_of bytes) (lines_of before) lines.0 two.0 lines.1)
parts_once bytes before other (Some after) (Some later) one two =
    let lines = parted_lines bytes before after one in
    let others = parted_lines bytes other later two in
    let same = one_first (lines_of before) (lines_of other) lines.0 others.0 one.first two.first (sym lines.1 ∙ others.1) in
    let front : before ≡ other = sym (whole_again before one.whole) ∙ ap fed same ∙ whole_again other two.whole in
    (front, ap (λ (a : List ℕ). Some a) (after_once bytes other after later (subst (λ f. IsParted bytes f after) front one) two))

-- The walk over lines

no_check_both : (one two : List (List ℕ)) → NoCheck one → NoCheck two → NoCheck (one ++ two)
no_check_both [] two a b = b
no_check_both (line ∷ one) two a b = (a.0, no_check_both one two a.1 b)

module _ (bytes : List ℕ) (start : ℕ) (high : start ≤ length bytes) (whole : EndsLine (take start bytes)) (first : HasNoCheck (take start bytes)) where
  cut : take start bytes ++ drop start bytes ≡ bytes
  cut = take-append-drop start bytes

  -- the next line is `check`
  pub parted_fed : (line after : List ℕ) → drop start bytes ≡ line ++ 10 ∷ after → line ≡ check → IsParted bytes (take start bytes) after
  parted_fed line after rest is = record {
    whole = whole;
    first = first;
    parts = inl (sym cut ∙ ap (λ r. take start bytes ++ r) (rest ∙ ap (λ l. l ++ 10 ∷ after) is) ∙ sym (append_assoc (take start bytes) check (10 ∷ after)));
  }

  -- it is not, and it is the last
  pub none_last : 0 < length (drop start bytes) → Lacks 10 (drop start bytes) → drop start bytes ≢ check → HasNoCheck bytes
  none_last some lacks other =
      let rest = drop start bytes in
      let lines : lines_of bytes ≡ lines_of (take start bytes) ++ (rest ∷ []) =
      ap lines_of (sym cut) ∙ lines_behind (take start bytes) rest whole ∙ ap (λ ls. lines_of (take start bytes) ++ ls) (lines_of_last rest some lacks) in
      subst NoCheck (sym lines) (no_check_both (lines_of (take start bytes)) (rest ∷ []) first (other, tt))

  -- it is not, and the walk goes on behind it
  pub line_more : (line after : List ℕ) (next : ℕ) → drop start bytes ≡ line ++ 10 ∷ after → Lacks 10 line → line ≢ check → next ≡ start + (length line + 1)
      → (next ≤ length bytes) × EndsLine (take next bytes) × HasNoCheck (take next bytes)
  line_more line after next rest lacks other is =
      let front = take start bytes in
      let fed_line = line ++ 10 ∷ [] in
      let long : length front ≡ start = length-take-le start bytes high in
      let all : bytes ≡ front ++ (fed_line ++ after) = sym cut ∙ ap (λ r. front ++ r) (rest ∙ sym (append_assoc line (10 ∷ []) after)) in
      let many = length-append line (10 ∷ []) in
      let at : next ≡ length front + length fed_line = omega arith in
      let taken : take next bytes ≡ front ++ fed_line =
      ap (λ n. take n bytes) at ∙ ap (take (length front + length fed_line)) all ∙ take-append-add front (fed_line ++ after) (length fed_line) ∙ ap (λ r. front ++ r) (take-append_seam fed_line after) in
      let lines : lines_of (front ++ fed_line) ≡ lines_of front ++ (line ∷ []) = lines_behind front fed_line whole ∙ ap (λ ls. lines_of front ++ ls) (lines_of_fed line [] lacks) in
      let total = ap length all ∙ length-append front (fed_line ++ after) in
      let rest_len = length-append fed_line after in (
        omega arith,
        subst EndsLine (sym taken) (subst EndsLine (append_assoc front line (10 ∷ [])) (ends_fed front line)),
        subst HasNoCheck (sym taken) (subst NoCheck (sym lines) (no_check_both (lines_of front) (line ∷ []) first (other, tt))),
      )

-- a range to the end of the bytes
pub rest_all : (bytes : List ℕ) (start : ℕ) → take (length bytes - start) (drop start bytes) ≡ drop start bytes
rest_all bytes start = take_all (length bytes - start) (drop start bytes) (omega (arith, length-drop start bytes))

pub same_line : (a b : List ℕ) (t : Bool) → t ≡ true → t ≡ bytes_eq a b → b ≡ check → a ≡ check
same_line a b t yes_it is spelled = (bytes_eq-Decides a b).0 (sym is ∙ yes_it) ∙ spelled

pub other_line : (a b : List ℕ) (t : Bool) → t ≡ false → t ≡ bytes_eq a b → b ≡ check → a ≢ check
other_line a b t not_it is spelled = λ same. true≢false (sym ((bytes_eq-Decides a b).1 (same ∙ sym spelled)) ∙ sym is ∙ not_it)
