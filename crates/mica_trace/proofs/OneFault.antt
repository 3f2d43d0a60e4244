-- A text is refused for one fault.
use Rattle.std.proofs.Common.{◌≡◌, ℕ, suc, ◌+◌, ◌⊎◌, inl, inr, List, [], ◌∷◌, ◌++◌, length, refl, sym, ap, ◌∙◌, arith, rules}
use Rattle.std.specs.List.{AllByRecursion}
use Rattle.std.proofs.lemmas.Grind.{common_steps}
use Rattle.mica_trace.specs.declared.line.TraceFault.{TraceFault}
use Rattle.mica_trace.specs.declared.line.TraceFault.TheVariants.{BadLine, LongLine, TooManyLines, TooManyRounds, NoMemory}
use Rattle.mica_trace.specs.declared.report.Line.{Line}
use Rattle.mica_trace.specs.TraceGrammar.{IsFaultOf, Refuses, sync_line, syncs_in}
use Rattle.mica_trace.specs.ReportGrammar.{BeginsWithNoLine, IsFirstBadLine, IsPrintable, report_line_text, report_text}
use Rattle.mica_trace.proofs.TextLaws.{one_split}
use Rattle.mica_trace.proofs.TraceLaws.{one_list}
use Rattle.mica_trace.proofs.ReportLaws.{line_lacks}
use Rattle.mica_trace.proofs.Reading.{behind, no_lines}

-- Traces

-- a line is refused for one fault
fault_once : (n syncs : ℕ) (text : List ℕ) (a b : TraceFault) → IsFaultOf n syncs text a → IsFaultOf n syncs text b → a ≡ b
fault_once n syncs text TooManyLines TooManyLines one two = refl
fault_once n syncs text TooManyLines (LongLine m) one two = let less = one in let most = two.1 in absurd (omega arith)
fault_once n syncs text TooManyLines (BadLine m) one two = let less = one in let most = two.1 in absurd (omega arith)
fault_once n syncs text TooManyLines TooManyRounds one two = let less = one in let most = two.0 in absurd (omega arith)
fault_once n syncs text (LongLine m) TooManyLines one two = let less = two in let most = one.1 in absurd (omega arith)
fault_once n syncs text (LongLine m) (LongLine k) one two = ap LongLine (one.0 ∙ sym two.0)
fault_once n syncs text (LongLine m) (BadLine k) one two = let long = one.2 in let short = two.2 in absurd (omega arith)
fault_once n syncs text (LongLine m) TooManyRounds one two = let long = one.2 in let four = ap length two.1 in absurd (omega arith)
fault_once n syncs text (BadLine m) TooManyLines one two = let less = two in let most = one.1 in absurd (omega arith)
fault_once n syncs text (BadLine m) (LongLine k) one two = let long = two.2 in let short = one.2 in absurd (omega arith)
fault_once n syncs text (BadLine m) (BadLine k) one two = ap BadLine (one.0 ∙ sym two.0)
fault_once n syncs text (BadLine m) TooManyRounds one two = absurd (one.3 sync_line ((refl, refl), two.1))
fault_once n syncs text TooManyRounds TooManyLines one two = let less = two in let most = one.0 in absurd (omega arith)
fault_once n syncs text TooManyRounds (LongLine k) one two = let long = two.2 in let four = ap length one.1 in absurd (omega arith)
fault_once n syncs text TooManyRounds (BadLine k) one two = absurd (two.3 sync_line ((refl, refl), one.1))
fault_once n syncs text TooManyRounds TooManyRounds one two = refl
fault_once n syncs text NoMemory b one two = absurd one
fault_once n syncs text a NoMemory one two = absurd two

-- the first of two places in a list, or they are the same
abbrev Ordered : List (List ℕ) → List ℕ → List (List ℕ) → List ℕ → Type 0
Ordered xs x ys y =
    ((xs ≡ ys) × (x ≡ y)) ⊎ (((more : List (List ℕ)) × (ys ≡ xs ++ x ∷ more)) ⊎ ((more : List (List ℕ)) × (xs ≡ ys ++ y ∷ more)))

ordered : (xs ys xs' ys' : List (List ℕ)) (x y : List ℕ) → xs ++ x ∷ xs' ≡ ys ++ y ∷ ys' → Ordered xs x ys y
ordered [] [] xs' ys' x y same = inl (refl, cc)
ordered [] (b ∷ ys) xs' ys' x y same = inr (inl (ys, (let here : b ≡ x = cc in ap (λ t. t ∷ ys) here)))
ordered (a ∷ xs) [] xs' ys' x y same = inr (inr (xs, (let here : a ≡ y = cc in ap (λ t. t ∷ xs) here)))
ordered (a ∷ xs) (b ∷ ys) xs' ys' x y same = grind (arith, common_steps, ordered xs ys xs' ys' x y)

-- the line of one refusal does not stand among the lines of another
not_among : (text : List ℕ) (a b : TraceFault) (one : Refuses text a) (two : Refuses text b) (more : List (List ℕ)) → two.texts ≡ one.texts ++ one.at ∷ more → ⊥
not_among text a b one two more is =
    grind (arith, common_steps, no_lines a one.texts one.at one.before two.before, behind one.texts one.at more one.before two.before one.spelled)

pub one_fault : (text : List ℕ) (a b : TraceFault) → Refuses text a → Refuses text b → a ≡ b
one_fault text a b one two =
    grind (arith, common_steps, ordered one.texts two.texts, one_list one.texts two.before one.before, fault_once (length one.before + 1) (syncs_in one.before), not_among text a b one two, not_among text b a two one)

-- Reports

first_and_rest : (line : Line) (lines : List Line) (rest : List ℕ) → report_text (line ∷ lines) ++ rest ≡ report_line_text line ++ 10 ∷ (report_text lines ++ rest)
first_and_rest line lines rest = grind (arith, common_steps)

as_many : (a b : List Line) (s t : List ℕ) → AllByRecursion IsPrintable a → AllByRecursion IsPrintable b → BeginsWithNoLine s → BeginsWithNoLine t
    → report_text a ++ s ≡ report_text b ++ t → length a ≡ length b
as_many [] [] s t left right one two same = refl
as_many [] (y ∷ b) s t left right one two same = absurd (one y (report_text b ++ t) right.0 (same ∙ first_and_rest y b t))
as_many (x ∷ a) [] s t left right one two same = absurd (two x (report_text a ++ s) left.0 (sym same ∙ first_and_rest x a s))
as_many (x ∷ a) (y ∷ b) s t left right one two same =
    let rest = one_split 10 (report_line_text x) (report_text a ++ s) (report_line_text y) (report_text b ++ t) (line_lacks x left.0) (line_lacks y right.0)
    (sym (first_and_rest x a s) ∙ same ∙ first_and_rest y b t) in
    ap suc (as_many a b s t left.1 right.1 one two rest.1)

pub one_bad_line : (text : List ℕ) (m n : ℕ) → IsFirstBadLine text m → IsFirstBadLine text n → m ≡ n
one_bad_line text m n one two = search (rules, as_many one.before two.before one.rest two.rest one.lines two.lines one.bad two.bad (sym one.parts ∙ two.parts))
