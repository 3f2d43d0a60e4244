-- A text has at most one report.
use Rattle.std.proofs.Common.{◌≡◌, ℕ, ◌<◌, ◌≤◌, List, [], ◌∷◌, ◌++◌, length, length-append, refl, sym, ap, ◌∙◌, arith, codes, append_assoc, get_or, drop, eqb, cond, rules, ◌⊎◌, inl, inr}
use Rattle.std.specs.List.{AllByRecursion}
use Rattle.std.specs.Fmt.{decimal}
use Rattle.std.specs.Str.Parse.{AllDigits}
use Rattle.std.proofs.lemmas.Fmt.{decimal_injective, digits_decimal}
use Rattle.std.proofs.lemmas.Str.Parse.{numerals_by_value, tells_digits}
use Rattle.std.proofs.lemmas.Grind.{common_steps}
use Rattle.partition_model.specs.declared.write.Op.TheVariants.{Put, Add, Touch, Del}
use Rattle.partition_model.specs.declared.write.Outcome.{Outcome}
use Rattle.partition_model.specs.declared.write.Outcome.TheVariants.{Stored, Deleted, Absent, Touched, FullSpare, FullBlock, Worn, Exists}
use Rattle.mica_trace.specs.declared.report.Line.{Line}
use Rattle.mica_trace.specs.declared.report.Line.TheVariants.{Wrote, Hit, Miss, Sync}
use Rattle.mica_trace.specs.Lines.{Lacks}
use Rattle.mica_trace.specs.ReportGrammar.{printed_stamp, outcome_words, IsStamp, IsPrintable, report_line_text, report_text, IsReport}
use Rattle.mica_trace.proofs.TextLaws.{one_split, Lacks_append}

digits_lack : (byte : ℕ) → byte < 48 → (ds : List ℕ) → AllDigits 10 ds → Lacks byte ds
digits_lack byte low [] all = tt
digits_lack byte low (d ∷ ds) all = grind (arith, common_steps, digits_lack byte low ds all.1)

-- a number has no space and no line feed
pub decimal_lacks : (byte n : ℕ) → byte < 48 → IsStamp n → Lacks byte (decimal n)
decimal_lacks byte n low is = digits_lack byte low (decimal n) (digits_decimal (numerals_by_value (AllDigits 10) tells_digits) n is)

value_lacks : (value : List ℕ) → AllByRecursion (λ b. (32 ≤ b) × (b ≤ 126)) value → Lacks 10 value
value_lacks [] all = tt
value_lacks (b ∷ value) all = ((λ is. let least = all.0.0 in omega arith), value_lacks value all.1)

words_lack : (outcome : Outcome) → Lacks 10 (outcome_words outcome)
words_lack Stored = search rules
words_lack Deleted = search rules
words_lack Absent = search rules
words_lack Touched = search rules
words_lack FullSpare = search rules
words_lack FullBlock = search rules
words_lack Worn = search rules
words_lack Exists = search rules

stamped : (n : ℕ) (reply : List ℕ) → IsStamp n → Lacks 10 reply → Lacks 10 (decimal n ++ 32 ∷ reply)
stamped n reply is lacks = Lacks_append 10 (decimal n) (32 ∷ reply) (decimal_lacks 10 n (omega arith) is) ((λ e. omega arith), lacks)

-- a line has no line feed
pub line_lacks : (line : Line) → IsPrintable line → Lacks 10 (report_line_text line)
line_lacks (Wrote Put outcome stamp) is = Lacks_append 10 (codes "put ") _ (search rules) (stamped stamp (outcome_words outcome) is.1 (words_lack outcome))
line_lacks (Wrote Add outcome stamp) is = Lacks_append 10 (codes "add ") _ (search rules) (stamped stamp (outcome_words outcome) is.1 (words_lack outcome))
line_lacks (Wrote Touch outcome stamp) is = Lacks_append 10 (codes "touch ") _ (search rules) (stamped stamp (outcome_words outcome) is.1 (words_lack outcome))
line_lacks (Wrote Del outcome stamp) is = Lacks_append 10 (codes "del ") _ (search rules) (stamped stamp (outcome_words outcome) is.1 (words_lack outcome))
line_lacks (Hit stamp value) is = grind (arith, common_steps, decimal_lacks 10 stamp (omega arith) is.1, value_lacks value is.0.1)
line_lacks (Miss stamp) is = Lacks_append 10 (codes "get ") _ (search rules) (stamped stamp (codes "miss") is.1 (search rules))
line_lacks Sync is = search rules

pub record SameReply (m n : ℕ) (a b : List ℕ) : Type 0 where
  pub stamp : m ≡ n
  pub reply : a ≡ b

-- a stamp and what stands behind it are read in one way
pub one_reply : (m n : ℕ) (a b : List ℕ) → IsStamp m → IsStamp n → decimal m ++ 32 ∷ a ≡ decimal n ++ 32 ∷ b → SameReply m n a b
one_reply m n a b m_is n_is same =
    let parts = one_split 32 (decimal m) a (decimal n) b (decimal_lacks 32 m (omega arith) m_is) (decimal_lacks 32 n (omega arith) n_is) same in
    record { stamp = decimal_injective m n m_is n_is parts.0; reply = parts.1 }

-- an outcome, by two bytes of its words
abbrev outcome_at : List ℕ → Outcome
outcome_at words =
    let first = get_or words 0 0 in
    cond (eqb first 115) Stored (cond (eqb first 100) Deleted (cond (eqb first 97) Absent (cond (eqb first 116) Touched
    (cond (eqb first 119) Worn (cond (eqb first 101) Exists (cond (eqb (get_or words 5 0) 115) FullSpare FullBlock))))))

outcome_is : (outcome : Outcome) → outcome_at (outcome_words outcome) ≡ outcome
outcome_is Stored = refl
outcome_is Deleted = refl
outcome_is Absent = refl
outcome_is Touched = refl
outcome_is FullSpare = refl
outcome_is FullBlock = refl
outcome_is Worn = refl
outcome_is Exists = refl

-- what stands behind a line's stamp
abbrev reply_in : Line → List ℕ
reply_in (Wrote op outcome stamp) = outcome_words outcome
reply_in (Hit stamp value) = codes "hit " ++ value
reply_in (Miss stamp) = codes "miss"
reply_in Sync = []

-- the line, by the first byte of its text, its stamp and what stands behind that
abbrev line_by : ℕ → ℕ → List ℕ → Line
line_by first stamp reply =
    cond (eqb first 112) (Wrote Put (outcome_at reply) stamp) (cond (eqb first 97) (Wrote Add (outcome_at reply) stamp)
    (cond (eqb first 116) (Wrote Touch (outcome_at reply) stamp) (cond (eqb first 100) (Wrote Del (outcome_at reply) stamp)
    (cond (eqb first 115) Sync (cond (eqb (get_or reply 0 0) 104) (Hit stamp (drop 4 reply)) (Miss stamp))))))

line_is : (line : Line) → line_by (get_or (report_line_text line) 0 0) (printed_stamp line) (reply_in line) ≡ line
line_is (Wrote Put outcome stamp) = ap (λ o. Wrote Put o stamp) (outcome_is outcome)
line_is (Wrote Add outcome stamp) = ap (λ o. Wrote Add o stamp) (outcome_is outcome)
line_is (Wrote Touch outcome stamp) = ap (λ o. Wrote Touch o stamp) (outcome_is outcome)
line_is (Wrote Del outcome stamp) = ap (λ o. Wrote Del o stamp) (outcome_is outcome)
line_is (Hit stamp value) = refl
line_is (Miss stamp) = refl
line_is Sync = refl

-- what stands behind the first word of a line and its space: a touch's word has five bytes, each other one three
abbrev behind_word : List ℕ → List ℕ
behind_word text = drop (cond (eqb (get_or text 0 0) 116) 6 4) text

-- the text of a line is a sync's, or has its stamp and reply behind a word and a space
record HasReply (line : Line) : Type 0 where
  stamp : IsStamp (printed_stamp line)
  rest : behind_word (report_line_text line) ≡ decimal (printed_stamp line) ++ 32 ∷ reply_in line

kinds : (line : Line) → IsPrintable line → (line ≡ Sync) ⊎ HasReply line
kinds (Wrote Put outcome stamp) is = inr (record { stamp = is.1; rest = refl })
kinds (Wrote Add outcome stamp) is = inr (record { stamp = is.1; rest = refl })
kinds (Wrote Touch outcome stamp) is = inr (record { stamp = is.1; rest = refl })
kinds (Wrote Del outcome stamp) is = inr (record { stamp = is.1; rest = refl })
kinds (Hit stamp value) is = inr (record { stamp = is.1; rest = append_assoc (decimal stamp) (codes " hit ") value })
kinds (Miss stamp) is = inr (record { stamp = is.1; rest = refl })
kinds Sync is = inl refl

no_sync : (line : Line) → HasReply line → report_line_text line ≡ codes "sync" → ⊥
no_sync line is same = grind (arith, common_steps)

one_text : (a b : Line) → IsPrintable a → IsPrintable b → report_line_text a ≡ report_line_text b → a ≡ b
one_text a b left right same =
    grind (arith, common_steps, kinds a left, kinds b right, no_sync b, no_sync a, one_reply (printed_stamp a) (printed_stamp b) (reply_in a) (reply_in b), line_is a, line_is b)

pub one_report : (text : List ℕ) (a b : List Line) → IsReport text a → IsReport text b → a ≡ b
one_report text a b left right = go a b left.lines right.lines (sym left.spelled ∙ right.spelled)
  where
    go : (a b : List Line) → AllByRecursion IsPrintable a → AllByRecursion IsPrintable b → report_text a ≡ report_text b → a ≡ b
    go [] [] left right same = refl
    go [] (y ∷ b) left right same = absurd (let long = ap length same in omega (arith, length-append {A = ℕ}))
    go (x ∷ a) [] left right same = absurd (let long = ap length same in omega (arith, length-append {A = ℕ}))
    go (x ∷ a) (y ∷ b) left right same =
        let parts = one_split 10 (report_line_text x) (report_text a) (report_line_text y) (report_text b) (line_lacks x left.0) (line_lacks y right.0)
        (sym (append_assoc (report_line_text x) (10 ∷ []) (report_text a)) ∙ same ∙ append_assoc (report_line_text y) (10 ∷ []) (report_text b)) in
        let here = one_text x y left.0 right.0 parts.0 in
        let there = go a b left.1 right.1 parts.1 in
        cc
