-- How far the lines of a report were read, and why a refused text is none.
use Rattle.std.proofs.Common.{◌≡◌, ◌≢◌, ℕ, ◌+◌, ◌<◌, ◌≤◌, List, [], ◌∷◌, ◌++◌, length, length-append, sym, ap, ◌∙◌, subst, arith, append_assoc, drop, get_or, eqb, eq-eqb, true, false, codes, Option, None, Some, Result, Ok, Err, MatchResult, MatchOption}
use Rattle.std.specs.List.{AllByRecursion}
use Rattle.std.specs.Fmt.{decimal}
use Rattle.std.specs.Result.{result_ok}
use Rattle.std.proofs.lemmas.Bool.{false≢true}
use Rattle.std.proofs.lemmas.Option.{none-some}
use Rattle.std.proofs.lemmas.Grind.{common_steps}
use Rattle.partition_model.specs.declared.write.Op.{Op}
use Rattle.partition_model.specs.declared.write.Op.TheVariants.{Put, Add, Touch, Del}
use Rattle.partition_model.specs.declared.write.Outcome.{Outcome}
use Rattle.mica_trace.specs.declared.report.Line.{Line}
use Rattle.mica_trace.specs.declared.report.Line.TheVariants.{Wrote, Hit, Miss, Sync}
use Rattle.mica_trace.specs.Lines.{Lacks}
use Rattle.mica_trace.specs.TraceGrammar.{IsValue}
use Rattle.mica_trace.specs.ReportGrammar.{op_word, outcome_words, HasOutcome, IsStamp, IsPrintable, report_line_text, SpellsNoLine, report_text, IsNoReport, BeginsWithNoLine, IsFirstBadLine}
use Rattle.mica_trace.proofs.TextLaws.{one_split, lacks_or_has}
use Rattle.mica_trace.proofs.ReportLaws.{line_lacks, one_reply}

pub record HasReadLines (from : List ℕ) (report : List Line) (rest : List ℕ) : Type 0 where
  pub lines : AllByRecursion IsPrintable report
  pub parts : from ≡ report_text report ++ rest

-- each line has its line feed, so there are no more lines than bytes
pub few_lines : (lines : List Line) → length lines ≤ length (report_text lines)
few_lines [] = omega arith
few_lines (l ∷ lines) = grind (arith, common_steps, few_lines lines)

some_length : (rest : List ℕ) → eqb (length rest) 0 ≡ false → 0 < length rest
some_length [] more = absurd (false≢true (sym more))
some_length (b ∷ rest) more = omega arith

pub no_end : (rest : List ℕ) → eqb (length rest) 0 ≡ false → rest ≢ []
no_end rest more ended = let some = some_length rest more in let none = ap length ended in omega arith

module _ (from : List ℕ) (report : List Line) (rest : List ℕ) (so_far : HasReadLines from report rest) where
  -- a line more finds room in a report
  pub room : eqb (length rest) 0 ≡ false → length from < 4294967296 → length report < 4294967295
  room more fits = grind (arith, common_steps, few_lines report, length-append (report_text report) rest, some_length rest more)

  pub first_bad : (n : ℕ) → n ≡ length report + 1 → rest ≢ [] → BeginsWithNoLine rest → IsFirstBadLine from n
  first_bad n number some bad = grind (arith, common_steps)

-- a line without its line feed is no report line
pub no_feed : (rest : List ℕ) → Lacks 10 rest → BeginsWithNoLine rest
no_feed rest lacks line more is same = lacks_or_has 10 (report_line_text line) more (subst (Lacks 10) same lacks)

pub no_line : (rest text after : List ℕ) → rest ≡ text ++ 10 ∷ after → Lacks 10 text → SpellsNoLine text → BeginsWithNoLine rest
no_line rest text after first lacks bad line more is same =
    grind (arith, common_steps, one_split 10 text after (report_line_text line) more lacks (line_lacks line is) (sym first ∙ same), line_lacks line is, first)

-- the lines before a line that is none are those of any report, which then goes on with none
none_after : (before report : List Line) (rest : List ℕ) → AllByRecursion IsPrintable before → AllByRecursion IsPrintable report
    → rest ≢ [] → BeginsWithNoLine rest → report_text before ++ rest ≢ report_text report
none_after [] [] rest left right some bad same = some same
none_after [] (y ∷ report) rest left right some bad same = grind (arith, common_steps)
none_after (x ∷ before) [] rest left right some bad same = grind (arith, common_steps)
none_after (x ∷ before) (y ∷ report) rest left right some bad same =
    let parts = one_split 10 (report_line_text x) (report_text before ++ rest) (report_line_text y) (report_text report) (line_lacks x left.0) (line_lacks y right.0)
    (sym (append_assoc (report_line_text x) (10 ∷ []) (report_text before ++ rest)) ∙ sym (append_assoc (report_line_text x ++ 10 ∷ []) (report_text before) rest)
    ∙ same ∙ append_assoc (report_line_text y) (10 ∷ []) (report_text report)) in
    none_after before report rest left.1 right.1 some bad parts.1

pub no_report : (text : List ℕ) (n : ℕ) → IsFirstBadLine text n → IsNoReport text
no_report text n is report whole = none_after is.before report is.rest is.lines whole.lines is.some is.bad (sym is.parts ∙ whole.spelled)

first : (a b : List ℕ) → a ≡ b → eqb (get_or a 0 0) (get_or b 0 0) ≡ true
first a b same = eq-eqb (get_or a 0 0) (get_or b 0 0) (ap (λ t. get_or t 0 0) same)

no_wrote : (op : Op) (text : List ℕ) → ((o : Outcome) (n : ℕ) → HasOutcome op o → IsStamp n → text ≢ decimal n ++ 32 ∷ outcome_words o)
    → SpellsNoLine (op_word op ++ 32 ∷ text)
no_wrote Put text none (Wrote Put o n) is = none o n is.0.0 is.0.1 (ap (drop 4) is.1)
no_wrote Put text none (Wrote Add o n) is = false≢true (first _ _ is.1)
no_wrote Put text none (Wrote Touch o n) is = false≢true (first _ _ is.1)
no_wrote Put text none (Wrote Del o n) is = false≢true (first _ _ is.1)
no_wrote Put text none (Hit n value) is = false≢true (first _ _ is.1)
no_wrote Put text none (Miss n) is = false≢true (first _ _ is.1)
no_wrote Put text none Sync is = false≢true (first _ _ is.1)
no_wrote Add text none (Wrote Put o n) is = false≢true (first _ _ is.1)
no_wrote Add text none (Wrote Add o n) is = none o n is.0.0 is.0.1 (ap (drop 4) is.1)
no_wrote Add text none (Wrote Touch o n) is = false≢true (first _ _ is.1)
no_wrote Add text none (Wrote Del o n) is = false≢true (first _ _ is.1)
no_wrote Add text none (Hit n value) is = false≢true (first _ _ is.1)
no_wrote Add text none (Miss n) is = false≢true (first _ _ is.1)
no_wrote Add text none Sync is = false≢true (first _ _ is.1)
no_wrote Touch text none (Wrote Put o n) is = false≢true (first _ _ is.1)
no_wrote Touch text none (Wrote Add o n) is = false≢true (first _ _ is.1)
no_wrote Touch text none (Wrote Touch o n) is = none o n is.0.0 is.0.1 (ap (drop 6) is.1)
no_wrote Touch text none (Wrote Del o n) is = false≢true (first _ _ is.1)
no_wrote Touch text none (Hit n value) is = false≢true (first _ _ is.1)
no_wrote Touch text none (Miss n) is = false≢true (first _ _ is.1)
no_wrote Touch text none Sync is = false≢true (first _ _ is.1)
no_wrote Del text none (Wrote Put o n) is = false≢true (first _ _ is.1)
no_wrote Del text none (Wrote Add o n) is = false≢true (first _ _ is.1)
no_wrote Del text none (Wrote Touch o n) is = false≢true (first _ _ is.1)
no_wrote Del text none (Wrote Del o n) is = none o n is.0.0 is.0.1 (ap (drop 4) is.1)
no_wrote Del text none (Hit n value) is = false≢true (first _ _ is.1)
no_wrote Del text none (Miss n) is = false≢true (first _ _ is.1)
no_wrote Del text none Sync is = false≢true (first _ _ is.1)

-- what stands behind the stamp of a write is none of its outcomes
pub no_outcome : (op : Op) (text words : List ℕ) (s : ℕ) → IsStamp s → text ≡ decimal s ++ 32 ∷ words
    → ((o : Outcome) → HasOutcome op o → words ≢ outcome_words o) → SpellsNoLine (op_word op ++ 32 ∷ text)
no_outcome op text words s stamp is none = no_wrote op text (λ o n has n_is same.
    none o has (one_reply s n words (outcome_words o) stamp n_is (sym is ∙ same)).reply)

-- what stands behind the stamp of a get is no answer
pub no_answer : (text answer : List ℕ) (s : ℕ) → IsStamp s → text ≡ decimal s ++ 32 ∷ answer → answer ≢ codes "miss"
    → ((value : List ℕ) → IsValue value → answer ≢ codes "hit " ++ value) → SpellsNoLine (codes "get " ++ text)
no_answer text answer s stamp is no_miss no_hit (Wrote Put o n) spells = false≢true (first _ _ spells.1)
no_answer text answer s stamp is no_miss no_hit (Wrote Add o n) spells = false≢true (first _ _ spells.1)
no_answer text answer s stamp is no_miss no_hit (Wrote Touch o n) spells = false≢true (first _ _ spells.1)
no_answer text answer s stamp is no_miss no_hit (Wrote Del o n) spells = false≢true (first _ _ spells.1)
no_answer text answer s stamp is no_miss no_hit (Hit n value) spells =
    no_hit value spells.0.0
    (one_reply s n answer (codes "hit " ++ value) stamp spells.0.1 (sym is ∙ ap (drop 4) spells.1 ∙ append_assoc (decimal n) (codes " hit ") value)).reply
no_answer text answer s stamp is no_miss no_hit (Miss n) spells = no_miss (one_reply s n answer (codes "miss") stamp spells.0.1 (sym is ∙ ap (drop 4) spells.1)).reply
no_answer text answer s stamp is no_miss no_hit Sync spells = false≢true (first _ _ spells.1)

pub none_means : {A : Type 0} (r : Option A) (P : Type 0) (Q : A → Type 0) → r ≡ None → P → MatchOption r P Q
none_means r P Q is holds = subst (λ o. MatchOption o P Q) (sym is) holds

pub err_told : {T E : Type 0} (r : Result T E) (P : T → Type 0) (Q : E → Type 0) (N : Type 0) → MatchResult r P (λ e. N × Q e) → None ≡ result_ok r → N
err_told (Ok x) P Q N told is = absurd (none-some x is)
err_told (Err e) P Q N told is = told.0

pub ok_told : {T E : Type 0} (r : Result T E) (x : T) (P : T → Type 0) (Q : E → Type 0) → MatchResult r P Q → Some x ≡ result_ok r → P x
ok_told (Ok y) x P Q told is = subst P (sym (cc)) told
ok_told (Err e) x P Q told is = absurd (none-some x (sym is))

pub refused : (from : List ℕ) (report : List Line) (rest : List ℕ) (n : ℕ) → HasReadLines from report rest → n ≡ length report + 1
    → eqb (length rest) 0 ≡ false → BeginsWithNoLine rest → IsFirstBadLine from n × IsNoReport from
refused from report rest n so_far number more bad =
    let is = first_bad from report rest so_far n number (no_end rest more) bad in
    (is, no_report from n is)
