-- KnownLines as lines, and a test of each that says whether it is known.
use Rattle.std.proofs.Common.{◌≡◌, ℕ, zero, suc, Bool, true, false, List, [], ◌∷◌, map, length, refl, ap, arith, cond, set, Some, None, is_some, option_and_then}
use Rattle.std.specs.Prelude.{slice_get, unwrap_or}
use Rattle.std.specs.List.{All, AllByRecursion}
use Rattle.std.proofs.lemmas.List.Elements.{recursion_from_All}
use Rattle.mica_trace.specs.declared.line.TraceLine.{TraceLine}
use Rattle.mica_trace.specs.declared.report.Line.{Line}
use Rattle.mica_trace.specs.declared.report.Line.TheVariants.{Sync}
use Rattle.mica_trace.specs.TraceGrammar.{is_sync}
use Rattle.mica_client.specs.Answers.{KnownLines, answers_of, unanswered, AnswerIsKnown}

pub length_answers : (known : List Bool) (lines : List Line) → length known ≡ length lines → length (answers_of known lines) ≡ length lines
length_answers [] lines same = same
length_answers (k ∷ ks) [] same = refl
length_answers (k ∷ ks) (l ∷ ls) same = ap suc (length_answers ks ls (omega (arith, same)))

-- before any reply
pub none_answered : (trace : List TraceLine) → answers_of (map is_sync trace) (map (λ line. Sync) trace) ≡ unanswered trace
none_answered [] = refl
none_answered (x ∷ xs) = ap (λ (rest : KnownLines). cond (is_sync x) (Some Sync) None ∷ rest) (none_answered xs)

pub known_at : (known : List Bool) (lines : List Line) (n : ℕ) → length known ≡ length lines
    → unwrap_or (slice_get known n) false ≡ is_some (option_and_then (λ a. a) (slice_get (answers_of known lines) n))
known_at [] lines n same = refl
known_at (k ∷ ks) [] n same = absurd (omega (arith, same))
known_at (true ∷ ks) (l ∷ ls) zero same = refl
known_at (false ∷ ks) (l ∷ ls) zero same = refl
known_at (k ∷ ks) (l ∷ ls) (suc n) same = known_at ks ls n (omega (arith, same))

pub set_answer : (known : List Bool) (lines : List Line) (n : ℕ) (l : Line) → answers_of (set known n true) (set lines n l) ≡ set (answers_of known lines) n (Some l)
set_answer [] lines n l = refl
set_answer (k ∷ ks) [] zero l = refl
set_answer (k ∷ ks) [] (suc n) l = refl
set_answer (k ∷ ks) (y ∷ ys) zero l = refl
set_answer (k ∷ ks) (y ∷ ys) (suc n) l = ap (λ (rest : KnownLines). cond k (Some y) None ∷ rest) (set_answer ks ys n l)

all_recursively : (known : List Bool) (lines : List Line) → length known ≡ length lines → AllByRecursion AnswerIsKnown (answers_of known lines)
    → answers_of known lines ≡ map (λ line. Some line) lines
all_recursively [] [] same all = refl
all_recursively [] (y ∷ ys) same all = absurd (omega (arith, same))
all_recursively (k ∷ ks) [] same all = absurd (omega (arith, same))
all_recursively (true ∷ ks) (y ∷ ys) same all = ap (λ (rest : KnownLines). Some y ∷ rest) (all_recursively ks ys (omega (arith, same)) all.1)
all_recursively (false ∷ ks) (y ∷ ys) same all = let no = all.0 in absurd (cc)

pub all_lines_known : (known : List Bool) (lines : List Line) → length known ≡ length lines → All AnswerIsKnown (answers_of known lines) → answers_of known lines ≡ map (λ line. Some line) lines
all_lines_known known lines same all = all_recursively known lines same (recursion_from_All AnswerIsKnown (answers_of known lines) all)
