-- Lemmas on the lines of a text and of a trace.
use Rattle.std.proofs.Common.{◌≡◌, ℕ, ◌+◌, ◌<◌, ◌≤◌, List, [], ◌∷◌, ◌++◌, length, length-append, cond, refl, sym, ap, ◌∙◌, subst, arith, ne_eqb}
use Rattle.std.specs.List.{AllByRecursion}
use Rattle.std.proofs.lemmas.List.Sums.{sum_by-cons}
use Rattle.std.proofs.lemmas.Grind.{common_steps}
use Rattle.mica_trace.specs.declared.limits.TheConstants.{MAX_LINE_LEN}
use Rattle.mica_trace.specs.declared.line.TraceOp.{TraceOp}
use Rattle.mica_trace.specs.declared.line.TraceOp.TheVariants.{Put, Add, Del, Touch, Get, Sync}
use Rattle.mica_trace.specs.declared.line.TraceLine.{TraceLine}
use Rattle.mica_trace.specs.Lines.{lines_of, Lacks}
use Rattle.mica_trace.specs.TraceGrammar.{HasFields, op_text, IsTextOf, is_sync, syncs_in}

pub lines_of_fed : (line rest : List ℕ) → Lacks 10 line → lines_of (line ++ 10 ∷ rest) ≡ line ∷ lines_of rest
lines_of_fed [] rest lacks = refl
lines_of_fed (b ∷ line) rest lacks = grind (arith, common_steps, lines_of_fed line rest lacks.1)

pub lines_of_last : (line : List ℕ) → 0 < length line → Lacks 10 line → lines_of line ≡ line ∷ []
lines_of_last [] some lacks = absurd (omega arith)
lines_of_last (b ∷ []) some lacks = ap (λ t. cond t ([] ∷ []) ((b ∷ []) ∷ [])) (ne_eqb b 10 lacks.0)
lines_of_last (b ∷ c ∷ line) some lacks = grind (arith, common_steps, lines_of_last (c ∷ line) (omega arith) lacks.1)

pub key_lacks_space : (key : List ℕ) → AllByRecursion (λ b. (33 ≤ b) × (b ≤ 126)) key → Lacks 32 key
key_lacks_space [] all = tt
key_lacks_space (b ∷ key) all = ((λ is. let here = all.0 in omega arith), key_lacks_space key all.1)

op_text_length : (op : TraceOp) (key value : List ℕ) → HasFields op key value → length (op_text op key value) ≤ MAX_LINE_LEN
op_text_length Put key value fields = let k = fields.0.0.1 in let v = fields.1.0 in omega (arith, length-append key (32 ∷ value))
op_text_length Add key value fields = let k = fields.0.0.1 in let v = fields.1.0 in omega (arith, length-append key (32 ∷ value))
op_text_length Del key value fields = let k = fields.0.0.1 in omega arith
op_text_length Touch key value fields = let k = fields.0.0.1 in omega arith
op_text_length Get key value fields = let k = fields.0.0.1 in omega arith
op_text_length Sync key value fields = omega arith

-- a line of a trace is not long
pub text_length : (text : List ℕ) (line : TraceLine) → IsTextOf text line → length text ≤ MAX_LINE_LEN
text_length text line is = subst (λ t. length t ≤ MAX_LINE_LEN) (sym is.1) (op_text_length line.op line.key line.value is.0)

pub syncs_cons : (line : TraceLine) (lines : List TraceLine) → syncs_in (line ∷ lines) ≡ cond (is_sync line) 1 0 + syncs_in lines
syncs_cons line lines = sum_by-cons (λ l. cond (is_sync l) 1 0) line lines

pub syncs_push : (lines : List TraceLine) (line : TraceLine) → syncs_in (lines ++ line ∷ []) ≡ syncs_in lines + cond (is_sync line) 1 0
syncs_push [] line = syncs_cons line [] ∙ omega arith
syncs_push (l ∷ lines) line = grind (arith, common_steps, syncs_push lines line)
