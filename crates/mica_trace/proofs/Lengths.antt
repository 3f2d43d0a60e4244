-- How long the text of a trace is at most.
use Rattle.std.proofs.Common.{◌≡◌, ℕ, zero, suc, ◌+◌, ◌*◌, ◌<◌, ◌≤◌, List, [], ◌∷◌, length, get_or, take, sym, ap, subst, arith}
use Rattle.std.specs.List.{AllByRecursion}
use Rattle.std.proofs.lemmas.Grind.{common_steps}
use Rattle.mica_words.specs.declared.item.TheConstants.{MAX_KEY_LEN, MAX_VALUE_LEN}
use Rattle.mica_trace.specs.declared.limits.TheConstants.{MAX_LINE_LEN}
use Rattle.mica_trace.specs.declared.line.TraceOp.{TraceOp}
use Rattle.mica_trace.specs.declared.line.TraceOp.TheVariants.{Put, Add, Del, Touch, Get, Sync}
use Rattle.mica_trace.specs.declared.line.TraceLine.{TraceLine}
use Rattle.mica_trace.specs.TraceGrammar.{HasFields, IsTraceLine, trace_text}

pub record HasShortFields (key value : List ℕ) : Type 0 where
  pub key_len : length key ≤ MAX_KEY_LEN
  pub value_len : length value ≤ MAX_VALUE_LEN

short_fields : (op : TraceOp) (key value : List ℕ) → HasFields op key value → HasShortFields key value
short_fields Put key value fields = record { key_len = fields.0.0.1; value_len = fields.1.0 }
short_fields Add key value fields = record { key_len = fields.0.0.1; value_len = fields.1.0 }
short_fields Touch key value fields = let none = ap length fields.1 in record { key_len = fields.0.0.1; value_len = omega arith }
short_fields Del key value fields = let none = ap length fields.1 in record { key_len = fields.0.0.1; value_len = omega arith }
short_fields Get key value fields = let none = ap length fields.1 in record { key_len = fields.0.0.1; value_len = omega arith }
short_fields Sync key value fields = let none = ap length fields.0 in let no_value = ap length fields.1 in record { key_len = omega arith; value_len = omega arith }

line_at : (lines : List TraceLine) (i : ℕ) (d : TraceLine) → i < length lines → AllByRecursion IsTraceLine lines → IsTraceLine (get_or lines i d)
line_at [] i d less all = absurd (omega arith)
line_at (l ∷ lines) zero d less all = all.0
line_at (l ∷ lines) (suc i) d less all = line_at lines i d (omega arith) all.1

pub short_at : (lines : List TraceLine) (i : ℕ) (line : TraceLine) → line ≡ get_or lines i line → i < length lines → AllByRecursion IsTraceLine lines
    → HasShortFields line.key line.value
short_at lines i line is less all = short_fields line.op line.key line.value (subst IsTraceLine (sym is) (line_at lines i line less all))

-- each line has its line feed too
pub taken_length : (lines : List TraceLine) (i : ℕ) → AllByRecursion IsTraceLine lines → length (trace_text (take i lines)) ≤ (MAX_LINE_LEN + 1) * i
taken_length lines zero all = omega arith
taken_length [] (suc i) all = omega arith
taken_length (l ∷ lines) (suc i) all = grind (arith, common_steps, taken_length lines i all.1)
