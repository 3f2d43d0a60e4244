use Rattle.std.proofs.Common.{sym, ◌∙◌, subst}
use Rattle.std.proofs.lemmas.Bool.{false≢true}
use Rattle.mica_trace.specs.Lines.{Lacks}
use Rattle.mica_trace.specs.TraceGrammar.{IsKey, IsValue}
use Rattle.mica_trace.proofs.LineLemmas.{key_lacks_space}
use Rattle.mica_trace.proofs.TextLaws.{one_split, lacks_or_has}
use Rattle.mica_trace.proofs.read.read_value_line.Goals as goal
use Rattle.mica_trace.proofs.read.read_value_line.Goals.{then-not-is_key-via-then-not-is_key, then-not-is_key-via-else-not-is_key+then-not-is_value}

pub returns-in_default : goal.returns-in_default
returns-in_default c key value key_is value_is same =
    lacks_or_has 32 key value (subst (Lacks 32) same c.in_default.ensures)

pub returns-then-not-is_key : goal.returns-then-not-is_key
returns-then-not-is_key c key value key_is value_is same =
    let parts = c.in-Some.ensures in
    let one = one_split 32 c.in-Some.key.now c.in-Some.value.now key value parts.1 (key_lacks_space key key_is.1) (sym parts.0 ∙ same) in
    let key_here = subst IsKey (sym one.0) key_is in
    let value_here = subst IsValue (sym one.1) value_is in
    elim c.then-not-is_key.branch [
      | then-not-is_key-via-then-not-is_key w ↦ let yes = c.is_key.ensures.1 key_here in let not = w.if-not-is_key.true in false≢true (sym not ∙ yes)
      | then-not-is_key-via-else-not-is_key+then-not-is_value w ↦ let yes = w.is_value.ensures.1 value_here in let not = w.if-not-is_value.true in false≢true (sym not ∙ yes)
    ]
