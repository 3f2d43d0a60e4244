-- A text has at most one trace.
use Rattle.std.proofs.Common.{◌≡◌, ℕ, List, [], ◌∷◌, ◌++◌, drop, get_or, eqb, cond, refl, sym, ap, ◌∙◌, subst, ◌⊎◌, arith}
use Rattle.std.specs.List.{AllZip}
use Rattle.std.proofs.lemmas.Grind.{common_steps}
use Rattle.mica_trace.specs.declared.line.TraceOp.{TraceOp}
use Rattle.mica_trace.specs.declared.line.TraceOp.TheVariants.{Put, Add, Del, Touch, Get, Sync}
use Rattle.mica_trace.specs.declared.line.TraceLine.{TraceLine}
use Rattle.mica_trace.specs.Lines.{lines_of}
use Rattle.mica_trace.specs.TraceGrammar.{HasFields, op_text, IsTextOf, IsTrace, trace_text}
use Rattle.mica_trace.proofs.TextLaws.{one_split, IsFed, fed, fed_lines, same_lines}
use Rattle.mica_trace.proofs.LineLemmas.{key_lacks_space}

-- the operation of a line, by the first byte of its text
abbrev op_at : List ℕ → TraceOp
op_at text = let first = get_or text 0 0 in
    cond (eqb first 112) Put (cond (eqb first 97) Add (cond (eqb first 100) Del (cond (eqb first 116) Touch (cond (eqb first 103) Get Sync))))

op_is : (op : TraceOp) (key value : List ℕ) → op_at (op_text op key value) ≡ op
op_is Put key value = refl
op_is Add key value = refl
op_is Del key value = refl
op_is Touch key value = refl
op_is Get key value = refl
op_is Sync key value = refl

same_fields : (op : TraceOp) (k v l w : List ℕ) → HasFields op k v → HasFields op l w → op_text op k v ≡ op_text op l w → (k ≡ l) × (v ≡ w)
same_fields Put k v l w left right same =
    one_split 32 k v l w (key_lacks_space k left.0.1) (key_lacks_space l right.0.1) (ap (drop 4) same)
same_fields Add k v l w left right same =
    one_split 32 k v l w (key_lacks_space k left.0.1) (key_lacks_space l right.0.1) (ap (drop 4) same)
same_fields Del k v l w left right same = (ap (drop 4) same, left.1 ∙ sym right.1)
same_fields Touch k v l w left right same = (ap (drop 6) same, left.1 ∙ sym right.1)
same_fields Get k v l w left right same = (ap (drop 4) same, left.1 ∙ sym right.1)
same_fields Sync k v l w left right same = (left.0 ∙ sym right.0, left.1 ∙ sym right.1)

same_line : (a b : TraceOp) (k l v w : List ℕ) → a ≡ b → k ≡ l → v ≡ w
    → (let line : TraceLine = record { op = a; key = k; value = v } in line) ≡ record { op = b; key = l; value = w }
same_line a b k l v w op key value = cc

one_line : (text : List ℕ) (a b : TraceLine) → IsTextOf text a → IsTextOf text b → a ≡ b
one_line text a b left right = grind (arith, common_steps, op_is, same_fields, same_line)

pub one_list : (texts : List (List ℕ)) (a b : List TraceLine) → AllZip IsTextOf texts a → AllZip IsTextOf texts b → a ≡ b
one_list [] [] [] left right = refl
one_list [] [] (y ∷ b) left right = absurd right
one_list [] (x ∷ a) b left right = absurd left
one_list (t ∷ texts) [] b left right = absurd left
one_list (t ∷ texts) (x ∷ a) [] left right = absurd right
one_list (t ∷ texts) (x ∷ a) (y ∷ b) left right = grind (arith, common_steps, one_line t x y left.0 right.0, one_list texts a b left.1 right.1)

pub one_trace : (text : List ℕ) (a b : List TraceLine) → IsTrace text a → IsTrace text b → a ≡ b
one_trace text a b left right = one_list (lines_of text) a b left.spelled right.spelled

fed_is : (texts : List (List ℕ)) (lines : List TraceLine) → AllZip IsTextOf texts lines → fed texts ≡ trace_text lines
fed_is [] [] all = refl
fed_is [] (l ∷ lines) all = absurd all
fed_is (t ∷ texts) [] all = absurd all
fed_is (t ∷ texts) (l ∷ lines) all = grind (arith, common_steps, fed_is texts lines all.1)

-- the text of a trace is its lines, each with a line feed, which the last one may lack
pub trace_texts : (text : List ℕ) (lines : List TraceLine) → IsTrace text lines → IsFed text (trace_text lines)
trace_texts text lines is = subst (IsFed text) (fed_is (lines_of text) lines is.spelled) (fed_lines text)

pub one_but_for_the_line_feed : (s t : List ℕ) (lines : List TraceLine) → IsTrace s lines → IsTrace t lines → (s ≡ t) ⊎ ((s ≡ t ++ 10 ∷ []) ⊎ (t ≡ s ++ 10 ∷ []))
one_but_for_the_line_feed s t lines left right = same_lines s t (trace_text lines) (trace_texts s lines left) (trace_texts t lines right)
