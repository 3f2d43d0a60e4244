-- In cache mode a trace has one exact report, and in both modes one with the same lines for its writes.
use Rattle.std.proofs.Common.{◌≡◌, ℕ, ◌⊎◌, inl, inr, List, [], ◌∷◌, ◌++◌, length, Some, None, IsSome, refl, sym, ◌∙◌, arith, slice_get, cond, append_assoc, length-append, rules}
use Rattle.std.specs.List.{cons_option}
use Rattle.std.proofs.lemmas.Grind.{common_steps}
use Rattle.partition_model.specs.declared.options.Options.{Options}
use Rattle.partition_model.specs.declared.options.Mode.TheVariants.{Cache}
use Rattle.partition_model.specs.declared.write.Op.{Op}
use Rattle.partition_model.specs.declared.write.Op.TheVariants.{Put as PutOp, Add as AddOp, Touch as TouchOp, Del as DelOp}
use Rattle.partition_model.specs.declared.write.Write.{Write}
use Rattle.partition_model.specs.declared.write.Outcome.{Outcome}
use Rattle.partition_model.specs.Options.{IsValid}
use Rattle.partition_model.specs.Write.{is_accepted, write_of}
use Rattle.partition_model.specs.Run.{IsRunFrom}
use Rattle.partition_model.specs.History.{History, MayGive, stamp_of}
use Rattle.partition_model.proofs.Histories.{cached_in}
use Rattle.mica_trace.specs.declared.line.TraceOp.{TraceOp}
use Rattle.mica_trace.specs.declared.line.TraceOp.TheVariants.{Put, Add, Touch, Del, Get, Sync}
use Rattle.mica_trace.specs.declared.line.TraceLine.{TraceLine}
use Rattle.mica_trace.specs.declared.report.Line.{Line}
use Rattle.mica_trace.specs.declared.report.Line.TheVariants.{Wrote, Hit, Miss, Sync as SyncLine}
use Rattle.mica_trace.specs.Rounds.{op_of, partition_in}
use Rattle.mica_trace.specs.LawfulReport.{IsLineFor, Answers}
use Rattle.mica_trace.specs.RoundReport.{history_in}
use Rattle.mica_trace.specs.LineReply.{IsReplyAfter}
use Rattle.mica_trace.specs.ExactReport.{ExactReport, AgreeOnWrites}
use Rattle.mica_trace.proofs.ListParts.{length_zip}
use Rattle.mica_trace.proofs.ExactLines.{reply_there, get_middle}

-- a get has one answer after a history
one_answer : (options : Options) (history : History) (key : List ℕ) (x y : Line) → Answers options history key x → Answers options history key y → x ≡ y
one_answer options history key (Hit s v) (Hit t w) a b = let one : s ≡ t = a.0 ∙ sym b.0 in let two : Some v ≡ Some w = a.1 ∙ sym b.1 in cc
one_answer options history key (Hit s v) (Miss t) a b = let none : Some v ≡ None = a.1 ∙ sym b.1 in absurd (cc)
one_answer options history key (Miss s) (Hit t w) a b = let none : None ≡ Some w = a.1 ∙ sym b.1 in absurd (cc)
one_answer options history key (Miss s) (Miss t) a b = let one : s ≡ t = a.0 ∙ sym b.0 in cc
one_answer options history key (Hit s v) y a b = absurd b
one_answer options history key (Miss s) y a b = absurd b
one_answer options history key x y a b = absurd a

-- in cache mode a write has one reply
module _ (options : Options) (mode : options.mode ≡ Cache) (history : History) (write : Write) where
  one_outcome : (o u : Outcome) → MayGive options history write o → MayGive options history write u → o ≡ u
  one_outcome o u a b = grind (arith, common_steps, cached_in options mode history)

  one_wrote : (op : Op) (o u : Outcome) (s t : ℕ) → MayGive options history write o → MayGive options history write u
      → s ≡ stamp_of options (history ++ cons_option (cond (is_accepted o) (Some write) None) []) → t ≡ stamp_of options (history ++ cons_option (cond (is_accepted u) (Some write) None) [])
      → Wrote op o s ≡ Wrote op u t
  one_wrote op o u s t a b at bt = grind (arith, common_steps, one_outcome o u a b)

-- what is printed for a line is determined, but for the replies to writes of store mode
module _ (options : Options) (history : History) (key value : List ℕ) where
  one_by : (op : TraceOp) (x y : Line) → IsReplyAfter options history (record { op = op; key = key; value = value }) x → IsReplyAfter options history (record { op = op; key = key; value = value }) y
      → (IsSome (op_of op) → x ≡ y) → x ≡ y
  one_by Put x y a b writes = writes refl
  one_by Add x y a b writes = writes refl
  one_by Touch x y a b writes = writes refl
  one_by Del x y a b writes = writes refl
  one_by Get x y a b writes = one_answer options history key x y (a.get refl) (b.get refl)
  one_by Sync SyncLine SyncLine a b writes = refl
  one_by Sync SyncLine y a b writes = absurd b.kind
  one_by Sync x y a b writes = absurd a.kind

  module _ (mode : options.mode ≡ Cache) where
    -- the lines of one write
    one_of : (does p q : Op) (o u : Outcome) (s t : ℕ) → p ≡ does → q ≡ does
        → IsRunFrom options history (record { write = write_of does key value; outcome = o; stamp = s } ∷ [])
        → IsRunFrom options history (record { write = write_of does key value; outcome = u; stamp = t } ∷ []) → Wrote p o s ≡ Wrote q u t
    one_of does p q o u s t one two a b = grind (arith, common_steps, one_wrote options mode history (write_of does key value) does o u s t a.0 b.0 a.1 b.1)

    one_write : (op : TraceOp) (x y : Line) → IsReplyAfter options history (record { op = op; key = key; value = value }) x
        → IsReplyAfter options history (record { op = op; key = key; value = value }) y → IsSome (op_of op) → x ≡ y
    one_write Put (Wrote p o s) (Wrote q u t) a b some = one_of PutOp p q o u s t a.kind b.kind a.write b.write
    one_write Add (Wrote p o s) (Wrote q u t) a b some = one_of AddOp p q o u s t a.kind b.kind a.write b.write
    one_write Touch (Wrote p o s) (Wrote q u t) a b some = one_of TouchOp p q o u s t a.kind b.kind a.write b.write
    one_write Del (Wrote p o s) (Wrote q u t) a b some = one_of DelOp p q o u s t a.kind b.kind a.write b.write
    one_write Get x y a b some = absurd (cc)
    one_write Sync x y a b some = absurd (cc)
    one_write op (Wrote p o s) y a b some = absurd b.kind
    one_write op x y a b some = absurd a.kind

module _ (options : Options) (valid : IsValid options) where
  one_line : (before later : List TraceLine) (printed xs ys : List Line) (line : TraceLine) (x y : Line) → length printed ≡ length before
      → ExactReport options (before ++ line ∷ later) (printed ++ x ∷ xs) → ExactReport options (before ++ line ∷ later) (printed ++ y ∷ ys)
      → (options.mode ≡ Cache) ⊎ AgreeOnWrites (before ++ line ∷ later) (printed ++ x ∷ xs) (printed ++ y ∷ ys) → x ≡ y
  one_line before later printed xs ys line x y same a b by =
      let history = history_in options (partition_in options line) before printed in
      let one = reply_there options valid before later printed xs line x same a in
      let two = reply_there options valid before later printed ys line y same b in
      one_by options history line.key line.value line.op x y one two
      (λ some. elim by as (λ _. x ≡ y) [
        | inl mode ↦ one_write options history line.key line.value mode line.op x y one two some
        | inr agree ↦
            search (rules, get_middle before later line, slice_get (printed ++ x ∷ xs), get_middle printed xs x, slice_get (printed ++ y ∷ ys), get_middle printed ys y)
      ])

  -- what is printed for the lines behind others
  one_rest : (later before : List TraceLine) (printed a b : List Line) → length printed ≡ length before
      → ExactReport options (before ++ later) (printed ++ a) → ExactReport options (before ++ later) (printed ++ b)
      → (options.mode ≡ Cache) ⊎ AgreeOnWrites (before ++ later) (printed ++ a) (printed ++ b) → a ≡ b
  one_rest later before printed [] [] same one two by = refl
  one_rest [] before printed (x ∷ a) b same one two by =
      grind (arith, common_steps, length_zip IsLineFor (before ++ []) (printed ++ x ∷ a) one.lines, length-append before [], length-append printed (x ∷ a))
  one_rest [] before printed [] (y ∷ b) same one two by =
      grind (arith, common_steps, length_zip IsLineFor (before ++ []) (printed ++ y ∷ b) two.lines, length-append before [], length-append printed (y ∷ b))
  one_rest (line ∷ later) before printed [] (y ∷ b) same one two by =
      grind (arith, common_steps, length_zip IsLineFor (before ++ line ∷ later) (printed ++ []) one.lines, length-append before (line ∷ later), length-append printed [])
  one_rest (line ∷ later) before printed (x ∷ a) [] same one two by =
      grind (arith, common_steps, length_zip IsLineFor (before ++ line ∷ later) (printed ++ []) two.lines, length-append before (line ∷ later), length-append printed [])
  one_rest (line ∷ later) before printed (x ∷ a) (y ∷ b) same one two by =
      grind (
        arith,
        common_steps,
        one_line before later printed a b line x y same one two by,
        append_assoc before (line ∷ []) later,
        append_assoc printed (x ∷ []) a,
        append_assoc printed (x ∷ []) b,
        length-append printed (x ∷ []),
        length-append before (line ∷ []),
        one_rest later (before ++ line ∷ []) (printed ++ x ∷ []) a b,
      )

  pub one_exact : (trace : List TraceLine) (a b : List Line) → ExactReport options trace a → ExactReport options trace b
      → (options.mode ≡ Cache) ⊎ AgreeOnWrites trace a b → a ≡ b
  one_exact trace a b one two by = one_rest trace [] [] a b refl one two by
