-- One line more, of all partitions.
use Rattle.std.proofs.Common.{◌≡◌, ℕ, List, [], ◌∷◌, ◌++◌, length, Some, refl, sym, ap, ◌∙◌, subst, true, false, slice_get, eq-eqb}
use Rattle.std.specs.List.{AllByRecursion}
use Rattle.std.proofs.lemmas.Bool.{eqb-true}
use Rattle.partition_model.specs.declared.options.Options.{Options}
use Rattle.partition_model.specs.History.{History}
use Rattle.partition_model.specs.Run.{RunStep, IsRunFrom}
use Rattle.mica_trace.specs.declared.line.TraceLine.{TraceLine}
use Rattle.mica_trace.specs.declared.report.Line.{Line}
use Rattle.mica_trace.specs.declared.report.Line.TheVariants.{Wrote, Hit, Miss, Sync as SyncLine}
use Rattle.mica_trace.specs.TraceGrammar.{IsTraceLine}
use Rattle.mica_trace.specs.Rounds.{partition_in, is_in_partition}
use Rattle.mica_trace.specs.LawfulReport.{Answers}
use Rattle.mica_trace.specs.RoundReport.{history_in}
use Rattle.mica_trace.specs.LineReply.{steps_at, history_with, IsReplyAfter}
use Rattle.mica_trace.proofs.ExactLines.{history_own, history_other, exact_more}
use Rattle.partition_words.specs.declared.state.OwnerState.{OwnerState}
use Rattle.partition_words.specs.Shape.{shape_of, options_of, spares_in}
use Rattle.partition_words.proofs.SameMachine.{same_state}
use Rattle.partition_model.proofs.SameMachine as machine
use Rattle.partition_model.specs.declared.options.Mode.{Mode}
use Rattle.line_replies.specs.Replied.{IsReplied}
use Rattle.line_replies.specs.Answered.{IsOwnerAfter, AreAnswered}

-- the machine of the options is that of their shape
module _ (options : Options) where
  same_run : (history : History) (steps : List RunStep) → IsRunFrom (options_of (shape_of options)) history steps → IsRunFrom options history steps
  same_run history steps run =
      machine.same_run options 1 1 1 (spares_in options.mode options.spares) (λ is. ap (λ (m : Mode). spares_in m options.spares) is) history steps run

  same_answers : (history : History) (key : List ℕ) (printed : Line) → Answers (options_of (shape_of options)) history key printed → Answers options history key printed
  same_answers history key (Hit s v) h = rw (sym (same_state options history)) h
  same_answers history key (Miss s) h = rw (sym (same_state options history)) h
  same_answers history key (Wrote op outcome s) h = h
  same_answers history key SyncLine h = h

  pub same_reply : (history : History) (line : TraceLine) (printed : Line) → IsReplyAfter (options_of (shape_of options)) history line printed → IsReplyAfter options history line printed
  same_reply history line printed h = record {
    kind = h.kind;
    write = same_run history (steps_at line printed) h.write;
    get = λ op. same_answers history line.key printed (h.get op);
  }

module _ (options : Options) (lines : List TraceLine) (report : List Line) (line : TraceLine) (printed : Line) (owners news : List OwnerState) (old new : OwnerState)
    (all : AllByRecursion IsTraceLine lines) (so_far : AreAnswered options lines report owners) (at : slice_get owners (partition_in options line) ≡ Some old)
    (replied : IsReplied old new line printed) (many : length news ≡ length owners) (here : slice_get news (partition_in options line) ≡ Some new)
    (others : (p : ℕ) (owner : OwnerState) → (p ≡ partition_in options line → ⊥) → slice_get news p ≡ Some owner → slice_get owners p ≡ Some owner) where
  abbrev own : ℕ
  own = partition_in options line

  was : IsOwnerAfter options lines report own old
  was = so_far.each own old at

  reply : IsReplyAfter options (history_in options own lines report) line printed
  reply =
      same_reply options (history_in options own lines report) line printed
      (subst (λ (h : History). IsReplyAfter (options_of (shape_of options)) h line printed) was.history
      (subst (λ s. IsReplyAfter (options_of s) old.history line printed) was.shape replied.reply))

  owner_here : IsOwnerAfter options (lines ++ line ∷ []) (report ++ printed ∷ []) own new
  owner_here = record {
    shape = ap (λ (o : OwnerState). o.shape) replied.gained ∙ was.shape;
    history =
        ap (λ (o : OwnerState). o.history) replied.gained
        ∙ ap (λ (h : History). history_with h line printed) was.history
        ∙ sym (history_own options lines report so_far.exact.lines line printed);
  }

  owner_there : (p : ℕ) (owner : OwnerState) → (is_in_partition options p line ≡ false) → IsOwnerAfter options lines report p owner → IsOwnerAfter options (lines ++ line ∷ []) (report ++ printed ∷ []) p owner
  owner_there p owner apart had = record {
    shape = had.shape;
    history = had.history ∙ sym (history_other options lines report so_far.exact.lines line printed p apart);
  }

  each : (p : ℕ) (owner : OwnerState) → slice_get news p ≡ Some owner → IsOwnerAfter options (lines ++ line ∷ []) (report ++ printed ∷ []) p owner
  each p owner is =
      elim (is_in_partition options p line) as (λ b. is_in_partition options p line ≡ b → IsOwnerAfter options (lines ++ line ∷ []) (report ++ printed ∷ []) p owner) [
        | true ↦ λ mine.
            let same : own ≡ p = eqb-true own p mine in
            let one : slice_get news p ≡ Some new = subst (λ q. slice_get news q ≡ Some new) same here in
            let is_new : owner ≡ new = cc in
            subst (λ (o : OwnerState). IsOwnerAfter options (lines ++ line ∷ []) (report ++ printed ∷ []) p o) (sym is_new)
            (subst (λ q. IsOwnerAfter options (lines ++ line ∷ []) (report ++ printed ∷ []) q new) same owner_here)
        | false ↦ λ apart.
            owner_there p owner apart (so_far.each p owner (others p owner (λ same. not_both (sym (eq-eqb own p (sym same)) ∙ apart)) is))
      ] refl
    where
      not_both : true ≡ false → ⊥
      not_both e = cc

  pub answered_more : AreAnswered options (lines ++ line ∷ []) (report ++ printed ∷ []) news
  answered_more = record {
    exact = exact_more options lines report line printed all so_far.exact reply;
    many = many ∙ so_far.many;
    each = each;
  }
