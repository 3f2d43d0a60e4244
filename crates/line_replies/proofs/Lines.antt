-- The reply to one line, and one line more of all.
use Rattle.std.proofs.Common.{◌≡◌, ℕ, [], ◌∷◌, ◌++◌, Some, None, refl, sym, ap, ◌∙◌, subst, cond, true, false, append-nil}
use Rattle.std.specs.Prelude.{option_map}
use Rattle.std.specs.List.{cons_option}
use Rattle.partition_model.specs.declared.write.Op.{Op}
use Rattle.partition_model.specs.declared.write.Write.{Write}
use Rattle.partition_model.specs.declared.write.Outcome.{Outcome}
use Rattle.partition_model.specs.Write.{write_of, is_accepted}
use Rattle.partition_model.specs.Run.{IsRunFrom, history_of}
use Rattle.partition_model.specs.History.{History, stamp_of}
use Rattle.mica_trace.specs.declared.line.TraceLine.{TraceLine}
use Rattle.mica_trace.specs.declared.report.Line.{Line}
use Rattle.mica_trace.specs.declared.report.Line.TheVariants.{Wrote}
use Rattle.mica_trace.specs.Rounds.{op_of}
use Rattle.mica_trace.specs.LawfulReport.{IsReplyTo, step_by}
use Rattle.mica_trace.specs.LineReply.{steps_at}
use Rattle.partition_words.specs.declared.state.OwnerState.{OwnerState}
use Rattle.partition_words.specs.OwnerState.{options_in}
use Rattle.partition_words.specs.OwnerStep.{IsOwnerStep}
use Rattle.line_replies.specs.Replied.{IsWriteReply, IsReplied}

-- what an owner gained by a write
gained : (old new : OwnerState) (write : Write) (outcome : Outcome) → IsOwnerStep old new write outcome
    → new ≡ record old { words = new.words; history = old.history ++ cons_option (cond (is_accepted outcome) (Some write) None) [] }
gained old new write outcome step =
    elim (is_accepted outcome)
    as (λ b. new ≡ cond b (record old { words = new.words; history = old.history ++ write ∷ [] }) old → new ≡ record old { words = new.words; history = old.history ++ cons_option (cond b (Some write) None) [] }) [
      | true ↦ λ e. e
      | false ↦ λ e.
          let P : OwnerState → Type 0 = λ o. o ≡ record old { words = o.words; history = old.history ++ [] } in
          subst P (sym e) (ap (λ (h : History). record old { history = h }) (sym (append-nil old.history)))
    ] step.gained

-- the stamp after a write, by the options of the owner before it
stamp_after : (old new : OwnerState) (write : Write) (outcome : Outcome) (stamp : ℕ) → IsOwnerStep old new write outcome → stamp ≡ stamp_of (options_in new) new.history
    → stamp ≡ stamp_of (options_in old) (old.history ++ cons_option (cond (is_accepted outcome) (Some write) None) [])
stamp_after old new write outcome stamp step is =
    let e = gained old new write outcome step in
    is ∙ ap (λ (o : OwnerState). stamp_of (options_in o) o.history) e

module _ (old new : OwnerState) (line : TraceLine) (does : Op) (op : op_of line.op ≡ Some does) where
  abbrev write : Write
  write = write_of does line.key line.value

  steps : (outcome : Outcome) (stamp : ℕ) → steps_at line (Wrote does outcome stamp) ≡ record { write = write; outcome = outcome; stamp = stamp } ∷ []
  steps outcome stamp = ap (λ o. cons_option (step_by (option_map (λ d. write_of d line.key line.value) o) (Wrote does outcome stamp)) []) op

  replied_with : (outcome : Outcome) (stamp : ℕ) → IsOwnerStep old new write outcome → stamp ≡ stamp_of (options_in new) new.history → IsReplied old new line (Wrote does outcome stamp)
  replied_with outcome stamp step is = record {
    reply = record {
      kind = subst (λ o. IsReplyTo o does) (sym op) refl;
      write = subst (IsRunFrom (options_in old) old.history) (sym (steps outcome stamp)) (step.allowed, stamp_after old new write outcome stamp step is, tt);
      get = λ get. let none : None ≡ Some does = sym (ap op_of get) ∙ op in absurd (cc);
    };
    gained = gained old new write outcome step
        ∙ ap (λ s. record old { words = new.words; history = old.history ++ history_of s }) (sym (steps outcome stamp));
  }

  pub replied_write : (printed : Line) → IsWriteReply old new write printed → IsReplied old new line printed
  replied_write printed is = subst (IsReplied old new line) (sym is.is) (replied_with is.outcome is.stamp is.step is.stamped)
