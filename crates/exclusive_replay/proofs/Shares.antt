-- What an owner printed is the replies to its partition's lines.
use Rattle.std.proofs.Common.{◌≡◌, ℕ, suc, ◌+◌, List, [], ◌∷◌, ◌++◌, map, filter, Some, refl, ap, ◌∙◌, subst, cond, true, false, slice_get, arith}
use Rattle.std.specs.List.{cons_option}
use Rattle.partition_model.specs.declared.options.Options.{Options}
use Rattle.partition_model.specs.History.{History}
use Rattle.mica_trace.specs.declared.line.TraceLine.{TraceLine}
use Rattle.mica_trace.specs.declared.report.Line.{Line}
use Rattle.mica_trace.specs.LineReply.{is_for, lines_for, history_with, RepliesTo}
use Rattle.partition_words.specs.declared.state.OwnerState.{OwnerState}
use Rattle.partition_words.specs.OwnerState.{options_in, as_made}
use Rattle.partition_words.specs.Shape.{shape_of, options_of}
use Rattle.line_replies.specs.Replied.{HasReplied}
use Rattle.line_replies.proofs.AllLines.{same_reply}
use Rattle.exclusive_replay.specs.declared.queue.Sent.{Sent}
use Rattle.exclusive_replay.specs.declared.queue.Sent.TheVariants as sent
use Rattle.exclusive_replay.specs.Sent.{numbers_in}
use Rattle.exclusive_replay.specs.Workers.{lines_at, numbered, messages_for}

-- the lines that are named are those of the partition
module _ (options : Options) (p : ℕ) (whole : List TraceLine) where
  read_from : (n : ℕ) (lines : List TraceLine) → ((i : ℕ) → slice_get whole (n + i) ≡ slice_get lines i)
      → lines_at whole (numbers_in (map (λ (pair : ℕ × TraceLine). sent.Line pair.0) (filter (λ (pair : ℕ × TraceLine). is_for options p pair.1) (numbered n lines)) ++ sent.End ∷ [])) ≡ lines_for options p lines
  read_from n [] there = refl
  read_from n (x ∷ lines) there =
      let e : n ≡ n + 0 = omega arith in
      let at : slice_get whole n ≡ Some x = ap (λ (k : ℕ). slice_get whole k) e ∙ there 0 in
      let more = read_from (n + 1) lines (λ i. let f : (n + 1) + i ≡ n + suc i = omega arith in ap (λ (k : ℕ). slice_get whole k) f ∙ there (suc i)) in
      elim (is_for options p x) as (λ b. lines_at whole (numbers_in (map (λ (pair : ℕ × TraceLine). sent.Line pair.0) (cond b ((n, x) ∷ filter (λ (pair : ℕ × TraceLine). is_for options p pair.1) (numbered (n + 1) lines)) (filter (λ (pair : ℕ × TraceLine). is_for options p pair.1) (numbered (n + 1) lines))) ++ sent.End ∷ []))
      ≡ cond b (x ∷ lines_for options p lines) (lines_for options p lines)) [
        | true ↦
            ap (λ o. cons_option o (lines_at whole (numbers_in (map (λ (pair : ℕ × TraceLine). sent.Line pair.0) (filter (λ (pair : ℕ × TraceLine). is_for options p pair.1) (numbered (n + 1) lines)) ++ sent.End ∷ [])))) at
            ∙ ap (λ (l : List TraceLine). x ∷ l) more
        | false ↦ more
      ]

  pub lines_read : lines_at whole (numbers_in (messages_for options p whole)) ≡ lines_for options p whole
  lines_read = read_from 0 whole (λ i. let e : 0 + i ≡ i = omega arith in ap (λ (k : ℕ). slice_get whole k) e)

-- the machine of the options is that of their shape
pub same_replies : (options : Options) (from : History) (lines : List TraceLine) (printed : List Line) (to : History) → RepliesTo (options_of (shape_of options)) from lines printed to → RepliesTo options from lines printed to
same_replies options from [] [] to h = h
same_replies options from [] (x ∷ printed) to h = absurd h
same_replies options from (l ∷ lines) [] to h = absurd h
same_replies options from (l ∷ lines) (x ∷ printed) to h = (same_reply options from l x h.0, same_replies options (history_with from l x) lines printed to h.1)

pub share_replied : (options : Options) (p : ℕ) (trace : List TraceLine) (made after : OwnerState) (list : List Sent) (printed : List Line) → made ≡ as_made (shape_of options)
    → list ≡ messages_for options p trace → HasReplied made after (lines_at trace (numbers_in list)) printed → (to : History) × RepliesTo options [] (lines_for options p trace) printed to
share_replied options p trace made after list printed fresh whole replied =
    let start : RepliesTo (options_in (as_made (shape_of options))) [] (lines_at trace (numbers_in list)) printed after.history
    = subst (λ (o : OwnerState). RepliesTo (options_in o) o.history (lines_at trace (numbers_in list)) printed after.history) fresh replied.replies in (
      after.history,
      same_replies options [] (lines_for options p trace) printed after.history (subst (λ (ls : List TraceLine). RepliesTo (options_of (shape_of options)) [] ls printed after.history) (ap (λ (l : List Sent). lines_at trace (numbers_in l)) whole ∙ lines_read options p trace) start),
    )
