-- What an owner makes of the lines that come through its queue.
use Rattle.std.proofs.Common.{◌≡◌, ℕ, zero, suc, ◌<◌, true, false, List, [], ◌∷◌, ◌++◌, length, get_or, Option, Some, None, Result, Ok, Err, IfSome, IfOk, refl, sym, ap, ◌∙◌, subst, arith, slice_get}
use Rattle.std.specs.Prelude.{◌||◌}
use Rattle.std.specs.Result.{result_ok}
use Rattle.std.specs.List.{AllByRecursion, cons_option, filter_map}
use Rattle.std.proofs.lemmas.List.Elements.{filter_map-append}
use Rattle.std.proofs.lemmas.List.Folds.{list_any-append}
use Rattle.partition_model.specs.declared.options.Options.{Options}
use Rattle.partition_model.specs.History.{History}
use Rattle.mica_trace.specs.declared.line.TraceLine.{TraceLine}
use Rattle.mica_trace.specs.declared.report.Line.{Line}
use Rattle.mica_trace.specs.LineReply.{IsReplyAfter, RepliesTo, history_with}
use Rattle.mica_trace.proofs.Replying.{replies_more}
use Rattle.partition_words.specs.declared.state.OwnerState.{OwnerState}
use Rattle.partition_words.specs.OwnerState.{options_in}
use Rattle.line_replies.specs.Replied.{IsReplied, HasReplied}
use Rattle.exclusive_replay.specs.declared.queue.Sent.{Sent}
use Rattle.exclusive_replay.specs.declared.queue.Sent.TheVariants as sent
use Rattle.exclusive_replay.specs.Sent.{has_end, is_end, number_in, numbers_in}
use Rattle.exclusive_replay.specs.LineEnds.{LineBox, line_box}
use Rattle.exclusive_replay.specs.Workers.{lines_at, AnswersLine}

pub all_at : {X : Type 0} (P : X → Type 0) (xs : List X) (i : ℕ) (x : X) → AllByRecursion P xs → i < length xs → x ≡ get_or xs i x → P x
all_at P [] i x all less is = absurd (omega arith)
all_at P (y ∷ xs) zero x all less is = subst P (sym is) all.0
all_at P (y ∷ xs) (suc i) x all less is = all_at P xs i x all.1 (omega arith) is

pub if_some : {X : Type 0} (o : Option X) (P Q : X → Type 0) → ((x : X) → P x → Q x) → IfSome o P → IfSome o Q
if_some None P Q on is = tt
if_some (Some x) P Q on is = on x is

pub if_ok : {X E : Type 0} (r : Result X E) (o : Option X) (P : X → Type 0) → o ≡ result_ok r → IfOk r P → IfSome o P
if_ok (Ok x) o P is holds = rw is holds
if_ok (Err e) o P is holds = rw is tt

-- nothing was taken yet
pub started : (owner : OwnerState) (trace : List TraceLine) (list : List Sent) (items : List Line) → list ≡ [] → items ≡ [] → HasReplied owner owner (lines_at trace (numbers_in list)) items
started owner trace list items fresh none = rw (fresh, none) (record { replies = refl; gained = refl })

-- the queue after one message more
pub taken_more : (a b c : LineBox) (m : Sent) → b ≡ line_box a.queue a.lines b.list → c ≡ line_box b.queue b.lines (b.list ++ m ∷ []) → c ≡ line_box a.queue a.lines c.list
taken_more a b c m one two =
    let list : c.list ≡ b.list ++ m ∷ [] = ap (λ (x : LineBox). x.list) two in
    two ∙ ap (λ (x : LineBox). line_box x.queue x.lines (b.list ++ m ∷ [])) one ∙ ap (line_box a.queue a.lines) (sym list)

pub unended : (list : List Sent) (number : ℕ) → has_end list ≡ false → has_end (list ++ sent.Line number ∷ []) ≡ false
unended list number none = list_any-append is_end list (sent.Line number ∷ []) ∙ ap (λ b. b || false) none

pub ended : (list : List Sent) → has_end list ≡ false → has_end (list ++ sent.End ∷ []) ≡ true
ended list none = list_any-append is_end list (sent.End ∷ []) ∙ ap (λ b. b || true) none

lines_more : (trace : List TraceLine) (list : List Sent) (number : ℕ) (line : TraceLine) → slice_get trace number ≡ Some line
    → lines_at trace (numbers_in (list ++ sent.Line number ∷ [])) ≡ lines_at trace (numbers_in list) ++ line ∷ []
lines_more trace list number line is =
    ap (filter_map (slice_get trace)) (filter_map-append number_in list (sent.Line number ∷ []))
    ∙ filter_map-append (slice_get trace) (numbers_in list) (number ∷ [])
    ∙ ap (λ (o : Option TraceLine). lines_at trace (numbers_in list) ++ cons_option o []) is

-- an end names no line
pub lines_ended : (trace : List TraceLine) (list : List Sent) → lines_at trace (numbers_in (list ++ sent.End ∷ [])) ≡ lines_at trace (numbers_in list)
lines_ended trace list =
    ap (filter_map (slice_get trace)) (filter_map-append number_in list (sent.End ∷ []))
    ∙ filter_map-append (slice_get trace) (numbers_in list) [] ∙ all_of (lines_at trace (numbers_in list))
  where
    all_of : (ls : List TraceLine) → ls ++ [] ≡ ls
    all_of [] = refl
    all_of (l ∷ ls) = ap (λ (x : List TraceLine). l ∷ x) (all_of ls)

module _ (old mid new : OwnerState) (lines : List TraceLine) (printed : List Line) (line : TraceLine) (more : Line) (so_far : HasReplied old mid lines printed) (one : IsReplied mid new line more) where
  history_is : new.history ≡ history_with mid.history line more
  history_is = ap (λ (o : OwnerState). o.history) one.gained

  here : IsReplyAfter (options_in old) mid.history line more
  here = subst (λ (o : Options). IsReplyAfter o mid.history line more) (ap options_in so_far.gained) one.reply

  pub replied_more : HasReplied old new (lines ++ line ∷ []) (printed ++ more ∷ [])
  replied_more = record {
    replies = subst (λ (h : History). RepliesTo (options_in old) old.history (lines ++ line ∷ []) (printed ++ more ∷ []) h) (sym history_is)
        (replies_more (options_in old) old.history mid.history lines printed line more so_far.replies here);
    gained =
        one.gained ∙ ap (λ (h : History). record mid { words = new.words; history = h }) (sym history_is)
        ∙ ap (λ (m : OwnerState). record m { words = new.words; history = new.history }) so_far.gained;
  }

-- one line more was answered
pub answers_more : (old mid new : OwnerState) (trace : List TraceLine) (list now : List Sent) (number : ℕ) (before after : List Line) → HasReplied old mid (lines_at trace (numbers_in list)) before
    → AnswersLine mid new trace number before after → now ≡ list ++ sent.Line number ∷ [] → HasReplied old new (lines_at trace (numbers_in now)) after
answers_more old mid new trace list now number before after so_far one is =
    rw (is, lines_more trace list number one.line one.at, one.more) (replied_more old mid new (lines_at trace (numbers_in list)) before one.line one.printed so_far one.replied)
