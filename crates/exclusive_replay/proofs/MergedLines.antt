-- What owners printed, put together line by line, is an exact report.
use Rattle.std.proofs.Common.{◌≡◌, ◌≢◌, ℕ, zero, suc, ◌+◌, inl, inr, take, drop, get_or, set, ◌<◌, Bool, List, [], ◌∷◌, ◌++◌, length, Some, None, refl, sym, ap, ◌∙◌, subst, cond, true, false, true≢false, not, slice_get, eq-eqb, append-nil, arith}
use Rattle.std.specs.List.{AllByRecursion, cons_option}
use Rattle.std.specs.Prelude.{◌&&◌}
use Rattle.std.proofs.lemmas.Bool.{eqb-true}
use Rattle.partition_model.specs.declared.options.Options.{Options}
use Rattle.partition_model.specs.History.{History}
use Rattle.partition_model.specs.Run.{history_of}
use Rattle.mica_trace.specs.declared.line.TraceOp.{TraceOp}
use Rattle.mica_trace.specs.declared.line.TraceOp.TheVariants.{Put, Add, Touch, Del, Get, Sync}
use Rattle.mica_trace.specs.declared.line.TraceLine.{TraceLine}
use Rattle.mica_trace.specs.declared.report.Line.{Line}
use Rattle.mica_trace.specs.declared.report.Line.TheVariants.{Sync as SyncLine}
use Rattle.mica_trace.specs.TraceGrammar.{IsTraceLine, is_sync}
use Rattle.mica_trace.specs.Rounds.{write_by, partition_in, is_in_partition}
use Rattle.mica_trace.specs.LawfulReport.{step_by}
use Rattle.mica_trace.specs.RoundReport.{history_in}
use Rattle.mica_trace.specs.LineReply.{IsReplyAfter, RepliesTo, history_with, lines_for}
use Rattle.mica_trace.specs.ExactReport.{ExactReport}
use Rattle.mica_trace.proofs.ExactLines.{history_own, history_other, exact_more}
use Rattle.std.proofs.Math.ListN.{length-set}
use Rattle.std.proofs.lemmas.List.{take_more}
use Rattle.std.proofs.lemmas.Option.{slice_get_within}
use Rattle.line_replies.proofs.Parts.{get_set, get_others}
use Rattle.exclusive_replay.specs.Merged.{AreReplied, TakesNext}

-- how far the lines are put together
pub record IsMerging (options : Options) (before later : List TraceLine) (report : List Line) (printed : List (List Line)) : Type 0 where
  pub exact : ExactReport options before report
  pub replied : AreReplied options (λ p. history_in options p before report) later printed

sync_reply : (options : Options) (history : History) (line : TraceLine) → is_sync line ≡ true → IsReplyAfter options history line SyncLine
sync_reply options history line is = by line.op is
  where
    by : (op : TraceOp) → is_sync (record { op = op; key = line.key; value = line.value }) ≡ true → IsReplyAfter options history (record { op = op; key = line.key; value = line.value }) SyncLine
    by Sync is = record { kind = tt; write = tt; get = λ none. absurd (cc) }
    by Put is = absurd (cc)
    by Add is = absurd (cc)
    by Touch is = absurd (cc)
    by Del is = absurd (cc)
    by Get is = absurd (cc)

no_step : (op : TraceOp) (key value : List ℕ) → step_by (write_by op key value) SyncLine ≡ None
no_step Put key value = refl
no_step Add key value = refl
no_step Touch key value = refl
no_step Del key value = refl
no_step Get key value = refl
no_step Sync key value = refl

-- a sync gives no history
with_none : (h : History) (line : TraceLine) → history_with h line SyncLine ≡ h
with_none h line = ap (λ o. h ++ history_of (cons_option o [])) (no_step line.op line.key line.value) ∙ append-nil h

module _ (options : Options) (before later : List TraceLine) (report : List Line) (line : TraceLine) (all : AllByRecursion IsTraceLine before) where
  abbrev own : ℕ
  own = partition_in options line

  -- the lines of a partition, from this one on
  abbrev lines_if : ℕ → Bool → Bool → List TraceLine
  lines_if p is_sync here = cond (not is_sync && here) (line ∷ lines_for options p later) (lines_for options p later)

  mine : is_in_partition options own line ≡ true
  mine = eq-eqb own own refl

  module _ (printed : List (List Line)) (so_far : IsMerging options before (line ∷ later) report printed) where
    no_history : (p : ℕ) → history_in options p (before ++ line ∷ []) (report ++ SyncLine ∷ []) ≡ history_in options p before report
    no_history p =
        elim (is_in_partition options p line) as (λ b. is_in_partition options p line ≡ b → history_in options p (before ++ line ∷ []) (report ++ SyncLine ∷ []) ≡ history_in options p before report) [
          | true ↦ λ here.
              let same : own ≡ p = eqb-true _ _ here in
              subst (λ q. history_in options q (before ++ line ∷ []) (report ++ SyncLine ∷ []) ≡ history_in options q before report) same
              (history_own options before report so_far.exact.lines line SyncLine ∙ with_none (history_in options own before report) line)
          | false ↦ λ apart. history_other options before report so_far.exact.lines line SyncLine p apart
        ] refl

    -- a sync is printed, and waits for nothing
    pub merged_sync : is_sync line ≡ true → IsMerging options (before ++ line ∷ []) later (report ++ SyncLine ∷ []) printed
    merged_sync sync = record {
      exact = exact_more options before report line SyncLine all so_far.exact (sync_reply options (history_in options own before report) line sync);
      replied = record {
        many = so_far.replied.many;
        each = λ p l is.
            let was = so_far.replied.each p l is in
            let passed = subst (λ b. RepliesTo options (history_in options p before report) (lines_if p b (is_in_partition options p line)) l was.0) sync was.1 in
            (was.0, subst (λ (h : History). RepliesTo options h (lines_for options p later) l was.0) (sym (no_history p)) passed);
      };
    }

    module _ (other : is_sync line ≡ false) where
      from_here : (l : List Line) (to : History) → RepliesTo options (history_in options own before report) (lines_for options own (line ∷ later)) l to
          → RepliesTo options (history_in options own before report) (line ∷ lines_for options own later) l to
      from_here l to replies =
          let one = subst (λ b. RepliesTo options (history_in options own before report) (lines_if own b (is_in_partition options own line)) l to) other replies in
          subst (λ b. RepliesTo options (history_in options own before report) (lines_if own false b) l to) mine one

      -- its partition has a line for it
      pub some_line : (l : List Line) → slice_get printed own ≡ Some l → 0 < length l
      some_line [] is = let was = so_far.replied.each own [] is in absurd (from_here [] was.0 was.1)
      some_line (x ∷ l) is = omega arith

      module _ (news : List (List Line)) (first : Line) (rest : List Line) (here : slice_get printed own ≡ Some (first ∷ rest)) (there : slice_get news own ≡ Some rest)
          (many : length news ≡ length printed) (others : (p : ℕ) (l : List Line) → p ≢ own → slice_get news p ≡ Some l → slice_get printed p ≡ Some l) where
        replied : (to : History) × IsReplyAfter options (history_in options own before report) line first
            × RepliesTo options (history_with (history_in options own before report) line first) (lines_for options own later) rest to
        replied = let was = so_far.replied.each own (first ∷ rest) here in let now = from_here (first ∷ rest) was.0 was.1 in (was.0, now.0, now.1)

        pub merged_line : IsMerging options (before ++ line ∷ []) later (report ++ first ∷ []) news
        merged_line = record {
          exact = exact_more options before report line first all so_far.exact replied.1;
          replied = record {
            many = many ∙ so_far.replied.many;
            each = λ p l is.
                elim (is_in_partition options p line)
                as (λ b. is_in_partition options p line ≡ b → (to : History) × RepliesTo options (history_in options p (before ++ line ∷ []) (report ++ first ∷ [])) (lines_for options p later) l to) [
                  | true ↦ λ at.
                      let same : own ≡ p = eqb-true _ _ at in
                      let own_rest : slice_get news p ≡ Some rest = subst (λ q. slice_get news q ≡ Some rest) same there in
                      let is_rest : rest ≡ l = cc in
                      let history = history_own options before report so_far.exact.lines line first in
                      subst (λ (x : List Line). (to : History) × RepliesTo options (history_in options p (before ++ line ∷ []) (report ++ first ∷ [])) (lines_for options p later) x to) is_rest
                      (subst (λ q. (to : History) × RepliesTo options (history_in options q (before ++ line ∷ []) (report ++ first ∷ [])) (lines_for options q later) rest to) same
                      (replied.0, subst (λ (h : History). RepliesTo options h (lines_for options own later) rest replied.0) (sym history) replied.2))
                  | false ↦ λ apart.
                      let was = so_far.replied.each p l (others p l (λ same. true≢false (sym (eq-eqb own p (sym same)) ∙ apart)) is) in
                      let one = subst (λ b. RepliesTo options (history_in options p before report) (lines_if p b (is_in_partition options p line)) l was.0) other was.1 in
                      let passed = subst (λ b. RepliesTo options (history_in options p before report) (lines_if p false b) l was.0) apart one in
                      let history = history_other options before report so_far.exact.lines line first p apart in
                      (was.0, subst (λ (h : History). RepliesTo options h (lines_for options p later) l was.0) (sym history) passed)
                ] refl;
          };
        }

-- one line more, as it is taken
pub merged_next : (options : Options) (before later : List TraceLine) (report : List Line) (line : TraceLine) (printed news : List (List Line)) (x : Line) → AllByRecursion IsTraceLine before
    → IsMerging options before (line ∷ later) report printed → TakesNext options line printed news x → IsMerging options (before ++ line ∷ []) later (report ++ x ∷ []) news
merged_next options before later report line printed news x all so_far (inl sync) =
    rw (sync.1, sync.2) (merged_sync options before later report line all printed so_far sync.0)
merged_next options before later report line printed news x all so_far (inr taken) =
    let p = partition_in options line in
    let rest = taken.1.0 in
    let here = taken.1.1 in
    let less = slice_get_within printed p (x ∷ rest) here in
    let set_is = taken.1.2 in
    rw set_is (merged_line options before later report line all printed so_far taken.0 (set printed p rest) x rest here (get_set printed p rest less) (length-set printed p rest)
    (λ q l other is. sym (get_others printed p q rest other) ∙ is))

-- at line i the lines that are left are this one and those behind it
pub at_line : (options : Options) (lines : List TraceLine) (i : ℕ) (line : TraceLine) (report : List Line) (printed : List (List Line)) → i < length lines → line ≡ get_or lines i line
    → IsMerging options (take i lines) (drop i lines) report printed → IsMerging options (take i lines) (line ∷ drop (i + 1) lines) report printed
at_line options lines i line report printed less is so_far =
    subst (λ (later : List TraceLine). IsMerging options (take i lines) later report printed) (drop_line lines i less ∙ ap (λ (l : TraceLine). l ∷ drop (i + 1) lines) (sym is)) so_far
  where
    drop_line : (ls : List TraceLine) (n : ℕ) → n < length ls → drop n ls ≡ get_or ls n line ∷ drop (n + 1) ls
    drop_line [] n less = absurd (omega arith)
    drop_line (l ∷ ls) zero less = refl
    drop_line (l ∷ ls) (suc n) less = let e : suc n + 1 ≡ suc (n + 1) = omega arith in drop_line ls n (omega arith) ∙ ap (λ (k : ℕ). get_or ls n line ∷ drop k (l ∷ ls)) (sym e)

pub more_lines : (options : Options) (lines : List TraceLine) (i : ℕ) (line : TraceLine) (report : List Line) (printed : List (List Line)) → i < length lines → line ≡ get_or lines i line
    → IsMerging options (take i lines ++ line ∷ []) (drop (i + 1) lines) report printed → IsMerging options (take (i + 1) lines) (drop (i + 1) lines) report printed
more_lines options lines i line report printed less is so_far =
    subst (λ (before : List TraceLine). IsMerging options before (drop (i + 1) lines) report printed)
    (ap (λ (l : TraceLine). take i lines ++ l ∷ []) is ∙ sym (take_more lines i line less)) so_far
