-- An exact report gets one line more, and at each of its lines it has what is replied after the lines before.
use Rattle.std.proofs.Common.{◌≡◌, ℕ, zero, suc, ◌+◌, ◌<◌, ◌≤◌, inl, inr, List, [], ◌∷◌, ◌++◌, length, Option, Some, None, refl, sym, ap, ◌∙◌, subst, arith, slice_get, zip, cond, false, eq-eqb, append-nil}
use Rattle.std.specs.List.{filter_map, cons_option, AllZip, AllByRecursion}
use Rattle.std.proofs.Math.Seq.{take-length}
use Rattle.std.proofs.lemmas.List.{take-append-le}
use Rattle.std.proofs.lemmas.List.Elements.{filter_map-append}
use Rattle.std.proofs.lemmas.Option.{same_Some}
use Rattle.std.proofs.lemmas.Grind.{common_steps}
use Rattle.mica_words.proofs.Hashes.{partition_of-below}
use Rattle.partition_model.specs.declared.options.Options.{Options}
use Rattle.partition_model.specs.Options.{IsValid}
use Rattle.partition_model.specs.declared.write.Op.{Op}
use Rattle.partition_model.specs.declared.write.Op.TheVariants.{Put as PutOp, Add as AddOp, Touch as TouchOp, Del as DelOp}
use Rattle.partition_model.specs.declared.write.Outcome.{Outcome}
use Rattle.partition_model.specs.Write.{write_of}
use Rattle.partition_model.specs.History.{History, state_of}
use Rattle.partition_model.specs.Run.{RunStep, IsRun, IsRunFrom, history_of}
use Rattle.mica_trace.specs.declared.line.TraceOp.{TraceOp}
use Rattle.mica_trace.specs.declared.line.TraceOp.TheVariants.{Put, Add, Touch, Del, Get, Sync}
use Rattle.mica_trace.specs.declared.line.TraceLine.{TraceLine}
use Rattle.mica_trace.specs.declared.report.Line.{Line}
use Rattle.mica_trace.specs.declared.report.Line.TheVariants.{Wrote, Sync as SyncLine}
use Rattle.mica_trace.specs.TraceGrammar.{IsTraceLine}
use Rattle.mica_trace.specs.ReportGrammar.{HasOutcome}
use Rattle.mica_trace.specs.Rounds.{write_by, write_in, writes_of, partition_in, is_in_partition}
use Rattle.mica_trace.specs.LawfulReport.{IsLineFor, step_by, step_in, steps_of, history_after, Answers, IsGetAt}
use Rattle.mica_trace.specs.RoundReport.{history_in}
use Rattle.mica_trace.specs.LineReply.{steps_at, history_with, IsReplyAfter}
use Rattle.mica_trace.specs.ExactReport.{writes_before, ExactReport}
use Rattle.mica_trace.proofs.ListParts.{same_part, zip-append, AllZip-append, length_zip, length-cons_option}
use Rattle.partition_model.proofs.Runs.{run-append, history-append}
use Rattle.mica_trace.proofs.RoundPlaces.{steps_count}
use Rattle.mica_trace.proofs.Outcomes.{has_outcome}
use Rattle.mica_trace.proofs.Standing.{StoresValue, answer_stands, stored}

pub none_exact : (options : Options) → ExactReport options [] []
none_exact options = grind (arith, common_steps)

-- no more writes stand before a line than there are
below_all : (options : Options) (p : ℕ) (lines : List TraceLine) (n : ℕ) → writes_before options p lines n ≤ length (writes_of options p lines)
below_all options p [] zero = omega arith
below_all options p [] (suc n) = omega arith
below_all options p (line ∷ lines) zero = omega arith
below_all options p (line ∷ lines) (suc n) = length-cons_option (write_in options p line) _ _ (below_all options p lines n)

-- lines with others behind them

module _ (options : Options) (before later : List TraceLine) (report rest : List Line) (lines : AllZip IsLineFor before report) where
  pub steps_both : (p : ℕ) → steps_of options p (before ++ later) (report ++ rest) ≡ steps_of options p before report ++ steps_of options p later rest
  steps_both p =
      ap (filter_map (step_in options p)) (zip-append before later report rest (length_zip IsLineFor before report lines))
      ∙ filter_map-append (step_in options p) (zip before report) (zip later rest)

  few : (p n : ℕ) → writes_before options p before n ≤ length (steps_of options p before report)
  few p n = omega (arith, steps_count options p before report lines, below_all options p before n)

  -- the history at one of them
  pub history_front : (p n : ℕ) → n ≤ length before
      → history_after options p (before ++ later) (report ++ rest) (writes_before options p (before ++ later) n) ≡ history_after options p before report (writes_before options p before n)
  history_front p n le =
      grind (arith, common_steps, take-append-le n before later le, steps_both p, take-append-le (writes_before options p before n) (steps_of options p before report) (steps_of options p later rest) (few p n), few p n)

  -- and behind them
  pub history_there : (p : ℕ)
      → history_after options p (before ++ later) (report ++ rest) (writes_before options p (before ++ later) (length before)) ≡ history_in options p before report
  history_there p =
      grind (arith, common_steps, history_front p (length before) (omega arith), take-length before, steps_count options p before report lines, take-length (steps_of options p before report))

-- what one line more leaves of each partition's history

module _ (options : Options) (before : List TraceLine) (report : List Line) (lines : AllZip IsLineFor before report) (line : TraceLine) (printed : Line) where
  history_both : (p : ℕ) → history_in options p (before ++ line ∷ []) (report ++ printed ∷ [])
      ≡ history_in options p before report ++ history_of (cons_option (cond (is_in_partition options p line) (step_by (write_by line.op line.key line.value) printed) None) [])
  history_both p =
      ap history_of (steps_both options before (line ∷ []) report (printed ∷ []) lines p)
      ∙ history-append (steps_of options p before report) (steps_of options p (line ∷ []) (printed ∷ []))

  pub history_own : history_in options (partition_in options line) (before ++ line ∷ []) (report ++ printed ∷ []) ≡ history_with (history_in options (partition_in options line) before report) line printed
  history_own = grind (arith, common_steps, eq-eqb (partition_in options line) (partition_in options line) refl, history_both (partition_in options line))

  pub history_other : (p : ℕ) → is_in_partition options p line ≡ false → history_in options p (before ++ line ∷ []) (report ++ printed ∷ []) ≡ history_in options p before report
  history_other p apart = grind (arith, common_steps, history_both p, append-nil (history_in options p before report))

-- what is printed as a reply stands for its line

module _ (options : Options) (history : History) (key value : List ℕ) where
  write_stands : (does p : Op) (o : Outcome) (s : ℕ) → p ≡ does → IsRunFrom options history (record { write = write_of does key value; outcome = o; stamp = s } ∷ []) → HasOutcome p o
  write_stands does p o s is run = grind (arith, common_steps, has_outcome options (state_of options history) (write_of does key value) o run.0)

  reply_stands : (op : TraceOp) (printed : Line) → AllByRecursion StoresValue history
      → IsReplyAfter options history (record { op = op; key = key; value = value }) printed → IsLineFor (record { op = op; key = key; value = value }) printed
  reply_stands Put (Wrote p o s) all reply = (write_stands PutOp p o s reply.kind reply.write, reply.kind)
  reply_stands Add (Wrote p o s) all reply = (write_stands AddOp p o s reply.kind reply.write, reply.kind)
  reply_stands Touch (Wrote p o s) all reply = (write_stands TouchOp p o s reply.kind reply.write, reply.kind)
  reply_stands Del (Wrote p o s) all reply = (write_stands DelOp p o s reply.kind reply.write, reply.kind)
  reply_stands Get printed all reply = (answer_stands options history key printed all (reply.get refl), reply.kind)
  reply_stands Sync SyncLine all reply = (tt, reply.kind)
  reply_stands op printed all reply = absurd reply.kind

-- one line more

module _ (options : Options) (before : List TraceLine) (report : List Line) (line : TraceLine) (printed : Line) (all : AllByRecursion IsTraceLine before)
    (exact : ExactReport options before report) (reply : IsReplyAfter options (history_in options (partition_in options line) before report) line printed) where
  line_stands : IsLineFor line printed
  line_stands =
      let p = partition_in options line in
      reply_stands options (history_in options p before report) line.key line.value line.op printed (stored options p before report all) reply

  run_one : (p : ℕ) → IsRunFrom options (history_in options p before report) (steps_of options p (line ∷ []) (printed ∷ []))
  run_one p = grind (arith, common_steps)

  runs : (p : ℕ) → p < options.partitions → IsRun options (steps_of options p (before ++ line ∷ []) (report ++ printed ∷ []))
  runs p below =
      subst (IsRun options) (sym (steps_both options before (line ∷ []) report (printed ∷ []) exact.lines p))
      (run-append options [] (steps_of options p before report) (steps_of options p (line ∷ []) (printed ∷ [])) (exact.writes p below) (run_one p))

  new_get : (k n : ℕ) (l : TraceLine) (r : Line) → n ≡ length before + k → slice_get (line ∷ []) k ≡ Some l → slice_get (printed ∷ []) k ≡ Some r → l.op ≡ Get
      → Answers options (history_after options (partition_in options l) (before ++ line ∷ []) (report ++ printed ∷ []) (writes_before options (partition_in options l) (before ++ line ∷ []) n)) l.key r
  new_get zero n l r at is_line is_printed op =
      grind (arith, common_steps, same_Some line l is_line, same_Some printed r is_printed, history_there options before (line ∷ []) report (printed ∷ []) exact.lines (partition_in options line))
  new_get (suc k) n l r at is_line is_printed op = absurd (cc)

  gets : (n : ℕ) (l : TraceLine) (r : Line) → IsGetAt (before ++ line ∷ []) (report ++ printed ∷ []) n l r
      → Answers options (history_after options (partition_in options l) (before ++ line ∷ []) (report ++ printed ∷ []) (writes_before options (partition_in options l) (before ++ line ∷ []) n)) l.key r
  gets n l r get =
      elim (same_part before (line ∷ []) report (printed ∷ []) n l r (length_zip IsLineFor before report exact.lines) get.asked get.answered)
      as (λ _. Answers options (history_after options (partition_in options l) (before ++ line ∷ []) (report ++ printed ∷ []) (writes_before options (partition_in options l) (before ++ line ∷ []) n)) l.key r) [
        | inl old ↦
            let less = old.0 in
            grind (arith, common_steps, history_front options before (line ∷ []) report (printed ∷ []) exact.lines (partition_in options l) n (omega arith))
        | inr new ↦ new_get new.0 n l r new.1 new.2 new.3 get.get
      ]

  pub exact_more : ExactReport options (before ++ line ∷ []) (report ++ printed ∷ [])
  exact_more = grind (arith, common_steps, AllZip-append IsLineFor before (line ∷ []) report (printed ∷ []) exact.lines (line_stands, tt), line_stands, runs, gets)

-- at its place

AllZip-split : {X Y : Type 0} (R : X → Y → Type 0) (xs ys : List X) (us vs : List Y) → length us ≡ length xs → AllZip R (xs ++ ys) (us ++ vs) → AllZip R xs us × AllZip R ys vs
AllZip-split R [] ys [] vs same all = (tt, all)
AllZip-split R [] ys (v ∷ us) vs same all = absurd (omega arith)
AllZip-split R (y ∷ xs) ys [] vs same all = absurd (omega arith)
AllZip-split R (y ∷ xs) ys (v ∷ us) vs same all = let rest = AllZip-split R xs ys us vs (omega arith) all.1 in ((all.0, rest.0), rest.1)

run-back : (options : Options) (history : History) (s t : List RunStep) → IsRunFrom options history (s ++ t) → IsRunFrom options (history ++ history_of s) t
run-back options history [] t run = subst (λ h. IsRunFrom options h t) (sym (append-nil history)) run
run-back options history (step ∷ s) t run = grind (arith, common_steps, run-back options (history ++ history_of (step ∷ [])) s t run.2)

run_first : (options : Options) (history : History) (first : Option RunStep) (later : List RunStep) → IsRunFrom options history (cons_option first later) → IsRunFrom options history (cons_option first [])
run_first options history None later run = tt
run_first options history (Some step) later run = (run.0, run.1, tt)

pub get_middle : {X : Type 0} (xs ys : List X) (x : X) → slice_get (xs ++ x ∷ ys) (length xs) ≡ Some x
get_middle [] ys x = refl
get_middle (y ∷ xs) ys x = get_middle xs ys x

module _ (options : Options) (valid : IsValid options) (before later : List TraceLine) (report rest : List Line) (line : TraceLine) (printed : Line)
    (same : length report ≡ length before) (exact : ExactReport options (before ++ line ∷ later) (report ++ printed ∷ rest)) where
  abbrev p : ℕ
  p = partition_in options line

  parts : AllZip IsLineFor before report × AllZip IsLineFor (line ∷ later) (printed ∷ rest)
  parts = AllZip-split IsLineFor before (line ∷ later) report (printed ∷ rest) same exact.lines

  run_there : IsRunFrom options (history_in options p before report) (steps_of options p (line ∷ later) (printed ∷ rest))
  run_there =
      run-back options [] (steps_of options p before report) (steps_of options p (line ∷ later) (printed ∷ rest))
      (subst (IsRun options) (steps_both options before (line ∷ later) report (printed ∷ rest) parts.0 p) (exact.writes p (partition_of-below options.hashing line.key options.partitions valid.partitions.0)))

  run_here : IsRunFrom options (history_in options p before report) (steps_at line printed)
  run_here =
      grind (arith, common_steps, eq-eqb p p refl, run_first options (history_in options p before report) (step_by (write_by line.op line.key line.value) printed) (steps_of options p later rest), run_there)

  pub reply_there : IsReplyAfter options (history_in options p before report) line printed
  reply_there = record {
    kind = parts.1.0.1;
    write = run_here;
    get = λ op.
        grind (arith, common_steps, history_there options before (line ∷ later) report (printed ∷ rest) parts.0 p, get_middle before later line, get_middle report rest printed);
  }
