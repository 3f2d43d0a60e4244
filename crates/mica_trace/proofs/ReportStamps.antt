-- The stamps of a lawful report have 64 bits, so its text is that of a report.
use Rattle.std.proofs.Common.{◌≡◌, ℕ, zero, suc, ◌<◌, ◌≤◌, List, [], ◌∷◌, ◌++◌, take, Option, Some, None, refl, sym, ap, ◌∙◌, subst, arith, cond, true, false, append_assoc, eq-eqb}
use Rattle.std.specs.List.{AllByRecursion, AllZip, cons_option}
use Rattle.std.proofs.lemmas.List.{append-nil}
use Rattle.mica_words.proofs.Hashes.{partition_of-below}
use Rattle.mica_words.proofs.Sizes.{short_stored}
use Rattle.mica_words.specs.Packing.{AreBytes}
use Rattle.partition_model.specs.declared.options.Options.{Options}
use Rattle.partition_model.specs.declared.write.Op.TheVariants.{Put as PutOp, Add as AddOp, Touch as TouchOp, Del as DelOp}
use Rattle.partition_model.specs.declared.write.Write.{Write}
use Rattle.partition_model.specs.Options.{IsValid}
use Rattle.partition_model.specs.Write.{IsWrite, is_accepted}
use Rattle.partition_model.specs.History.{History, IsHistory, MayGive, stamp_of}
use Rattle.partition_model.specs.Run.{RunStep, IsRunFrom, history_of}
use Rattle.partition_model.proofs.Histories.{history_snoc}
use Rattle.partition_model.proofs.StampWords.{stamp_is_word}
use Rattle.mica_trace.specs.declared.line.TraceOp.{TraceOp}
use Rattle.mica_trace.specs.declared.line.TraceOp.TheVariants.{Put, Add, Del, Touch, Get, Sync}
use Rattle.mica_trace.specs.declared.line.TraceLine.{TraceLine}
use Rattle.mica_trace.specs.declared.report.Line.{Line}
use Rattle.mica_trace.specs.declared.report.Line.TheVariants.{Wrote, Hit, Miss, Sync as SyncLine}
use Rattle.mica_trace.specs.Lines.{lines_of}
use Rattle.mica_trace.specs.TraceGrammar.{HasFields, IsTraceLine, IsTextOf, IsTrace}
use Rattle.mica_trace.specs.ReportGrammar.{IsStamp, IsPrintable, printed_stamp, report_text, IsReport}
use Rattle.mica_trace.specs.Rounds.{partition_in, is_in_partition, write_by}
use Rattle.mica_trace.specs.LawfulReport.{IsKindOf, IsLineFor, step_by, step_in, steps_of, IsGetAt, LawfulReport}
use Rattle.mica_trace.proofs.Exact.{stamp_printed}
use Rattle.partition_model.proofs.Runs.{history_cons}

-- Each write of a trace line fits.

low_bytes : (bytes : List ℕ) → AllByRecursion (λ x. x ≤ 126) bytes → AreBytes bytes
low_bytes [] all k = omega arith
low_bytes (x ∷ bytes) all zero = let low = all.0 in omega arith
low_bytes (x ∷ bytes) all (suc k) = low_bytes bytes all.1 k

visible : (low : ℕ) (bytes : List ℕ) → AllByRecursion (λ x. (low ≤ x) × (x ≤ 126)) bytes → AllByRecursion (λ x. x ≤ 126) bytes
visible low [] all = tt
visible low (x ∷ bytes) all = (all.0.1, visible low bytes all.1)

pub line_write : (op : TraceOp) (key value : List ℕ) (write : Write) → HasFields op key value → write_by op key value ≡ Some write → IsWrite write
line_write Put key value write fields is =
    let e : record { op = PutOp; key = key; value = value } ≡ write = cc in
    subst IsWrite e (record { key = fields.0.0; key_bytes = low_bytes key (visible 33 key fields.0.1); value = short_stored value fields.1.0; value_bytes = low_bytes value (visible 32 value fields.1.1) })
line_write Add key value write fields is =
    let e : record { op = AddOp; key = key; value = value } ≡ write = cc in
    subst IsWrite e (record { key = fields.0.0; key_bytes = low_bytes key (visible 33 key fields.0.1); value = short_stored value fields.1.0; value_bytes = low_bytes value (visible 32 value fields.1.1) })
line_write Del key value write fields is =
    let e : record { op = DelOp; key = key; value = value } ≡ write = cc in
    subst IsWrite e (record { key = fields.0.0; key_bytes = low_bytes key (visible 33 key fields.0.1); value = fields.1; value_bytes = subst AreBytes (sym fields.1) (low_bytes [] tt) })
line_write Touch key value write fields is =
    let e : record { op = TouchOp; key = key; value = value } ≡ write = cc in
    subst IsWrite e (record { key = fields.0.0; key_bytes = low_bytes key (visible 33 key fields.0.1); value = fields.1; value_bytes = subst AreBytes (sym fields.1) (low_bytes [] tt) })
line_write Get key value write fields is = absurd (cc)
line_write Sync key value write fields is = absurd (cc)

-- The stamps of a run

abbrev Fits : RunStep → Type 0
Fits step = IsWrite step.write

all_take : {X : Type 0} (P : X → Type 0) (i : ℕ) (xs : List X) → AllByRecursion P xs → AllByRecursion P (take i xs)
all_take P zero xs all = tt
all_take P (suc i) [] all = tt
all_take P (suc i) (x ∷ xs) all = (all.0, all_take P i xs all.1)

run_take : (options : Options) (history : History) (i : ℕ) (steps : List RunStep) → IsRunFrom options history steps → IsRunFrom options history (take i steps)
run_take options history zero steps run = tt
run_take options history (suc i) [] run = tt
run_take options history (suc i) (step ∷ steps) run = (run.0, run.1, run_take options (history ++ history_of (step ∷ [])) i steps run.2)

all_push : (history : History) (write : Write) → AllByRecursion IsWrite history → IsWrite write → AllByRecursion IsWrite (history ++ write ∷ [])
all_push [] write all is = (is, tt)
all_push (w ∷ history) write all is = (all.0, all_push history write all.1 is)

abbrev IsGood : Options → History → Type 0
IsGood options history = IsHistory options history × AllByRecursion IsWrite history

one_step : (options : Options) (history : History) (step : RunStep) → IsGood options history → IsWrite step.write → MayGive options history step.write step.outcome
    → IsGood options (history ++ history_of (step ∷ []))
one_step options history step good is may =
    elim (is_accepted step.outcome) as (λ b. is_accepted step.outcome ≡ b → IsGood options (history ++ cons_option (cond b (Some step.write) None) [])) [
      | true ↦ λ done. (history_snoc options history step.write good.0 (step.outcome, done, may), all_push history step.write good.1 is)
      | false ↦ λ _. subst (IsGood options) (sym (append-nil history)) good
    ] refl

module _ (options : Options) (valid : IsValid options) where
  good_small : (history : History) → IsGood options history → IsStamp (stamp_of options history)
  good_small history good = let wear = valid.wear.1 in stamp_is_word options (omega arith) history good.0 good.1

  run_small : (history : History) (steps : List RunStep) → IsGood options history → AllByRecursion Fits steps → IsRunFrom options history steps
      → AllByRecursion (λ step. IsStamp step.stamp) steps × IsGood options (history ++ history_of steps)
  run_small history [] good fit run = (tt, subst (IsGood options) (sym (append-nil history)) good)
  run_small history (step ∷ steps) good fit run =
      let now = history ++ history_of (step ∷ []) in
      let next = one_step options history step good fit.0 run.0 in
      let rest = run_small now steps next fit.1 run.2 in (
        (subst IsStamp (sym run.1) (good_small now next), rest.0),
        subst (IsGood options) (append_assoc history (history_of (step ∷ [])) (history_of steps) ∙ ap (λ h. history ++ h) (history_cons step steps)) rest.1,
      )

  -- The steps of a trace

  steps_fit : (p : ℕ) (trace : List TraceLine) (report : List Line) → AllByRecursion IsTraceLine trace → AllByRecursion Fits (steps_of options p trace report)
  steps_fit p [] report all = tt
  steps_fit p (line ∷ trace) [] all = tt
  steps_fit p (line ∷ trace) (r ∷ report) all =
      let rest = steps_fit p trace report all.1 in
      elim (is_in_partition options p line) as (λ b. AllByRecursion Fits (cons_option (cond b (step_by (write_by line.op line.key line.value) r) None) (steps_of options p trace report))) [
        | true ↦ step_fits line.op r all.0 rest
        | false ↦ rest
      ]
    where
      step_fits : (op : TraceOp) (printed : Line) → HasFields op line.key line.value → AllByRecursion Fits (steps_of options p trace report)
          → AllByRecursion Fits (cons_option (step_by (write_by op line.key line.value) printed) (steps_of options p trace report))
      step_fits Put (Wrote o outcome s) fields rest = (line_write Put line.key line.value _ fields refl, rest)
      step_fits Add (Wrote o outcome s) fields rest = (line_write Add line.key line.value _ fields refl, rest)
      step_fits Del (Wrote o outcome s) fields rest = (line_write Del line.key line.value _ fields refl, rest)
      step_fits Touch (Wrote o outcome s) fields rest = (line_write Touch line.key line.value _ fields refl, rest)
      step_fits Put (Hit s v) fields rest = rest
      step_fits Add (Hit s v) fields rest = rest
      step_fits Put (Miss s) fields rest = rest
      step_fits Add (Miss s) fields rest = rest
      step_fits Put SyncLine fields rest = rest
      step_fits Add SyncLine fields rest = rest
      step_fits Del (Hit s v) fields rest = rest
      step_fits Touch (Hit s v) fields rest = rest
      step_fits Del (Miss s) fields rest = rest
      step_fits Touch (Miss s) fields rest = rest
      step_fits Del SyncLine fields rest = rest
      step_fits Touch SyncLine fields rest = rest
      step_fits Get printed fields rest = rest
      step_fits Sync printed fields rest = rest

  -- The lines of a report

  all_later : (o : Option RunStep) (rest : List RunStep) → AllByRecursion (λ step. IsStamp step.stamp) (cons_option o rest) → AllByRecursion (λ step. IsStamp step.stamp) rest
  all_later None rest all = all
  all_later (Some step) rest all = all.1

  line_small : (op : TraceOp) (key value : List ℕ) (r : Line) (rest : List RunStep) → IsKindOf op r
      → AllByRecursion (λ step. IsStamp step.stamp) (cons_option (step_by (write_by op key value) r) rest) → (op ≡ Get → IsStamp (printed_stamp r)) → IsStamp (printed_stamp r)
  line_small Put key value (Wrote o outcome s) rest kind steps get = steps.0
  line_small Add key value (Wrote o outcome s) rest kind steps get = steps.0
  line_small Put key value (Hit s v) rest kind steps get = absurd kind
  line_small Add key value (Hit s v) rest kind steps get = absurd kind
  line_small Put key value (Miss s) rest kind steps get = absurd kind
  line_small Add key value (Miss s) rest kind steps get = absurd kind
  line_small Put key value SyncLine rest kind steps get = absurd kind
  line_small Add key value SyncLine rest kind steps get = absurd kind
  line_small Del key value (Wrote o outcome s) rest kind steps get = steps.0
  line_small Touch key value (Wrote o outcome s) rest kind steps get = steps.0
  line_small Del key value (Hit s v) rest kind steps get = absurd kind
  line_small Touch key value (Hit s v) rest kind steps get = absurd kind
  line_small Del key value (Miss s) rest kind steps get = absurd kind
  line_small Touch key value (Miss s) rest kind steps get = absurd kind
  line_small Del key value SyncLine rest kind steps get = absurd kind
  line_small Touch key value SyncLine rest kind steps get = absurd kind
  line_small Get key value r rest kind steps get = get refl
  line_small Sync key value (Wrote o outcome s) rest kind steps get = absurd kind
  line_small Sync key value (Hit s v) rest kind steps get = absurd kind
  line_small Sync key value (Miss s) rest kind steps get = absurd kind
  line_small Sync key value SyncLine rest kind steps get = omega arith

  lines_small : (trace : List TraceLine) (report : List Line) → AllZip IsLineFor trace report
      → ((p : ℕ) → p < options.partitions → AllByRecursion (λ step. IsStamp step.stamp) (steps_of options p trace report))
      → ((n : ℕ) (line : TraceLine) (printed : Line) → IsGetAt trace report n line printed → IsStamp (printed_stamp printed))
      → AllByRecursion IsPrintable report
  lines_small [] [] all steps gets = tt
  lines_small [] (r ∷ report) all steps gets = absurd all
  lines_small (line ∷ trace) [] all steps gets = tt
  lines_small (line ∷ trace) (r ∷ report) all steps gets =
      let p = partition_in options line in
      let own = steps p (partition_of-below options.hashing line.key options.partitions valid.partitions.0) in
      let here = subst (λ b. AllByRecursion (λ step. IsStamp step.stamp) (cons_option (cond b (step_by (write_by line.op line.key line.value) r) None) (steps_of options p trace report))) (eq-eqb p p refl) own in (
        (all.0.0, line_small line.op line.key line.value r (steps_of options p trace report) all.0.1 here (λ get. gets 0 line r (record { asked = refl; answered = refl; get = get }))),
        lines_small trace report all.1
            (λ q below. all_later (step_in options q (line, r)) (steps_of options q trace report) (steps q below))
            (λ n line' printed get. gets (suc n) line' printed (record { asked = get.asked; answered = get.answered; get = get.get })),
      )

  trace_lines : (texts : List (List ℕ)) (trace : List TraceLine) → AllZip IsTextOf texts trace → AllByRecursion IsTraceLine trace
  trace_lines texts [] all = tt
  trace_lines [] (line ∷ trace) all = absurd all
  trace_lines (text ∷ texts) (line ∷ trace) all = (all.0.0, trace_lines texts trace all.1)

  pub lawful_is_report : (text : List ℕ) (trace : List TraceLine) (report : List Line) → IsTrace text trace → LawfulReport options trace report → IsReport (report_text report) report
  lawful_is_report text trace report is lawful =
      let fit : (p : ℕ) → AllByRecursion Fits (steps_of options p trace report) = λ p. steps_fit p trace report (trace_lines (lines_of text) trace is.spelled) in
      let stamped = λ (p : ℕ) (below : p < options.partitions). (run_small [] (steps_of options p trace report) (tt, tt) (fit p) (lawful.writes p below)).0 in
      let got = λ (n : ℕ) (line : TraceLine) (printed : Line) (get : IsGetAt trace report n line printed).
      let p = partition_in options line in
      let answered = lawful.gets n line printed get in
      let steps = take answered.0 (steps_of options p trace report) in
      let run = run_take options [] answered.0 (steps_of options p trace report) (lawful.writes p (partition_of-below options.hashing line.key options.partitions valid.partitions.0)) in
      let good = (run_small [] steps (tt, tt) (all_take Fits answered.0 (steps_of options p trace report) (fit p)) run).1 in
      subst IsStamp (sym (stamp_printed options (history_of steps) line.key printed answered.3)) (good_small (history_of steps) good) in
      record { lines = lines_small trace report lawful.lines stamped got; spelled = refl }
