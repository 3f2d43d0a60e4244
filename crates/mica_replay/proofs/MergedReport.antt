-- What is printed for a round, put together from what its owners and readers found.
use Rattle.std.proofs.Common.{◌≡◌, ℕ, zero, suc, ◌+◌, ◌<◌, ◌%◌, ◌==◌, List, [], ◌∷◌, ◌++◌, length, map, zip, slice_get, Some, refl, sym, ap, ◌∙◌, subst, arith, cond, true, false, eq-eqb}
use Rattle.std.specs.List.{AllByRecursion, AllZip}
use Rattle.std.proofs.lemmas.List.Sums.{sum_by-cons}
use Rattle.list_laws.proofs.Places.{element_at}
use Rattle.mica_words.proofs.Hashes.{partition_of-below}
use Rattle.partition_model.specs.declared.options.Options.{Options}
use Rattle.partition_model.specs.Options.{IsValid}
use Rattle.partition_model.specs.declared.write.Write.{Write}
use Rattle.partition_model.specs.History.{History, IsPrefix}
use Rattle.partition_model.specs.Run.{IsRunFrom, history_of}
use Rattle.mica_trace.specs.declared.line.TraceOp.{TraceOp}
use Rattle.mica_trace.specs.declared.line.TraceOp.TheVariants.{Put, Add, Del, Touch, Get, Sync}
use Rattle.mica_trace.specs.declared.line.TraceLine.{TraceLine}
use Rattle.mica_trace.specs.declared.report.Line.{Line}
use Rattle.mica_trace.specs.declared.report.Line.TheVariants.{Wrote, Hit, Miss, Sync as SyncLine}
use Rattle.mica_trace.specs.TraceGrammar.{IsTraceLine}
use Rattle.mica_trace.specs.ReportGrammar.{IsReportLine}
use Rattle.mica_trace.specs.Rounds.{partition_in, is_in_partition, write_by, is_get_op}
use Rattle.mica_trace.specs.LawfulReport.{IsKindOf, steps_of}
use Rattle.mica_trace.specs.RoundReport.{LinePair, is_get, gets_in, gets_by, pairs_of, line_pairs_in, AnswersRise, history_in, IsRoundReport}
use Rattle.mica_replay.specs.Between.{HaveWorked}
use Rattle.mica_replay.specs.Merged.{IsMergedRound}
use Rattle.mica_replay.specs.Replies.{Reply}
use Rattle.mica_trace.specs.RoundReport.{HasKind}
use Rattle.mica_trace.proofs.ListParts.{zip_at}
use Rattle.mica_trace.proofs.Prefixes.{prefix_trans}
use Rattle.mica_trace.proofs.ReaderAnswers.{gets_to, find_one}
use Rattle.mica_trace.proofs.Standing.{all_both, stored_in_prefix, stored, answer_stands, write_stands, all_stand}

-- a line is a get, another write, or neither
data Kind (line : TraceLine) : Type 0 where
  is_got : line.op ≡ Get → Kind line
  is_written : (w : Write) → write_by line.op line.key line.value ≡ Some w → Kind line
  is_synced : line.op ≡ Sync → Kind line

kind_of : (op : TraceOp) (key value : List ℕ) → Kind (record { op = op; key = key; value = value })
kind_of Put key value = is_written _ refl
kind_of Add key value = is_written _ refl
kind_of Del key value = is_written _ refl
kind_of Touch key value = is_written _ refl
kind_of Get key value = is_got refl
kind_of Sync key value = is_synced refl

sync_stands : (op : TraceOp) (r : Line) → op ≡ Sync → IsKindOf op r → IsReportLine r
sync_stands Sync SyncLine is kind = tt
sync_stands Sync (Wrote op outcome s) is kind = absurd kind
sync_stands Sync (Hit s v) is kind = absurd kind
sync_stands Sync (Miss s) is kind = absurd kind
sync_stands Put r is kind = absurd (cc)
sync_stands Add r is kind = absurd (cc)
sync_stands Del r is kind = absurd (cc)
sync_stands Touch r is kind = absurd (cc)
sync_stands Get r is kind = absurd (cc)

pub kind_at : (lines : List TraceLine) (report : List Line) (n : ℕ) (line : TraceLine) (r : Line) → AllZip HasKind lines report → slice_get lines n ≡ Some line → slice_get report n ≡ Some r → HasKind line r
kind_at [] report n line r kinds is_line is_r = absurd (cc)
kind_at (l ∷ lines) [] n line r kinds is_line is_r = absurd kinds
kind_at (l ∷ lines) (x ∷ report) zero line r kinds is_line is_r =
    let same_line : l ≡ line = cc in
    let same_r : x ≡ r = cc in
    subst (λ (y : Line). HasKind line y) same_r (subst (λ (y : TraceLine). HasKind y x) same_line kinds.0)
kind_at (l ∷ lines) (x ∷ report) (suc n) line r kinds is_line is_r = kind_at lines report n line r kinds.1 is_line is_r

module _ (options : Options) (valid : IsValid options) (before : List TraceLine) (report : List Line) (round : List TraceLine) (printed : List Line)
    (done : List (List Reply)) (found : List (List Line)) (lines_before : AllByRecursion IsTraceLine before) (lines_here : AllByRecursion IsTraceLine round)
    (worked : HaveWorked options before report round done found) (merged : IsMergedRound options (gets_in before) round printed done found) where
  runs : (p : ℕ) → p < options.partitions → IsRunFrom options (history_in options p before report) (steps_of options p round printed)
  runs p below =
      let owners = worked.owners in
      let at = element_at done p (omega arith) in
      subst (IsRunFrom options (history_in options p before report)) (sym (merged.writes p at.0 at.1)) (worked.writes p at.0 at.1)

  reads : (q p : ℕ) → q < options.readers → p < options.partitions → (last : History)
      × IsPrefix last (history_in options p before report ++ history_in options p round printed)
      × AnswersRise options (history_in options p before report) (line_pairs_in options p (pairs_of options q (gets_in before) (zip round printed))) last
  reads q p q_below p_below =
      let owners = worked.owners in
      let readers = worked.readers in
      let at = element_at done p (omega arith) in
      let own = element_at found q (omega arith) in
      let was = worked.gets q p own.0 at.0 own.1 at.1 in (
        was.0,
        subst (λ s. IsPrefix was.0 (history_in options p before report ++ history_of s)) (sym (merged.writes p at.0 at.1)) was.1,
        subst (λ (pairs : List LinePair). AnswersRise options (history_in options p before report) (line_pairs_in options p pairs) was.0) (sym (merged.gets q own.0 own.1)) was.2,
      )

  in_partitions : (line : TraceLine) → partition_in options line < options.partitions
  in_partitions line = partition_of-below options.hashing line.key options.partitions valid.partitions.0

  stands : (n : ℕ) (line : TraceLine) (r : Line) → slice_get round n ≡ Some line → slice_get printed n ≡ Some r → IsReportLine r
  stands n line r is_line is_r =
      let p = partition_in options line in
      let here : is_in_partition options p line ≡ true = eq-eqb p p refl in
      elim (kind_of line.op line.key line.value) as (λ _. IsReportLine r) [
        | is_written w is ↦ write_stands options p round printed (history_in options p before report) n line r w merged.lines (runs p (in_partitions line)) is_line is_r here is
        | is_synced is ↦ sync_stands line.op r is (kind_at round printed n line r merged.lines is_line is_r)
        | is_got is ↦
            let q = (gets_to (zip round printed) n + gets_in before) % options.readers in
            let some = valid.readers.0 in
            let below : q < options.readers = omega arith in
            let own = reads q p below (in_partitions line) in
            let at = find_one options q p (zip round printed) (gets_in before) n (line, r) (history_in options p before report) own.0 (zip_at round printed n line r is_line is_r)
            (record { get = ap is_get_op is; own = eq-eqb q q refl; here = here }) own.2 in
            let all = all_both (history_in options p before report) (history_in options p round printed) (stored options p before report lines_before) (stored options p round printed lines_here) in
            answer_stands options at.cut line.key r (stored_in_prefix at.cut _ (prefix_trans at.cut own.0 _ at.to own.1) all) at.answers
      ]

  -- The workers' facts, once merged, are those of the round's report.
  pub merged_report : IsRoundReport options before report round printed
  merged_report = record { lines = all_stand round printed merged.lines stands; writes = runs; gets = reads }

-- One line more

pub gets_by-push : {X : Type 0} (line : X → TraceLine) (options : Options) (q g : ℕ) (xs : List X) (x : X)
    → gets_by line options q g (xs ++ x ∷ []) ≡ gets_by line options q g xs ++ gets_by line options q (g + gets_in (map line xs)) (x ∷ [])
gets_by-push line options q g [] x = let n : g ≡ g + gets_in [] = omega arith in ap (λ m. gets_by line options q m (x ∷ [])) n
gets_by-push line options q g (y ∷ xs) x =
    let counted : gets_in (line y ∷ map line xs) ≡ cond (is_get (line y)) 1 0 + gets_in (map line xs) = sum_by-cons (λ l. cond (is_get l) 1 0) (line y) (map line xs) in
    elim (is_get (line y)) as (λ b. gets_in (line y ∷ map line xs) ≡ cond b 1 0 + gets_in (map line xs)
    → cond b (cond (g % options.readers == q) (y ∷ gets_by line options q (g + 1) (xs ++ x ∷ [])) (gets_by line options q (g + 1) (xs ++ x ∷ []))) (gets_by line options q g (xs ++ x ∷ []))
    ≡ cond b (cond (g % options.readers == q) (y ∷ gets_by line options q (g + 1) xs) (gets_by line options q (g + 1) xs)) (gets_by line options q g xs)
    ++ gets_by line options q (g + gets_in (line y ∷ map line xs)) (x ∷ [])) [
      | false ↦ λ c.
          let n : g + gets_in (map line xs) ≡ g + gets_in (line y ∷ map line xs) = omega arith in
          gets_by-push line options q g xs x ∙ ap (λ m. gets_by line options q g xs ++ gets_by line options q m (x ∷ [])) n
      | true ↦ λ c.
          let n : g + 1 + gets_in (map line xs) ≡ g + gets_in (line y ∷ map line xs) = omega arith in
          let later = gets_by-push line options q (g + 1) xs x ∙ ap (λ m. gets_by line options q (g + 1) xs ++ gets_by line options q m (x ∷ [])) n in
          elim (g % options.readers == q) as (λ b. cond b (y ∷ gets_by line options q (g + 1) (xs ++ x ∷ [])) (gets_by line options q (g + 1) (xs ++ x ∷ []))
          ≡ cond b (y ∷ gets_by line options q (g + 1) xs) (gets_by line options q (g + 1) xs) ++ gets_by line options q (g + gets_in (line y ∷ map line xs)) (x ∷ [])) [
            | true ↦ ap (λ l. y ∷ l) later
            | false ↦ later
          ]
    ] counted

pub length_snoc : {X : Type 0} (xs : List X) (x : X) → length (xs ++ x ∷ []) ≡ suc (length xs)
length_snoc [] x = refl
length_snoc (y ∷ xs) x = ap suc (length_snoc xs x)

pub itself : (xs : List TraceLine) → map (λ (line : TraceLine). line) xs ≡ xs
itself [] = refl
itself (x ∷ xs) = ap (λ l. x ∷ l) (itself xs)
