-- A lawful report of whole rounds, and behind it a round's report, are a lawful report.
use Rattle.std.proofs.Common.{◌≡◌, ℕ, suc, ◌+◌, ◌<◌, ◌≤◌, ◌%◌, ◌⊎◌, inl, inr, List, [], ◌++◌, length, length-append, take, refl, sym, ap, ◌∙◌, subst, arith, zip, true, false, eq-eqb, append-nil, Bool, ltb, ltb-true, ltb-false, drop, take-append-drop, rules}
use Rattle.std.specs.List.{filter_map}
use Rattle.std.proofs.lemmas.Option.{slice_get_within}
use Rattle.std.proofs.lemmas.List.{take-append-le}
use Rattle.std.proofs.lemmas.List.Elements.{filter_map-append}
use Rattle.std.proofs.lemmas.List.Sums.{sum_by-append}
use Rattle.std.proofs.lemmas.Grind.{common_steps}
use Rattle.mica_words.proofs.Hashes.{partition_of-below}
use Rattle.partition_model.specs.declared.options.Options.{Options}
use Rattle.partition_model.specs.Options.{IsValid}
use Rattle.partition_model.specs.History.{History, IsPrefix, stamp_of}
use Rattle.partition_model.specs.Run.{RunStep, IsRun, history_of}
use Rattle.mica_trace.specs.declared.line.TraceOp.{TraceOp}
use Rattle.mica_trace.specs.declared.line.TraceOp.TheVariants.{Get}
use Rattle.mica_trace.specs.declared.line.TraceLine.{TraceLine}
use Rattle.mica_trace.specs.declared.report.Line.{Line}
use Rattle.mica_trace.specs.declared.report.Line.TheVariants.{Wrote, Hit, Miss, Sync as SyncLine}
use Rattle.mica_trace.specs.TraceGrammar.{syncs_in}
use Rattle.mica_trace.specs.Rounds.{partition_in, writes_of, lines_before, round_of, round_begin, round_end, reader_of, is_get_op}
use Rattle.mica_trace.specs.LawfulReport.{IsLineFor, step_in, steps_of, history_after, Answers, IsGetAt, IsAnsweredInRound, printed_stamp, LawfulReport}
use Rattle.mica_trace.specs.RoundReport.{EndsRound, IsOneRound, gets_in, history_in, IsRoundReport}
use Rattle.partition_model.proofs.Rises.{prefix_rises}
use Rattle.mica_trace.proofs.ListParts.{same_part, zip-append, zip_at, AllZip-append, length_zip, take_past}
use Rattle.partition_model.proofs.Runs.{history-append, run-append}
use Rattle.mica_trace.proofs.Prefixes.{prefix_trans, prefix_between, step_of_prefix}
use Rattle.mica_trace.proofs.RoundPlaces.{before_old, before_whole, before_all, round_old, round_low, round_new, writes_before_low, steps_count}
use Rattle.mica_trace.proofs.ReaderAnswers.{gets_to, gets_to-zip, IsMine, find_one, find_two}

stamp_printed : (options : Options) (history : History) (key : List ℕ) (printed : Line) → Answers options history key printed → printed_stamp printed ≡ stamp_of options history
stamp_printed options history key (Wrote op outcome s) answer = absurd answer
stamp_printed options history key (Hit s value) answer = answer.0
stamp_printed options history key (Miss s) answer = answer.0
stamp_printed options history key SyncLine answer = absurd answer

-- stamps that are printed after histories of which the first begins the second
stamps_rise : (options : Options) (a b : History) (key key' : List ℕ) (printed printed' : Line) → Answers options a key printed → Answers options b key' printed' → IsPrefix a b
    → printed_stamp printed ≤ printed_stamp printed'
stamps_rise options a b key key' printed printed' one two is =
    grind (arith, common_steps, stamp_printed options a key printed one, stamp_printed options b key' printed' two, prefix_rises options a b is)

op_is_get : (op : TraceOp) → op ≡ Get → is_get_op op ≡ true
op_is_get op is = ap is_get_op is

-- no lines have a lawful report, which is empty
pub none_lawful : (options : Options) → LawfulReport options [] []
none_lawful options = grind (arith, common_steps)

module _ (options : Options) (valid : IsValid options) (before : List TraceLine) (report : List Line) (round : List TraceLine) (printed : List Line)
    (so_far : LawfulReport options before report) (ended : EndsRound before) (one : IsOneRound round) (here : IsRoundReport options before report round printed) where
  same_length : length report ≡ length before
  same_length = length_zip IsLineFor before report so_far.lines

  same_here : length printed ≡ length round
  same_here = length_zip IsLineFor round printed here.lines

  abbrev steps : ℕ → List RunStep
  steps p = steps_of options p before report

  abbrev steps_here : ℕ → List RunStep
  steps_here p = steps_of options p round printed

  all_steps : (p : ℕ) → steps_of options p (before ++ round) (report ++ printed) ≡ steps p ++ steps_here p
  all_steps p = ap (filter_map (step_in options p)) (zip-append before round report printed same_length) ∙ filter_map-append (step_in options p) (zip before report) (zip round printed)

  all_writes : (p : ℕ) → length (writes_of options p (before ++ round)) ≡ length (steps p) + length (steps_here p)
  all_writes p =
      sym (steps_count options p (before ++ round) (report ++ printed) (AllZip-append IsLineFor before round report printed so_far.lines here.lines))
      ∙ ap length (all_steps p) ∙ length-append (steps p) (steps_here p)

  -- the history after so many of the writes before the round
  after_old : (p i : ℕ) → i ≤ length (steps p) → history_after options p (before ++ round) (report ++ printed) i ≡ history_after options p before report i
  after_old p i le = ap (λ s. history_of (take i s)) (all_steps p) ∙ ap history_of (take-append-le i (steps p) (steps_here p) le)

  -- and after so many of the writes in it
  after_new : (p j : ℕ) → history_after options p (before ++ round) (report ++ printed) (length (steps p) + j) ≡ history_in options p before report ++ history_of (take j (steps_here p))
  after_new p j = grind (arith, common_steps, all_steps p, take_past (steps p) (steps_here p) j, history-append (steps p) (take j (steps_here p)))

  runs : (p : ℕ) → p < options.partitions → IsRun options (steps_of options p (before ++ round) (report ++ printed))
  runs p below = subst (IsRun options) (sym (all_steps p)) (run-append options [] (steps p) (steps_here p) (so_far.writes p below) (here.writes p below))

  -- Gets before the round

  old_begin : (p n : ℕ) → n < length before → round_begin options p (before ++ round) (round_of before n) ≡ round_begin options p before (round_of before n)
  old_begin p n less = ap (λ ls. length (writes_of options p ls)) (before_old before round (round_of before n) (round_low before n less ended))

  old_end : (p n : ℕ) → n < length before → round_end options p (before ++ round) (round_of before n) ≡ round_end options p before (round_of before n)
  old_end p n less =
      let low = round_low before n less ended in
      elim (next_or_last (suc (round_of before n)) (syncs_in before) (omega arith))
      as (λ _. round_end options p (before ++ round) (round_of before n) ≡ round_end options p before (round_of before n)) [
        | inl under ↦ ap (λ ls. length (writes_of options p ls)) (before_old before round (suc (round_of before n)) under)
        | inr last ↦ ap (λ ls. length (writes_of options p ls)) (before_whole before round (suc (round_of before n)) ended last ∙ sym (whole_alone (suc (round_of before n)) last))
      ]
    where
      next_or_last : (a b : ℕ) → a ≤ b → (a < b) ⊎ (a ≡ b)
      next_or_last a b le = by (ltb a b) refl
        where
          by : (t : Bool) → ltb a b ≡ t → (a < b) ⊎ (a ≡ b)
          by true is = inl (ltb-true a b is)
          by false is = inr (let over = ltb-false a b is in omega arith)

      whole_alone : (k : ℕ) → k ≡ syncs_in before → lines_before before k ≡ before
      whole_alone k is = subst (λ ls. lines_before ls k ≡ before) (append-nil before) (before_whole before [] k ended is)

  record OldGet (p n : ℕ) (line : TraceLine) (line_printed : Line) : Type 0 where
    i : ℕ
    from : round_begin options p before (round_of before n) ≤ i
    to : i ≤ round_end options p before (round_of before n)
    within : i ≤ length (steps p)
    answers : Answers options (history_after options p before report i) line.key line_printed

  old_get : (n : ℕ) (line : TraceLine) (line_printed : Line) → IsGetAt before report n line line_printed → OldGet (partition_in options line) n line line_printed
  old_get n line line_printed get =
      let p = partition_in options line in
      let was = so_far.gets n line line_printed get in
      let low = writes_before_low options p before (suc (round_of before n)) in
      let count = steps_count options p before report so_far.lines in
      record { i = was.0; from = was.1; to = was.2; within = (let most = was.2 in omega arith); answers = was.3 }

  old_answered : (n : ℕ) (line : TraceLine) (line_printed : Line) → n < length before → IsGetAt before report n line line_printed
      → IsAnsweredInRound options (before ++ round) (report ++ printed) n line line_printed
  old_answered n line line_printed less get =
      grind (
        arith,
        common_steps,
        old_get n line line_printed get,
        round_old before round n (omega arith),
        old_begin (partition_in options line) n less,
        old_end (partition_in options line) n less,
        after_old (partition_in options line) (old_get n line line_printed get).i (old_get n line line_printed get).within,
      )

  -- Gets of the round

  new_begin : (p k : ℕ) → k < length round → round_begin options p (before ++ round) (round_of (before ++ round) (length before + k)) ≡ length (steps p)
  new_begin p k less =
      grind (arith, common_steps, round_new before round k one less, before_whole before round (syncs_in before) ended refl, steps_count options p before report so_far.lines)

  new_end : (p k : ℕ) → k < length round → round_end options p (before ++ round) (round_of (before ++ round) (length before + k)) ≡ length (steps p) + length (steps_here p)
  new_end p k less = grind (arith, common_steps, round_new before round k one less, before_all before round (suc (syncs_in before)) ended one, all_writes p)

  in_partitions : (line : TraceLine) → partition_in options line < options.partitions
  in_partitions line = partition_of-below options.hashing line.key options.partitions valid.partitions.0

  -- the reader of a get of the round
  reader_here : (k : ℕ) → reader_of options (before ++ round) (length before + k) ≡ (gets_to (zip round printed) k + gets_in before) % options.readers
  reader_here k = grind (arith, common_steps, sum_by-append, gets_to-zip round printed k same_here, same_here, take_past before round k)

  reader_below : (n : ℕ) → reader_of options (before ++ round) n < options.readers
  reader_below n = let some = valid.readers.0 in omega arith

  is_mine : (k q : ℕ) (line : TraceLine) (line_printed : Line) → IsGetAt round printed k line line_printed → q ≡ reader_of options (before ++ round) (length before + k)
      → IsMine options q (partition_in options line) (gets_to (zip round printed) k + gets_in before) (line, line_printed)
  is_mine k q line line_printed get reader =
      grind (arith, common_steps, op_is_get line.op get.get, eq-eqb _ q (sym (reader ∙ reader_here k)), reader_here k, eq-eqb (partition_in options line) (partition_in options line) refl)

  record NewGet (p k : ℕ) (line : TraceLine) (line_printed : Line) : Type 0 where
    cut : History
    from : IsPrefix (history_in options p before report) cut
    to : IsPrefix cut (history_in options p before report ++ history_in options p round printed)
    answers : Answers options cut line.key line_printed

  new_get : (k : ℕ) (line : TraceLine) (line_printed : Line) → IsGetAt round printed k line line_printed → NewGet (partition_in options line) k line line_printed
  new_get k line line_printed get =
      let p = partition_in options line in
      let q = reader_of options (before ++ round) (length before + k) in
      let own = here.gets q p (reader_below (length before + k)) (in_partitions line) in
      let found = find_one options q p (zip round printed) (gets_in before) k (line, line_printed) (history_in options p before report) own.0
      (zip_at round printed k line line_printed get.asked get.answered) (is_mine k q line line_printed get refl) own.2 in
      record { cut = found.cut; from = found.from; to = prefix_trans found.cut own.0 _ found.to own.1; answers = found.answers }

  new_answered : (k : ℕ) (line : TraceLine) (line_printed : Line) → IsGetAt round printed k line line_printed
      → IsAnsweredInRound options (before ++ round) (report ++ printed) (length before + k) line line_printed
  new_answered k line line_printed get =
      let p = partition_in options line in
      let found = new_get k line line_printed get in
      let less = slice_get_within round k line get.asked in
      let between = prefix_between (history_in options p before report) found.cut (history_in options p round printed) found.from found.to in
      let at = step_of_prefix (steps_here p) between.0 between.2 in
      let few = at.1 in
      let begin = new_begin p k less in
      let end = new_end p k less in
      let history : history_after options p (before ++ round) (report ++ printed) (length (steps p) + at.0) ≡ found.cut =
      after_new p at.0 ∙ ap (λ h. history_in options p before report ++ h) at.2 ∙ sym between.1 in
      (length (steps p) + at.0, omega arith, omega arith, subst (λ h. Answers options h line.key line_printed) (sym history) found.answers)

  -- Each get stands before the round or in it

  split : (n : ℕ) (line : TraceLine) (line_printed : Line) → IsGetAt (before ++ round) (report ++ printed) n line line_printed
      → ((n < length before) × IsGetAt before report n line line_printed) ⊎ ((k : ℕ) × (n ≡ length before + k) × IsGetAt round printed k line line_printed)
  split n line line_printed get =
      elim (same_part before round report printed n line line_printed same_length get.asked get.answered)
      as (λ _. ((n < length before) × IsGetAt before report n line line_printed) ⊎ ((k : ℕ) × (n ≡ length before + k) × IsGetAt round printed k line line_printed)) [
        | inl old ↦ inl (old.0, record { asked = old.1; answered = old.2; get = get.get })
        | inr new ↦ inr (new.0, new.1, record { asked = new.2; answered = new.3; get = get.get })
      ]

  answered : (n : ℕ) (line : TraceLine) (line_printed : Line) → IsGetAt (before ++ round) (report ++ printed) n line line_printed
      → IsAnsweredInRound options (before ++ round) (report ++ printed) n line line_printed
  answered n line line_printed get =
      elim (split n line line_printed get) as (λ _. IsAnsweredInRound options (before ++ round) (report ++ printed) n line line_printed) [
        | inl old ↦ old_answered n line line_printed old.0 old.1
        | inr new ↦ subst (λ m. IsAnsweredInRound options (before ++ round) (report ++ printed) m line line_printed) (sym new.1) (new_answered new.0 line line_printed new.2)
      ]

  -- the history after writes before the round begins that at its start
  old_begins : (p i : ℕ) → IsPrefix (history_after options p before report i) (history_in options p before report)
  old_begins p i = (history_of (drop i (steps p)), ap history_of (sym (take-append-drop i (steps p))) ∙ history-append (take i (steps p)) (drop i (steps p)))

  old_old : (m n : ℕ) (line line' : TraceLine) (r r' : Line) → m < n → m < length before → n < length before → IsGetAt before report m line r → IsGetAt before report n line' r'
      → reader_of options (before ++ round) m ≡ reader_of options (before ++ round) n → partition_in options line ≡ partition_in options line' → printed_stamp r ≤ printed_stamp r'
  old_old m n line line' r r' less m_in n_in get get' reader partition =
      so_far.order m n line line' r r' less get get'
      (sym (ap (λ ls. gets_in ls % options.readers) (take-append-le m before round (omega arith))) ∙ reader ∙ ap (λ ls. gets_in ls % options.readers) (take-append-le n before round (omega arith))) partition

  old_new : (m k : ℕ) (line line' : TraceLine) (r r' : Line) → IsGetAt before report m line r → IsGetAt round printed k line' r'
      → partition_in options line ≡ partition_in options line' → printed_stamp r ≤ printed_stamp r'
  old_new m k line line' r r' get get' partition =
      grind (
        arith,
        common_steps,
        old_get m line r get,
        new_get k line' r' get',
        stamps_rise options (history_after options (partition_in options line') before report (old_get m line r get).i) (new_get k line' r' get').cut line.key line'.key r r',
        prefix_trans _ (history_in options (partition_in options line') before report) (new_get k line' r' get').cut (old_begins (partition_in options line') (old_get m line r get).i) (new_get k line' r' get').from,
        old_begins (partition_in options line') (old_get m line r get).i,
      )

  new_new : (j k : ℕ) (line line' : TraceLine) (r r' : Line) → j < k → IsGetAt round printed j line r → IsGetAt round printed k line' r'
      → reader_of options (before ++ round) (length before + j) ≡ reader_of options (before ++ round) (length before + k) → partition_in options line ≡ partition_in options line'
      → printed_stamp r ≤ printed_stamp r'
  new_new j k line line' r r' less get get' reader partition =
      let p = partition_in options line' in
      let q = reader_of options (before ++ round) (length before + k) in
      let own = here.gets q p (reader_below (length before + k)) (in_partitions line') in
      let first = subst (λ s. IsMine options q s (gets_to (zip round printed) j + gets_in before) (line, r)) partition (is_mine j q line r get (sym reader)) in
      let found = find_two options q p (zip round printed) (gets_in before) j k (line, r) (line', r') (history_in options p before report) own.0 less
      (zip_at round printed j line r get.asked get.answered) (zip_at round printed k line' r' get'.asked get'.answered)
      first (is_mine k q line' r' get' refl) own.2 in
      stamps_rise options found.first found.second line.key line'.key r r' found.first_answers found.second_answers found.rises

  in_order : (m n : ℕ) (line line' : TraceLine) (r r' : Line) → m < n
      → IsGetAt (before ++ round) (report ++ printed) m line r → IsGetAt (before ++ round) (report ++ printed) n line' r'
      → reader_of options (before ++ round) m ≡ reader_of options (before ++ round) n → partition_in options line ≡ partition_in options line'
      → printed_stamp r ≤ printed_stamp r'
  in_order m n line line' r r' less get get' reader partition =
      elim (split m line r get) as (λ _. printed_stamp r ≤ printed_stamp r') [
        | inl old ↦ elim (split n line' r' get') as (λ _. printed_stamp r ≤ printed_stamp r') [
          | inl old' ↦ old_old m n line line' r r' less old.0 old'.0 old.1 old'.1 reader partition
          | inr new' ↦ old_new m new'.0 line line' r r' old.1 new'.2 partition
        ]
        | inr new ↦ elim (split n line' r' get') as (λ _. printed_stamp r ≤ printed_stamp r') [
          | inl old' ↦ let a = new.1 in let b = old'.0 in absurd (omega arith)
          | inr new' ↦
              let a = new.1 in
              let b = new'.1 in
              new_new new.0 new'.0 line line' r r' (omega arith) new.2 new'.2
              (ap (reader_of options (before ++ round)) (sym new.1) ∙ reader ∙ ap (reader_of options (before ++ round)) new'.1) partition
        ]
      ]

  pub round_lawful : LawfulReport options (before ++ round) (report ++ printed)
  round_lawful = search (rules, AllZip-append IsLineFor before round report printed so_far.lines here.lines, runs, answered, in_order)
