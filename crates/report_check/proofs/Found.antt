-- What is found of one partition more.
use Rattle.std.proofs.Common.{rules}
use Rattle.std.proofs.Common.{◌≡◌, ℕ, ◌+◌, ◌<◌, ◌≤◌, ◌⊎◌, inl, inr, List, length, Option, Some, None, refl, arith, true, false, ltb, ltb-true, ltb-false, slice_get}
use Rattle.std.proofs.lemmas.Option.{slice_get_within}
use Rattle.std.specs.List.{AllZip}
use Rattle.std.proofs.lemmas.Grind.{common_steps}
use Rattle.mica_words.proofs.Hashes.{partition_of-below}
use Rattle.partition_model.specs.declared.options.Options.{Options}
use Rattle.partition_model.specs.Options.{IsValid}
use Rattle.partition_model.specs.Run.{IsRun}
use Rattle.mica_trace.specs.declared.line.TraceLine.{TraceLine}
use Rattle.mica_trace.specs.declared.report.Line.{Line}
use Rattle.mica_trace.specs.ReportGrammar.{printed_stamp}
use Rattle.mica_trace.specs.Rounds.{partition_in}
use Rattle.mica_trace.specs.LawfulReport.{IsLineFor, IsGetAt, IsAnsweredInRound, steps_of, LawfulReport}
use Rattle.report_check.specs.declared.check.Found.{Found}
use Rattle.report_check.specs.declared.partition.Judged.{Judged}
use Rattle.report_check.specs.declared.partition.Judged.TheVariants.{Wrong, Run}
use Rattle.report_check.specs.Earlier.{earlier}
use Rattle.report_check.specs.FirstUnlawful.{IsNowhere, IsWrongWrite, FallsBehind, IsWrongGet, IsFirstUnlawful}
use Rattle.report_check.specs.Judged.{IsFirstWrong, IsFirstMissed, IsFirstFall, IsJudged}
use Rattle.report_check.specs.Found.{with_judged, with_fall, IsWriteOf, IsRight, IsGetOf, AreFound}
use Rattle.report_check.proofs.Walks.{all_fit, run_right}
use Rattle.report_check.proofs.Histories.{get_take, take_lower}

-- The least place at which something is bad; what is before it, or all where nothing is bad, is good.
abbrev IsLeast : (ℕ → Type 0) → (ℕ → Type 0) → Option ℕ → Type 0
IsLeast Bad Good None = (n : ℕ) → Good n
IsLeast Bad Good (Some found) = Bad found × ((n : ℕ) → n < found → Good n)

abbrev both : Option ℕ → Option ℕ → Option ℕ
both one None = one
both one (Some place) = earlier one place

least_both : (Bad One Two : ℕ → Type 0) (a b : Option ℕ) → IsLeast Bad One a → IsLeast Bad Two b → IsLeast Bad (λ n. One n × Two n) (both a b)
least_both Bad One Two a b one two = grind (arith, common_steps)

least_weaker : (Bad One Two : ℕ → Type 0) (a : Option ℕ) → ((n : ℕ) → One n → Two n) → IsLeast Bad One a → IsLeast Bad Two a
least_weaker Bad One Two a weaker one = grind (arith, common_steps)

never : (write : Option ℕ) (k : ℕ) → earlier write k ≡ None → ⊥
never write k is = grind (arith, common_steps)

module _ (options : Options) (trace : List TraceLine) (report : List Line) where
  -- a partition below the next number is below this one, or it is the new one
  split : (p q : ℕ) → q < p + 1 → (q < p) ⊎ (q ≡ p)
  split p q less = grind (arith, common_steps)

  -- Writes

  -- no write before the first wrong one is wrong
  right_before : (p k n : ℕ) (line : TraceLine) → IsFirstWrong options p trace report k → n < k → slice_get trace n ≡ Some line → partition_in options line ≡ p → ¬ (IsWrongWrite options trace report n)
  right_before p k n line first less asked inside wrong = search (rules, get_take, take_lower, run_right)

  runs_more : (p : ℕ) → ((q : ℕ) → q < p → IsRun options (steps_of options q trace report)) → IsRun options (steps_of options p trace report)
      → (q : ℕ) → q < p + 1 → IsRun options (steps_of options q trace report)
  runs_more p olds new q less = grind (arith, common_steps)

  abbrev RightBefore : ℕ → ℕ → Type 0
  RightBefore many n = (line : TraceLine) → slice_get trace n ≡ Some line → partition_in options line < many → ¬ (IsWrongWrite options trace report n)

  right_more : (p n : ℕ) → RightBefore p n → ((line : TraceLine) → slice_get trace n ≡ Some line → partition_in options line ≡ p → ¬ (IsWrongWrite options trace report n)) → RightBefore (p + 1) n
  right_more p n olds new line asked less = grind (arith, common_steps)

  write_wrong : (p k : ℕ) (write : Option ℕ) → IsWriteOf options p trace report write → IsFirstWrong options p trace report k → IsWriteOf options (p + 1) trace report (earlier write k)
  write_wrong p k None olds first = (
    first.wrong,
    λ n line less. right_more p n (λ l asked below. run_right options (partition_in options l) trace report n l (olds (partition_in options l) below) asked refl) (λ l asked inside. right_before p k n l first less asked inside) line,
  )
  write_wrong p k (Some j) olds first = search (rules, ltb, ltb-true, right_more, right_before, ltb-false)

  write_run : (p : ℕ) (write : Option ℕ) → IsWriteOf options p trace report write → IsRun options (steps_of options p trace report) → IsWriteOf options (p + 1) trace report write
  write_run p None olds run = runs_more p olds run
  write_run p (Some j) olds run = (olds.0, λ n line less. right_more p n (λ l. olds.1 n l less) (λ l asked inside. run_right options p trace report n l run asked inside) line)

  -- Gets

  abbrev Right : ℕ → ℕ → Type 0
  Right many n = (line : TraceLine) (printed : Line) → IsGetAt trace report n line printed → partition_in options line < many → IsRight options trace report n line printed

  abbrev IsAnswered : ℕ → ℕ → Type 0
  IsAnswered p n = (line : TraceLine) (printed : Line) → IsGetAt trace report n line printed → partition_in options line ≡ p → IsAnsweredInRound options trace report n line printed

  abbrev Keeps : ℕ → ℕ → Type 0
  Keeps p n = (line : TraceLine) (printed : Line) → IsGetAt trace report n line printed → partition_in options line ≡ p → ¬ (FallsBehind options trace report n line printed)

  least_get : (many : ℕ) (get : Option ℕ) → IsGetOf options many trace report get → IsLeast (IsWrongGet options trace report) (Right many) get
  least_get many None is = λ n line printed. is n line printed
  least_get many (Some k) is = (is.0, λ n less line printed. is.1 n line printed less)

  get_least : (many : ℕ) (get : Option ℕ) → IsLeast (IsWrongGet options trace report) (Right many) get → IsGetOf options many trace report get
  get_least many None is = λ n line printed. is n line printed
  get_least many (Some k) is = (is.0, λ n line printed less. is.1 n less line printed)

  least_missed : (p : ℕ) (missed : Option ℕ) → IsFirstMissed options p trace report (length trace) missed → IsLeast (IsWrongGet options trace report) (IsAnswered p) missed
  least_missed p None is = λ n line printed get inside. is n line printed (omega arith) (slice_get_within trace n line get.asked) get inside
  least_missed p (Some k) is = (
    (let here = is.2 in record { line = here.0; printed = here.1; get = here.2; wrong = inl here.4 }),
    λ n less line printed get inside. is.3 n line printed (omega arith) less get inside,
  )

  least_fall : (p : ℕ) (fall : Option ℕ) → IsFirstFall options p trace report fall → IsLeast (IsWrongGet options trace report) (Keeps p) fall
  least_fall p None is = λ n line printed. is n line printed
  least_fall p (Some k) is = (
    (let here = is.0 in record { line = here.0; printed = here.1; get = here.2; wrong = inr here.3 }),
    λ n less line printed. is.1 n line printed less,
  )

  get_more : (p : ℕ) (get missed fall : Option ℕ) → IsGetOf options p trace report get → IsFirstMissed options p trace report (length trace) missed → IsFirstFall options p trace report fall
      → IsGetOf options (p + 1) trace report (both (both get missed) fall)
  get_more p get missed fall olds one two =
      let all = least_both (IsWrongGet options trace report) _ _ (both get missed) fall
      (least_both (IsWrongGet options trace report) _ _ get missed (least_get p get olds) (least_missed p missed one)) (least_fall p fall two) in
      get_least (p + 1) (both (both get missed) fall)
      (least_weaker (IsWrongGet options trace report) _ (Right (p + 1)) (both (both get missed) fall) (λ n is line printed get less.
      elim (split p (partition_in options line) less) as (λ _. IsRight options trace report n line printed) [
        | inl below ↦ is.0.0 line printed get below
        | inr same ↦ (is.0.1 line printed get same, is.1 line printed get same)
      ]) all)

  -- one partition more
  pub found_more : (p : ℕ) (found : Found) (judged : Judged) (fall : Option ℕ) → AreFound options p trace report found → IsJudged options p trace report judged
      → IsFirstFall options p trace report fall → AreFound options (p + 1) trace report (with_fall (with_judged found judged) fall)
  found_more p found (Wrong k) None olds judged falls = grind (arith, common_steps, write_wrong p k found.write olds.write judged, never found.write k)
  found_more p found (Wrong k) (Some f) olds judged falls = grind (arith, common_steps, write_wrong p k found.write olds.write judged, never found.write k)
  found_more p found (Run None) None olds judged falls = grind (arith, common_steps, write_run p found.write olds.write judged.0, get_more p found.get None None)
  found_more p found (Run None) (Some f) olds judged falls = grind (arith, common_steps, write_run p found.write olds.write judged.0, get_more p found.get None (Some f))
  found_more p found (Run (Some m)) None olds judged falls = grind (arith, common_steps, write_run p found.write olds.write judged.0, get_more p found.get (Some m) None)
  found_more p found (Run (Some m)) (Some f) olds judged falls = grind (arith, write_run p found.write olds.write judged.0, get_more p found.get (Some m) (Some f))

  -- All partitions

  module _ (valid : IsValid options) (all : AllZip IsLineFor trace report) where
    below : (line : TraceLine) → partition_in options line < options.partitions
    below line = partition_of-below options.hashing line.key options.partitions valid.partitions.0

    pub wrong_write : (k : ℕ) → IsWriteOf options options.partitions trace report (Some k) → IsFirstUnlawful options trace report k
    wrong_write k is = inr (all_fit trace report all, inl (record { holds = is.0; before = λ m less wrong. is.1 m wrong.line less wrong.asked (below wrong.line) wrong }))

    none_wrong : IsWriteOf options options.partitions trace report None → IsNowhere (IsWrongWrite options trace report)
    none_wrong runs n wrong = run_right options (partition_in options wrong.line) trace report n wrong.line (runs (partition_in options wrong.line) (below wrong.line)) wrong.asked refl wrong

    pub wrong_get : (k : ℕ) → IsWriteOf options options.partitions trace report None → IsGetOf options options.partitions trace report (Some k) → IsFirstUnlawful options trace report k
    wrong_get k runs is = inr (
      all_fit trace report all,
      inr (
        none_wrong runs,
        record {
          holds = is.0;
          before = λ m less wrong.
              let right = is.1 m wrong.line wrong.printed less wrong.get (below wrong.line) in
              elim wrong.wrong as (λ _. ⊥) [
                | inl denied ↦ denied right.0
                | inr falls ↦ right.1 falls
              ];
        },
      ),
    )

    pub lawful : IsWriteOf options options.partitions trace report None → IsGetOf options options.partitions trace report None → LawfulReport options trace report
    lawful runs gets = record {
      lines = all;
      writes = runs;
      gets = λ n line printed get. (gets n line printed get (below line)).0;
      order = λ m n line line' printed printed' less get get' reader partition.
          elim (ltb (printed_stamp printed') (printed_stamp printed)) as (λ t. ltb (printed_stamp printed') (printed_stamp printed) ≡ t → printed_stamp printed ≤ printed_stamp printed') [
            | true ↦ λ e. absurd ((gets n line' printed' get' (below line')).1 (record {
              place = m;
              earlier = less;
              other = line;
              answer = printed;
              get = get;
              reader = reader;
              partition = partition;
              greater = ltb-true (printed_stamp printed') (printed_stamp printed) e;
            }))
            | false ↦ λ f. ltb-false (printed_stamp printed') (printed_stamp printed) f
          ] refl;
    }
