-- The last stamps of the readers in a partition, line by line.
use Rattle.std.proofs.Common.{◌≡◌, ◌≢◌, ℕ, ◌+◌, ◌<◌, ◌≤◌, ◌%◌, List, [], ◌∷◌, length, get_or, set, Some, None, refl, sym, ap, ◌∙◌, subst, arith, true, false, eqb, eqb-true, ltb, ltb-true, ltb-false, slice_get, get_or-set_same, get_or-set_other, length-set}
use borrow.Author.Tests.{eqb-false}
use Rattle.std.proofs.lemmas.Bool.{true≢false}
use Rattle.std.proofs.lemmas.Option.{slice_get_within}
use Rattle.std.proofs.lemmas.Grind.{common_steps}
use Rattle.partition_model.specs.declared.options.Options.{Options}
use Rattle.mica_trace.specs.declared.line.TraceOp.{TraceOp}
use Rattle.mica_trace.specs.declared.line.TraceOp.TheVariants.{Get}
use Rattle.mica_trace.specs.declared.line.TraceLine.{TraceLine}
use Rattle.mica_trace.specs.declared.report.Line.{Line}
use Rattle.mica_trace.specs.ReportGrammar.{printed_stamp}
use Rattle.mica_trace.specs.Rounds.{is_get_op, partition_in, reader_of}
use Rattle.mica_trace.specs.LawfulReport.{IsGetAt}
use Rattle.mica_trace.specs.RoundReport.{is_get}
use Rattle.report_check.specs.declared.sharing.OwnLine.{OwnLine}
use Rattle.report_check.specs.FirstUnlawful.{FallsBehind}
use Rattle.report_check.specs.Judged.{IsFirstFall}
use Rattle.report_check.specs.Shared.{HasNone, AreLinesOf}
use Rattle.report_check.proofs.OwnLines.{skip_to}

pub is_get_true : (op : TraceOp) → is_get_op op ≡ true → op ≡ Get
is_get_true op is = grind (arith, common_steps)

-- a line that is none stands at no get
pub no_get_here : (trace : List TraceLine) (report : List Line) (place : ℕ) (line : TraceLine) → slice_get trace place ≡ Some line → is_get line ≡ false
    → (l : TraceLine) (printed : Line) → ¬ (IsGetAt trace report place l printed)
no_get_here trace report place line is denied l printed get = grind (arith, common_steps)

pub same_default : (xs : List ℕ) (n d e : ℕ) → n < length xs → get_or xs n d ≡ get_or xs n e
same_default xs n d e less = grind (arith, common_steps)

module _ (options : Options) (p : ℕ) (trace : List TraceLine) (report : List Line) where
  -- no get before the place falls behind, and the greatest stamp of each reader there is known
  pub record HasNoFall (place : ℕ) (last : List ℕ) : Type 0 where
    pub many : length last ≡ options.readers
    pub bound : (m : ℕ) (line : TraceLine) (printed : Line) → m < place → IsGetAt trace report m line printed → partition_in options line ≡ p
        → printed_stamp printed ≤ get_or last (reader_of options trace m) 0
    pub source : (q : ℕ) → 0 < get_or last q 0 → (m : ℕ) × (line : TraceLine) × (printed : Line) × (m < place) × IsGetAt trace report m line printed × (partition_in options line ≡ p)
        × (reader_of options trace m ≡ q) × (printed_stamp printed ≡ get_or last q 0)
    pub none : (m : ℕ) (line : TraceLine) (printed : Line) → m < place → IsGetAt trace report m line printed → partition_in options line ≡ p
        → ¬ (FallsBehind options trace report m line printed)

  -- a stamp below the greatest one falls behind
  pub falls_here : (place : ℕ) (last : List ℕ) (line : TraceLine) (printed : Line) → HasNoFall place last → IsGetAt trace report place line printed → partition_in options line ≡ p
      → printed_stamp printed < get_or last (reader_of options trace place) 0 → FallsBehind options trace report place line printed
  falls_here place last line printed so_far get inside less = grind (arith, common_steps)

  -- one place more, where no get of the partition stands
  pub no_get : (place : ℕ) (last : List ℕ) (line : TraceLine) → slice_get trace place ≡ Some line
      → (is_get line ≡ true → partition_in options line ≢ p) → HasNoFall place last → HasNoFall (place + 1) last
  no_get place last line is other so_far =
      let here : (m : ℕ) (l : TraceLine) (printed : Line) → m < place + 1 → IsGetAt trace report m l printed → partition_in options l ≡ p → m < place = λ m l printed less get inside.
      elim (ltb m place) as (λ t. ltb m place ≡ t → m < place) [
        | true ↦ λ e. ltb-true m place e
        | false ↦ λ f. grind (arith, common_steps)
      ] refl in
      record {
        many = so_far.many;
        bound = λ m l printed less get inside. so_far.bound m l printed (here m l printed less get inside) get inside;
        source = λ q some. let found = so_far.source q some in let less = found.3 in (found.0, found.1, found.2, omega arith, found.4, found.5, found.6, found.7);
        none = λ m l printed less get inside. so_far.none m l printed (here m l printed less get inside) get inside;
      }

  -- one place more, with a get that doesn't fall
  pub one_get : (place : ℕ) (last : List ℕ) (line : TraceLine) (printed : Line) → HasNoFall place last → IsGetAt trace report place line printed → partition_in options line ≡ p
      → get_or last (reader_of options trace place) 0 ≤ printed_stamp printed → reader_of options trace place < options.readers
      → HasNoFall (place + 1) (set last (reader_of options trace place) (printed_stamp printed))
  one_get place last line printed so_far get inside low below =
      let reader = reader_of options trace place in
      let stamp = printed_stamp printed in
      let many = so_far.many in
      let within : reader < length last = omega arith in
      let at_reader : get_or (set last reader stamp) reader 0 ≡ stamp = get_or-set_same last reader stamp 0 within in
      let at_other : (q : ℕ) → q ≢ reader → get_or (set last reader stamp) q 0 ≡ get_or last q 0 = λ q other. get_or-set_other last reader q stamp 0 other in
      record {
        many = length-set last reader stamp ∙ so_far.many;
        bound = λ m l r less is in_p. elim (ltb m place) as (λ t. ltb m place ≡ t → printed_stamp r ≤ get_or (set last reader stamp) (reader_of options trace m) 0) [
          | true ↦ λ e.
              let before = so_far.bound m l r (ltb-true m place e) is in_p in
              by_reader (reader_of options trace m) reader (printed_stamp r) stamp (get_or last (reader_of options trace m) 0) (get_or last reader 0) (get_or (set last reader stamp) (reader_of options trace m) 0)
              before low (ap (λ q. get_or last q 0)) (λ same. ap (λ q. get_or (set last reader stamp) q 0) same ∙ at_reader) (at_other (reader_of options trace m))
          | false ↦ λ f.
              let high = ltb-false m place f in
              let at : m ≡ place = omega arith in
              let answered : slice_get report place ≡ Some r = subst (λ n. slice_get report n ≡ Some r) at is.answered in
              let here = get.answered in
              let same : printed ≡ r = cc in
              let stamps : printed_stamp r ≡ stamp = ap printed_stamp (sym same) in
              let value : get_or (set last reader stamp) (reader_of options trace m) 0 ≡ stamp = ap (λ n. get_or (set last reader stamp) (reader_of options trace n) 0) at ∙ at_reader in
              omega arith
        ] refl;
        source = λ q some. elim (eqb q reader) as (λ t. eqb q reader ≡ t → (m : ℕ) × (l : TraceLine) × (r : Line) × (m < place + 1) × IsGetAt trace report m l r × (partition_in options l ≡ p)
            × (reader_of options trace m ≡ q) × (printed_stamp r ≡ get_or (set last reader stamp) q 0)) [
              | true ↦ λ e. let same : q ≡ reader = eqb-true q reader e in (place, line, printed, omega arith, get, inside, sym same, sym (ap (λ q. get_or (set last reader stamp) q 0) same ∙ at_reader))
              | false ↦ λ f.
                  let other = eqb-false q reader f in
                  let value = at_other q other in
                  let found = so_far.source q (omega arith) in
                  let less = found.3 in
                  (found.0, found.1, found.2, omega arith, found.4, found.5, found.6, found.7 ∙ sym value)
            ] refl;
        none = λ m l r less is in_p falls. elim (ltb m place) as (λ t. ltb m place ≡ t → ⊥) [
          | true ↦ λ e. so_far.none m l r (ltb-true m place e) is in_p falls
          | false ↦ λ f.
              let high = ltb-false m place f in
              let at : m ≡ place = omega arith in
              let earlier = falls.earlier in
              let before = so_far.bound falls.place falls.other falls.answer (omega arith) falls.get (falls.partition ∙ in_p) in
              let same_reader : reader_of options trace falls.place ≡ reader = falls.reader ∙ ap (reader_of options trace) at in
              let value = ap (λ q. get_or last q 0) same_reader in
              let answered : slice_get report place ≡ Some r = subst (λ n. slice_get report n ≡ Some r) at is.answered in
              let here = get.answered in
              let same : printed ≡ r = cc in
              let stamps : printed_stamp r ≡ stamp = ap printed_stamp (sym same) in
              let greater = falls.greater in
              absurd (omega arith)
        ] refl;
      }
    where
      by_reader : (q reader s stamp old here new : ℕ) → s ≤ old → here ≤ stamp → (q ≡ reader → old ≡ here) → (q ≡ reader → new ≡ stamp) → (q ≢ reader → new ≡ old) → s ≤ new
      by_reader q reader s stamp old here new low high same at other =
          elim (eqb q reader) as (λ t. eqb q reader ≡ t → s ≤ new) [
            | true ↦ λ e. let is = eqb-true q reader e in let one = same is in let two = at is in omega arith
            | false ↦ λ f. let two = other (eqb-false q reader f) in omega arith
          ] refl

-- over the lines of other partitions
pub no_fall_over : (options : Options) (p : ℕ) (trace : List TraceLine) (report : List Line) (place end : ℕ) (last : List ℕ) → place ≤ end → end ≤ length trace → HasNone options p trace place end
    → HasNoFall options p trace report place last → HasNoFall options p trace report end last
no_fall_over options p trace report place end last low high none so_far =
    skip_to options p trace (λ n. HasNoFall options p trace report n last) (λ n line is outside at. no_get options p trace report n last line is (λ _. outside) at) place end low high none so_far

-- Before the lines of a partition that are left none of its gets falls behind.
pub record NoneFell (options : Options) (p : ℕ) (trace : List TraceLine) (report : List Line) (lines : List OwnLine) (last : List ℕ) : Type 0 where
  pub place : ℕ
  pub left : AreLinesOf options p trace place (length trace) lines
  pub so_far : HasNoFall options p trace report place last

module _ (options : Options) (p : ℕ) (trace : List TraceLine) (report : List Line) (last : List ℕ) where
  pub none_fell_before : (own : OwnLine) (later : List OwnLine) → NoneFell options p trace report (own ∷ later) last → HasNoFall options p trace report own.place last
  none_fell_before own later fell = grind (arith, no_fall_over options p trace report fell.place own.place last fell.left.1 (omega arith) fell.left.3 fell.so_far)

  pub none_fell_at_end : NoneFell options p trace report [] last → HasNoFall options p trace report (length trace) last
  none_fell_at_end fell = no_fall_over options p trace report fell.place (length trace) last fell.left.0 (omega arith) fell.left.1 fell.so_far

  pub none_fell_by_line : (own : OwnLine) (later : List OwnLine) → NoneFell options p trace report (own ∷ later) last
      → ((line : TraceLine) → slice_get trace own.place ≡ Some line → is_get line ≡ false) → NoneFell options p trace report later last
  none_fell_by_line own later fell other = grind (arith, common_steps, no_get options p trace report own.place last, true≢false, none_fell_before own later fell)

  pub none_fell_by_get : (own : OwnLine) (later : List OwnLine) (line : TraceLine) (printed : Line) → NoneFell options p trace report (own ∷ later) last → IsGetAt trace report own.place line printed
      → get_or last (own.gets % options.readers) 0 ≤ printed_stamp printed → 1 ≤ options.readers
      → NoneFell options p trace report later (set last (own.gets % options.readers) (printed_stamp printed))
  none_fell_by_get own later line printed fell get low some =
      grind (arith, common_steps, one_get options p trace report own.place last line printed (none_fell_before own later fell) get, none_fell_before own later fell)

  -- the get that falls
  pub first_to_fall : (own : OwnLine) (later : List OwnLine) (line : TraceLine) (printed : Line) → NoneFell options p trace report (own ∷ later) last → IsGetAt trace report own.place line printed
      → printed_stamp printed < get_or last (own.gets % options.readers) 0 → IsFirstFall options p trace report (Some own.place)
  first_to_fall own later line printed fell get less = grind (arith, none_fell_before own later fell, falls_here options p trace report own.place last line printed)

  pub none_to_fall : NoneFell options p trace report [] last → IsFirstFall options p trace report None
  none_to_fall fell n line printed get inside falls =
      let less = slice_get_within trace n line get.asked in
      (none_fell_at_end fell).none n line printed less get inside falls
