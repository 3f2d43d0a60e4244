-- The gets of a round, collected and sorted.
use Rattle.std.proofs.Common.{rules}
use Rattle.std.proofs.Common.{◌≡◌, ℕ, zero, suc, ◌<◌, ◌≤◌, inl, inr, List, [], ◌∷◌, ◌++◌, length, Some, Contains, IsPermutation, refl, sym, ap, ◌∙◌, subst, arith, slice_get}
use Rattle.std.specs.List.Sorted.{IsNonDecreasingBy}
use Rattle.std.proofs.lemmas.Option.{slice_get_within, get_or_from_slice_get, slice_get_read}
use Rattle.std.proofs.lemmas.List.Sorted.{Contains-permutation, IsPermutation-sym}
use Rattle.std.proofs.lemmas.Grind.{common_steps}
use Rattle.partition_model.specs.declared.options.Options.{Options}
use Rattle.mica_trace.specs.declared.line.TraceLine.{TraceLine}
use Rattle.mica_trace.specs.declared.report.Line.{Line}
use Rattle.mica_trace.specs.ReportGrammar.{printed_stamp}
use Rattle.mica_trace.specs.Rounds.{partition_in}
use Rattle.mica_trace.specs.LawfulReport.{IsGetAt}
use Rattle.mica_trace.proofs.ListParts.{slice_get-append}
use Rattle.report_check.specs.declared.asked.Asked.{Asked}
use Rattle.report_check.specs.declared.sharing.OwnLine.{OwnLine}
use Rattle.report_check.specs.Settling.{AreAsked, AreGetsAmong, StampsRise, AreGets}
use Rattle.report_check.specs.Shared.{AreLinesOf}
use Rattle.report_check.proofs.OwnLines.{own_at, line_among}

contains_at : {X : Type 0} (xs : List X) (j : ℕ) (x : X) → slice_get xs j ≡ Some x → Contains xs x
contains_at xs j x is = (j, slice_get_within xs j x is, get_or_from_slice_get xs j x x is)

at_contains : {X : Type 0} (xs : List X) (x : X) → Contains xs x → (j : ℕ) × (slice_get xs j ≡ Some x)
at_contains xs x has = (has.0, slice_get_read xs (length xs) has.0 x refl has.1 (sym has.2))

slice_get_front : {X : Type 0} (xs ys : List X) (j : ℕ) (x : X) → slice_get xs j ≡ Some x → slice_get (xs ++ ys) j ≡ Some x
slice_get_front [] ys j x is = absurd (cc)
slice_get_front (y ∷ xs) ys zero x is = is
slice_get_front (y ∷ xs) ys (suc j) x is = slice_get_front xs ys j x is

slice_get_last : {X : Type 0} (xs : List X) (x : X) → slice_get (xs ++ x ∷ []) (length xs) ≡ Some x
slice_get_last [] x = refl
slice_get_last (y ∷ xs) x = slice_get_last xs x

module _ (trace : List TraceLine) (report : List Line) where
  abbrev IsGetOf : List OwnLine → Asked → Type 0
  IsGetOf lines a = (i : ℕ) × (own : OwnLine) × (slice_get lines i ≡ Some own) × (a.place ≡ own.place)
      × (line : TraceLine) × (printed : Line) × IsGetAt trace report a.place line printed × (a.stamp ≡ printed_stamp printed)

  longer : (lines : List OwnLine) (own : OwnLine) (a : Asked) → IsGetOf lines a → IsGetOf (lines ++ own ∷ []) a
  longer lines own a is = (is.0, is.1, slice_get_front lines (own ∷ []) is.0 is.1 is.2, is.3, is.4, is.5, is.6, is.7)

  only : {X : Type 0} (k : ℕ) (new x : X) → slice_get (new ∷ []) k ≡ Some x → new ≡ x
  only k new x is = grind (arith, common_steps)

  -- one line more, which is no get
  pub among_skip : (lines : List OwnLine) (own : OwnLine) (asked : List Asked) → ((line : TraceLine) (printed : Line) → ¬ (IsGetAt trace report own.place line printed))
      → AreGetsAmong trace report lines asked → AreGetsAmong trace report (lines ++ own ∷ []) asked
  among_skip lines own asked other so_far = record {
    each = λ j a at. longer lines own a (so_far.each j a at);
    all = λ i o line printed at get. elim (slice_get-append lines (own ∷ []) i o at) as (λ _. (j : ℕ) × (slice_get asked j ≡ Some (record { stamp = printed_stamp printed; place = o.place }))) [
      | inl front ↦ so_far.all i o line printed front.1 get
      | inr back ↦ absurd (other line printed (subst (λ (x : OwnLine). IsGetAt trace report x.place line printed) (sym (only back.0 own o back.2)) get))
    ];
  }

  -- one get more
  pub among_push : (lines : List OwnLine) (own : OwnLine) (asked : List Asked) (line : TraceLine) (printed : Line) → IsGetAt trace report own.place line printed
      → AreGetsAmong trace report lines asked → AreGetsAmong trace report (lines ++ own ∷ []) (asked ++ record { stamp = printed_stamp printed; place = own.place } ∷ [])
  among_push lines own asked line printed get so_far =
      let new : Asked = record { stamp = printed_stamp printed; place = own.place } in
      record {
        each = λ j a at. grind (arith, common_steps, slice_get-append asked (new ∷ []) j a at, longer lines own a, only, slice_get_last lines own);
        all = λ i o l r at get'. elim (slice_get-append lines (own ∷ []) i o at) as (λ _. (j : ℕ) × (slice_get (asked ++ new ∷ []) j ≡ Some (record { stamp = printed_stamp r; place = o.place }))) [
          | inl front ↦ let found = so_far.all i o l r front.1 get' in (found.0, slice_get_front asked (new ∷ []) found.0 _ found.1)
          | inr back ↦
              let is = only back.0 own o back.2 in
              let there : slice_get report own.place ≡ Some r = subst (λ (x : OwnLine). slice_get report x.place ≡ Some r) (sym is) get'.answered in
              let here = get.answered in
              let same : printed ≡ r = cc in
              (length asked, slice_get_last asked new ∙ ap (λ (x : Line). Some (record { stamp = printed_stamp x; place = own.place })) same ∙ ap (λ (x : OwnLine). Some (record { stamp = printed_stamp r; place = x.place })) is)
        ];
      }

  -- in another order they are the same gets
  pub among_sorted : (lines : List OwnLine) (asked sorted : List Asked) → IsPermutation asked sorted → AreGetsAmong trace report lines asked → AreGetsAmong trace report lines sorted
  among_sorted lines asked sorted moved among = record {
    each = λ j a at. let back = at_contains asked a (Contains-permutation sorted asked a (IsPermutation-sym asked sorted moved) (contains_at sorted j a at)) in among.each back.0 a back.1;
    all = λ i own line printed at get.
        let found = among.all i own line printed at get in
        at_contains sorted _ (Contains-permutation asked sorted _ moved (contains_at asked found.0 _ found.1));
  }

  pub gets_of_among : (lines : List OwnLine) (asked : List Asked) → AreGetsAmong trace report lines asked → AreGets trace report asked
  gets_of_among lines asked among j a at = let each = among.each j a at in (each.4, each.5, each.6, each.7)

  -- those among the lines of a partition between two places are its gets there
  pub asked_among : (options : Options) (p from to : ℕ) (lines : List OwnLine) (asked : List Asked) → AreLinesOf options p trace from to lines
      → AreGetsAmong trace report lines asked → AreAsked options p trace report from to asked
  asked_among options p from to lines asked are among = record {
    each = λ j a at.
        let each = among.each j a at in
        let own = own_at options p trace from to lines each.0 each.1 are each.2 in
        let there = own.0.is in
        let place : slice_get trace each.1.place ≡ Some each.4 = subst (λ n. slice_get trace n ≡ Some each.4) each.3 each.6.asked in
        let same : own.0.line ≡ each.4 = cc in
        record {
          line = each.4;
          printed = each.5;
          get = each.6;
          inside = ap (partition_in options) (sym same) ∙ own.0.inside;
          low = subst (λ n. from ≤ n) (sym each.3) own.1;
          high = subst (λ n. n < to) (sym each.3) own.2;
          stamp = each.7;
        };
    all = λ n line printed low high get inside.
        let found = line_among options p trace from to lines n line are low high get.asked inside in
        let one = among.all found.0 found.1 line printed found.2 (subst (λ m. IsGetAt trace report m line printed) (sym found.3) get) in
        (one.0, one.1 ∙ ap (λ m. Some (record { stamp = printed_stamp printed; place = m })) found.3);
  }

pub rising : (asked : List Asked) → IsNonDecreasingBy (λ a. a.stamp) asked → StampsRise asked
rising asked up i j a b le at_i at_j = search (rules, slice_get_within, get_or_from_slice_get)
