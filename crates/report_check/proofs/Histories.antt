-- The history of a partition, line by line.
use Rattle.std.proofs.Common.{◌≡◌, ℕ, zero, suc, ◌+◌, ◌<◌, ◌≤◌, List, [], ◌∷◌, ◌++◌, length, take, drop, Option, Some, None, refl, sym, ap, ◌∙◌, subst, arith, leb-true, leb-false, zip, slice_get, append-nil, length-append, take-append-drop, ne_eqb, eq-eqb, ◌≢◌}
use Rattle.std.specs.List.{AllZip, filter_map, cons_option}
use Rattle.std.proofs.lemmas.Option.{slice_get_within, get_or_from_slice_get}
use Rattle.std.proofs.lemmas.List.{take_more}
use Rattle.std.proofs.Math.Seq.{take-append_seam}
use Rattle.std.proofs.lemmas.List.Elements.{filter_map-append}
use Rattle.std.proofs.lemmas.Grind.{common_steps}
use Rattle.partition_model.specs.declared.options.Options.{Options}
use Rattle.partition_model.specs.History.{IsPrefix, stamp_of}
use Rattle.partition_model.specs.Run.{RunStep, history_of}
use Rattle.partition_model.proofs.Rises.{prefix_rises, one_cut}
use Rattle.mica_trace.specs.declared.line.TraceLine.{TraceLine}
use Rattle.mica_trace.specs.declared.report.Line.{Line}
use Rattle.mica_trace.specs.Rounds.{partition_in, write_in, writes_of}
use Rattle.mica_trace.specs.LawfulReport.{IsLineFor, step_in, steps_of, history_after}
use Rattle.mica_trace.proofs.ListParts.{zip-append}
use Rattle.partition_model.proofs.Runs.{history-append}
use Rattle.mica_trace.proofs.RoundPlaces.{steps_count}
use Rattle.report_check.specs.Judged.{step_at}
use Rattle.report_check.specs.Moments.{history_at}

-- Lists

pub take_one : {X : Type 0} (xs : List X) (n : ℕ) (x : X) → slice_get xs n ≡ Some x → take (n + 1) xs ≡ take n xs ++ x ∷ []
take_one xs n x is = take_more xs n x (slice_get_within xs n x is) ∙ ap (λ y. take n xs ++ y ∷ []) (get_or_from_slice_get xs n x x is)

pub take_past : {X : Type 0} (xs : List X) (n : ℕ) → length xs ≤ n → take n xs ≡ xs
take_past xs n le = grind (arith, common_steps)

pub same_take : {X Y : Type 0} (xs : List X) (ys : List Y) (n : ℕ) → length ys ≡ length xs → length (take n ys) ≡ length (take n xs)
same_take xs ys n same = grind (arith, common_steps)

pub AllZip-take : {X Y : Type 0} (R : X → Y → Type 0) (xs : List X) (ys : List Y) (n : ℕ) → AllZip R xs ys → AllZip R (take n xs) (take n ys)
AllZip-take R xs ys zero all = tt
AllZip-take R [] [] (suc n) all = tt
AllZip-take R [] (y ∷ ys) (suc n) all = absurd all
AllZip-take R (x ∷ xs) [] (suc n) all = absurd all
AllZip-take R (x ∷ xs) (y ∷ ys) (suc n) all = (all.0, AllZip-take R xs ys n all.1)

-- what stands at a place below the cut
pub get_take : {X : Type 0} (xs : List X) (k n : ℕ) → n < k → slice_get (take k xs) n ≡ slice_get xs n
get_take xs zero n less = absurd (omega arith)
get_take [] (suc k) n less = refl
get_take (x ∷ xs) (suc k) zero less = refl
get_take (x ∷ xs) (suc k) (suc n) less = get_take xs k n (omega arith)

pub take_lower : {X : Type 0} (xs : List X) (k n : ℕ) → n ≤ k → take n (take k xs) ≡ take n xs
take_lower xs k n le = grind (arith, common_steps)

module _ (options : Options) (p : ℕ) (trace : List TraceLine) (report : List Line) (same : length report ≡ length trace) where
  abbrev steps_to : ℕ → List RunStep
  steps_to m = steps_of options p (take m trace) (take m report)

  -- one line more
  steps_more : (n : ℕ) (line : TraceLine) (printed : Line) → slice_get trace n ≡ Some line → slice_get report n ≡ Some printed
      → steps_to (n + 1) ≡ steps_to n ++ cons_option (step_in options p (line, printed)) []
  steps_more n line printed asked answered =
      grind (arith, take_one trace n line asked, take_one report n printed answered, zip-append (take n trace) (line ∷ []) (take n report) (printed ∷ []) (same_take trace report n same), same_take trace report n same, filter_map-append (step_in options p) (zip (take n trace) (take n report)) ((line, printed) ∷ []))

  pub steps_here : (n : ℕ) (line : TraceLine) (printed : Line) → slice_get trace n ≡ Some line → slice_get report n ≡ Some printed → partition_in options line ≡ p
      → steps_to (n + 1) ≡ steps_to n ++ step_at line printed
  steps_here n line printed asked answered inside = grind (arith, common_steps, steps_more n line printed asked answered, eq-eqb (partition_in options line) p inside)

  pub steps_there : (n : ℕ) (line : TraceLine) (printed : Line) → slice_get trace n ≡ Some line → slice_get report n ≡ Some printed → partition_in options line ≢ p
      → steps_to (n + 1) ≡ steps_to n
  steps_there n line printed asked answered outside =
      grind (arith, common_steps, steps_more n line printed asked answered, ne_eqb (partition_in options line) p outside, append-nil (steps_to n))

  pub history_here : (n : ℕ) (line : TraceLine) (printed : Line) → slice_get trace n ≡ Some line → slice_get report n ≡ Some printed → partition_in options line ≡ p
      → history_at options p trace report (n + 1) ≡ history_at options p trace report n ++ history_of (step_at line printed)
  history_here n line printed asked answered inside = ap history_of (steps_here n line printed asked answered inside) ∙ history-append (steps_to n) (step_at line printed)

  pub history_there : (n : ℕ) (line : TraceLine) (printed : Line) → slice_get trace n ≡ Some line → slice_get report n ≡ Some printed → partition_in options line ≢ p
      → history_at options p trace report (n + 1) ≡ history_at options p trace report n
  history_there n line printed asked answered outside = ap history_of (steps_there n line printed asked answered outside)

  -- the steps of the first lines begin those of more
  steps_parts : (m n : ℕ) → m ≤ n → (rest : List RunStep) × (steps_to n ≡ steps_to m ++ rest)
  steps_parts m n le =
      let lines = take n trace in
      let printed = take n report in
      let cut : take m lines ++ drop m lines ≡ lines = take-append-drop m lines in
      let cut' : take m printed ++ drop m printed ≡ printed = take-append-drop m printed in
      let long : length (take m printed) ≡ length (take m lines) = same_take lines printed m (same_take trace report n same) in
      let rest = steps_of options p (drop m lines) (drop m printed) in (
        rest,
        ap (λ (ls : List TraceLine). steps_of options p ls printed) (sym cut)
            ∙ ap (λ (rs : List Line). steps_of options p (take m lines ++ drop m lines) rs) (sym cut')
            ∙ ap (filter_map (step_in options p)) (zip-append (take m lines) (drop m lines) (take m printed) (drop m printed) long)
            ∙ filter_map-append (step_in options p) (zip (take m lines) (take m printed)) (zip (drop m lines) (drop m printed))
            ∙ ap (λ (ls : List TraceLine). steps_of options p ls (take m printed) ++ rest) (take_lower trace n m le)
            ∙ ap (λ (rs : List Line). steps_of options p (take m trace) rs ++ rest) (take_lower report n m le),
      )

  pub history_grows : (m n : ℕ) → m ≤ n → IsPrefix (history_at options p trace report m) (history_at options p trace report n)
  history_grows m n le = grind (arith, common_steps, steps_parts m n le, history-append (steps_to m))

  pub stamps_grow : (m n : ℕ) → m ≤ n → stamp_of options (history_at options p trace report m) ≤ stamp_of options (history_at options p trace report n)
  stamps_grow m n le = prefix_rises options _ _ (history_grows m n le)

  -- moments of one stamp have one history
  pub one_history : (m n : ℕ) → m ≤ n → stamp_of options (history_at options p trace report m) ≡ stamp_of options (history_at options p trace report n)
      → history_at options p trace report m ≡ history_at options p trace report n
  one_history m n le stamps =
      grind (arith, one_cut options (history_at options p trace report n) (stamp_of options (history_at options p trace report n)) _ _ (record { begins = history_grows m n le; stamped = stamps }) (record { begins = ([], sym (append-nil _)); stamped = refl }))

  -- how many writes of the partition the first lines have
  abbrev pub writes_to : ℕ → ℕ
  writes_to m = length (writes_of options p (take m trace))

  -- a moment's history is that after so many writes
  pub history_by : (m : ℕ) → AllZip IsLineFor trace report → history_at options p trace report m ≡ history_after options p trace report (writes_to m)
  history_by m all =
      let count : length (steps_to m) ≡ writes_to m = steps_count options p (take m trace) (take m report) (AllZip-take IsLineFor trace report m all) in
      let long = length trace + m in
      let parts = steps_parts m long (omega arith) in
      let whole : steps_of options p trace report ≡ steps_to m ++ parts.0 =
      ap (λ (ls : List TraceLine). steps_of options p ls report) (sym (take_past trace long (omega arith)))
      ∙ ap (λ (rs : List Line). steps_of options p (take long trace) rs) (sym (take_past report long (omega arith))) ∙ parts.1 in
      ap history_of (sym (ap (λ n. take n (steps_of options p trace report)) (sym count) ∙ ap (take (length (steps_to m))) whole ∙ take-append_seam (steps_to m) parts.0))

  writes_one : (n : ℕ) → (writes_to n ≤ writes_to (n + 1)) × (writes_to (n + 1) ≤ writes_to n + 1)
  writes_one n =
      elim (slice_get trace n) as (λ o. slice_get trace n ≡ o → (writes_to n ≤ writes_to (n + 1)) × (writes_to (n + 1) ≤ writes_to n + 1)) [
        | None ↦ λ none.
            let past : length trace ≤ n = past_of trace n none in
            let one = ap (λ (ls : List TraceLine). length (writes_of options p ls)) (take_past trace n past) in
            let two = ap (λ (ls : List TraceLine). length (writes_of options p ls)) (take_past trace (n + 1) (omega arith)) in
            (omega arith, omega arith)
        | Some line ↦ λ is.
            let more = ap (λ (ls : List TraceLine). length (writes_of options p ls)) (take_one trace n line is) in
            let parts = ap length (filter_map-append (write_in options p) (take n trace) (line ∷ [])) in
            let joined = length-append (writes_of options p (take n trace)) (cons_option (write_in options p line) []) in
            let few = short_option (write_in options p line) in
            (omega arith, omega arith)
      ] refl
    where
      past_of : {X : Type 0} (xs : List X) (n : ℕ) → slice_get xs n ≡ None → length xs ≤ n
      past_of [] n none = omega arith
      past_of (x ∷ xs) zero none = absurd (cc)
      past_of (x ∷ xs) (suc n) none = let later = past_of xs n none in omega arith

      short_option : {X : Type 0} (o : Option X) → length (cons_option o []) ≤ 1
      short_option None = omega arith
      short_option (Some x) = omega arith

  pub writes_rise : (m d : ℕ) → writes_to m ≤ writes_to (m + d)
  writes_rise m zero = let e : m + 0 ≡ m = omega arith in subst (λ k. writes_to m ≤ writes_to k) (sym e) (omega arith)
  writes_rise m (suc d) = grind (arith, common_steps, writes_one (m + d), writes_rise m d)

  -- each number of writes between two moments is that of a moment between them
  pub some_moment : (from d i : ℕ) → writes_to from ≤ i → i ≤ writes_to (from + d) → (m : ℕ) × (from ≤ m) × (m ≤ from + d) × (writes_to m ≡ i)
  some_moment from zero i low high = grind (arith, common_steps)
  some_moment from (suc d) i low high =
      grind (arith, common_steps, writes_one (from + d), some_moment from d i low, leb-true i (writes_to (from + d)), leb-false i (writes_to (from + d)))
