-- The lines of a partition, shared out, cut at a place, and gone through.
use Rattle.std.proofs.Common.{rules}
use Rattle.std.proofs.Common.{◌≡◌, ◌≢◌, ℕ, zero, suc, ◌+◌, ◌-◌, ◌<◌, ◌≤◌, List, [], ◌∷◌, ◌++◌, length, take, drop, set, slice_get, get_or, Some, true, false, cond, not, refl, sym, subst, arith, ltb, ltb-true, ltb-false, leb, leb-false, eqb, eqb-true, append_assoc, append-nil, length-set}
use borrow.Author.Tests.{eqb-false}
use Rattle.std.specs.Global.{Vec}
use Rattle.std.specs.List.{position_or_len, AllByRecursion as AllOf}
use Rattle.std.proofs.lemmas.Option.{slice_get_within}
use Rattle.std.proofs.lemmas.Grind.{common_steps}
use Rattle.list_laws.proofs.Places.{element_at}
use Rattle.partition_model.specs.declared.options.Options.{Options}
use Rattle.mica_trace.specs.declared.line.TraceLine.{TraceLine}
use Rattle.mica_trace.specs.Rounds.{partition_in}
use Rattle.mica_trace.specs.RoundReport.{gets_in}
use Rattle.report_check.specs.declared.sharing.OwnLine.{OwnLine}
use Rattle.report_check.specs.Shared.{HasNone, IsOwn, AreLinesOf}
use Rattle.report_check.proofs.Buckets.{seen_set}

module _ (options : Options) (p : ℕ) (trace : List TraceLine) where
  none_there : (n : ℕ) → HasNone options p trace n n
  none_there n m line low high is = absurd (omega arith)

  none_joined : (from place to : ℕ) → HasNone options p trace from place → HasNone options p trace place to → HasNone options p trace from to
  none_joined from place to one two n line low high is = grind (arith, common_steps)

  -- the place where they begin may lie further in front
  pub earlier_lines : (from place to : ℕ) (lines : List OwnLine) → from ≤ place → HasNone options p trace from place
      → AreLinesOf options p trace place to lines → AreLinesOf options p trace from to lines
  earlier_lines from place to [] less none are = (let more = are.0 in omega arith, none_joined from place to none are.1)
  earlier_lines from place to (own ∷ later) less none are = (are.0, (let more = are.1 in omega arith), are.2, none_joined from place own.place none are.3, are.4)

  -- One of them, and each line that is the partition's.

  pub own_at : (from to : ℕ) (lines : List OwnLine) (i : ℕ) (own : OwnLine) → AreLinesOf options p trace from to lines → slice_get lines i ≡ Some own
      → IsOwn options p trace own × (from ≤ own.place) × (own.place < to)
  own_at from to [] i own are is = absurd (cc)
  own_at from to (x ∷ later) zero own are is = grind (arith, common_steps)
  own_at from to (x ∷ later) (suc i) own are is = grind (arith, common_steps, own_at (x.place + 1) to later i own are.4 is)

  pub line_among : (from to : ℕ) (lines : List OwnLine) (n : ℕ) (line : TraceLine) → AreLinesOf options p trace from to lines → from ≤ n → n < to → slice_get trace n ≡ Some line → partition_in options line ≡ p
      → (i : ℕ) × (own : OwnLine) × (slice_get lines i ≡ Some own) × (own.place ≡ n)
  line_among from to [] n line are low high is inside = absurd (are.1 n line low high is inside)
  line_among from to (own ∷ later) n line are low high is inside =
      elim (ltb n own.place) as (λ b. ltb n own.place ≡ b → (i : ℕ) × (o : OwnLine) × (slice_get (own ∷ later) i ≡ Some o) × (o.place ≡ n)) [
        | true ↦ λ e. absurd (are.3 n line low (ltb-true n own.place e) is inside)
        | false ↦ λ f.
            let behind = ltb-false n own.place f in
            elim (eqb own.place n) as (λ b. eqb own.place n ≡ b → (i : ℕ) × (o : OwnLine) × (slice_get (own ∷ later) i ≡ Some o) × (o.place ≡ n)) [
              | true ↦ λ e. (0, own, refl, eqb-true own.place n e)
              | false ↦ λ g.
                  let other = eqb-false own.place n g in
                  let found = line_among (own.place + 1) to later n line are.4 (omega arith) high is inside in
                  (suc found.0, found.1, found.2, found.3)
            ] refl
      ] refl

  pub all_within : (from to : ℕ) (lines : List OwnLine) → AreLinesOf options p trace from to lines → AllOf (λ own. own.place < length trace) lines
  all_within from to [] are = tt
  all_within from to (own ∷ later) are = (slice_get_within trace own.place are.0.line are.0.is, all_within (own.place + 1) to later are.4)

  -- Those before a place, and those that are left.

  next : (n : ℕ) → 1 + n ≡ suc n
  next n = omega arith

  pub lines_cut : (from place to : ℕ) (lines : List OwnLine) → from ≤ place → place ≤ to → AreLinesOf options p trace from to lines
      → AreLinesOf options p trace from place (take (position_or_len (λ own. leb place own.place) lines) lines)
      × AreLinesOf options p trace place to (drop (position_or_len (λ own. leb place own.place) lines) lines)
  lines_cut from place to [] low high are = ((low, λ n line low' high' is. are.1 n line low' (omega arith) is), (high, λ n line low' high' is. are.1 n line (omega arith) high' is))
  lines_cut from place to (own ∷ later) low high are =
      let count = position_or_len (λ (o : OwnLine). leb place o.place) later in
      elim (leb place own.place) as (λ b. leb place own.place ≡ b
      → AreLinesOf options p trace from place (take (cond (not b) (1 + count) 0) (own ∷ later)) × AreLinesOf options p trace place to (drop (cond (not b) (1 + count) 0) (own ∷ later))) [
        | true ↦ λ e. grind (arith, common_steps)
        | false ↦ λ f.
            let before = leb-false place own.place f in
            let cut = lines_cut (own.place + 1) place to later (omega arith) high are.4 in
            subst (λ k. AreLinesOf options p trace from place (take k (own ∷ later)) × AreLinesOf options p trace place to (drop k (own ∷ later))) (sym (next count))
            ((are.0, are.1, omega arith, are.3, cut.0), cut.1)
      ] refl

  -- The lines between that are of other partitions change nothing.

  module _ (P : ℕ → Type 0) (over : (n : ℕ) (line : TraceLine) → slice_get trace n ≡ Some line → partition_in options line ≢ p → P n → P (n + 1)) where
    skip : (from d : ℕ) → from + d ≤ length trace → HasNone options p trace from (from + d) → P from → P (from + d)
    skip from zero high none is = let e : from ≡ from + 0 = omega arith in subst P e is
    skip from (suc d) high none is =
        let e : from + d + 1 ≡ from + suc d = omega arith in
        let here = element_at trace (from + d) (omega arith) in
        subst P e (over (from + d) here.0 here.1 (none (from + d) here.0 (omega arith) (omega arith) here.1)
        (skip from d (omega arith) (λ n line low less at. none n line low (omega arith) at) is))

    pub skip_to : (from to : ℕ) → from ≤ to → to ≤ length trace → HasNone options p trace from to → P from → P to
    skip_to from to low high none is = grind (arith, common_steps, skip from (to - from) (omega arith))

-- the next of those that are left
pub left_one : {X : Type 0} (xs : List X) (at : ℕ) (x : X) → at < length xs → x ≡ get_or xs at x → drop at xs ≡ x ∷ drop (at + 1) xs
left_one xs at x less is = grind (arith, common_steps)

-- and none, behind the last
pub left_none : {X : Type 0} (xs : List X) (at : ℕ) → length xs ≤ at → drop at xs ≡ []
left_none xs at past = grind (arith, common_steps)

-- as the code reads an element that is there
pub read_same : {X : Type 0} (xs : List X) (at : ℕ) (d : X) → at < length xs → get_or xs at d ≡ get_or xs at (get_or xs at d)
read_same xs at d less = grind (arith, common_steps)

pub all_seen : {X : Type 0} (P : X → Type 0) (xs : List X) (i : ℕ) (x : X) → AllOf P xs → slice_get xs i ≡ Some x → P x
all_seen P [] i x all is = absurd (cc)
all_seen P (y ∷ xs) zero x all is = let same : y ≡ x = cc in subst P same all.0
all_seen P (y ∷ xs) (suc i) x all is = all_seen P xs i x all.1 is

-- The lines of each partition, shared out up to a place: with what is left they make the whole.

pub record AreSharedTo (options : Options) (trace : List TraceLine) (place : ℕ) (shared : List (Vec OwnLine)) : Type 0 where
  pub many : length shared ≡ options.partitions
  pub each : (p : ℕ) (own : Vec OwnLine) → slice_get shared p ≡ Some own → (rest : List OwnLine) → AreLinesOf options p trace place (length trace) rest
      → AreLinesOf options p trace 0 (length trace) (own.items ++ rest)

module _ (options : Options) (trace : List TraceLine) where
  pub shared_more : (place gets : ℕ) (line : TraceLine) (shared : List (Vec OwnLine)) (p : ℕ) (old new : Vec OwnLine) → AreSharedTo options trace place shared → slice_get trace place ≡ Some line
      → p ≡ partition_in options line → slice_get shared p ≡ Some old → new.items ≡ old.items ++ record { place = place; gets = gets } ∷ [] → gets ≡ gets_in (take place trace)
      → AreSharedTo options trace (place + 1) (set shared p new)
  shared_more place gets line shared p old new so_far is inside at pushed counted =
      search (rules, length-set, seen_set, eqb, eqb-true, append_assoc, slice_get_within, none_there, eqb-false, earlier_lines, length)

  pub shared_all : (shared : List (Vec OwnLine)) → AreSharedTo options trace (length trace) shared → (p : ℕ) (own : Vec OwnLine) → slice_get shared p ≡ Some own → AreLinesOf options p trace 0 (length trace) own.items
  shared_all shared so_far p own is = grind (arith, common_steps, append-nil own.items, none_there options p trace (length trace))
