-- Seats lent by each owner in turn, and seats that meet their owners.
use Rattle.std.proofs.Common.{◌≡◌, ℕ, ◌+◌, ◌<◌, ◌≤◌, inl, inr, List, [], ◌∷◌, ◌++◌, length, map, take, get_or, slice_get, slice_set, Some, refl, sym, ap, ◌∙◌, subst, arith}
use Rattle.std.specs.Prelude.{option_map}
use Rattle.std.proofs.lemmas.List.{map-set, map-append, length-map, length-set, take_more}
use Rattle.std.proofs.lemmas.Option.{slice_get_read, slice_get-map, slice_get_within, get_or_from_slice_get, same_Some}
use Rattle.list_laws.proofs.Places.{popped, element_at, set_cases, set_same}
use Rattle.atomic_table.specs.Seated.{TableId}
use Rattle.partition_model.specs.History.{History, IsPrefix}
use Rattle.partition_words.specs.declared.state.OwnerState.{OwnerState}
use Rattle.partition_words.specs.Kept.{Kept}
use Rattle.partition_words.specs.declared.reader.ReaderState.{ReaderState}
use Rattle.partition_words.specs.Joins.{met_by}
use Rattle.mica_replay.specs.Lending.{OwnerPart, MeetsSeat}

module _ {X Y : Type 0} (f : X → Y) where
  -- an element that is seen as before leaves the list as it is seen
  pub seen_same : (items : List X) (p : ℕ) (old new : X) (was : List Y) → map f items ≡ was → p < length items → old ≡ get_or items p old → f new ≡ f old → map f (slice_set items p new) ≡ was
  seen_same items p old new was same less is seen =
      let at : slice_get (map f items) p ≡ Some (f old) = slice_get-map f items p ∙ ap (option_map f) (slice_get_read items (length items) p old refl less is) in
      map-set f items p new ∙ ap (slice_set (map f items) p) seen ∙ set_same (map f items) p (f old) at ∙ same

  -- one more of what the elements give
  pub one_lent : {S Z : Type 0} (h : S → Z) (k : Y → Z) (items : List X) (seats : List S) (p : ℕ) (old : X) (seat : S) (was : List Y) → map f items ≡ was → p < length items → old ≡ get_or items p old
      → map h seats ≡ take p (map k was) → h seat ≡ k (f old) → map h (seats ++ seat ∷ []) ≡ take (p + 1) (map k was)
  one_lent h k items seats p old seat was same less is so_far gives =
      let at : slice_get was p ≡ Some (f old) = ap (λ ys. slice_get ys p) (sym same) ∙ slice_get-map f items p ∙ ap (option_map f) (slice_get_read items (length items) p old refl less is) in
      let at_k : slice_get (map k was) p ≡ Some (k (f old)) = slice_get-map k was p ∙ ap (option_map k) at in
      let within = slice_get_within (map k was) p (k (f old)) at_k in
      map-append h seats (seat ∷ [])
      ∙ ap (λ zs. zs ++ h seat ∷ []) so_far
      ∙ ap (λ z. take p (map k was) ++ z ∷ []) (gives ∙ sym (get_or_from_slice_get (map k was) p (k (f old)) (h seat) at_k))
      ∙ sym (take_more (map k was) p (h seat) within)

-- the owners from a place on have met their seats, and those before it are as they were
pub record MetFrom (from : ℕ) (seats : List ReaderState) (olds news : List OwnerPart) : Type 0 where
  pub many : length news ≡ length olds
  pub before : (p : ℕ) (old new : OwnerPart) → p < from → slice_get olds p ≡ Some old → slice_get news p ≡ Some new → new ≡ old
  pub met : (p : ℕ) (seat : ReaderState) (old new : OwnerPart) → from ≤ p → slice_get seats p ≡ Some seat → slice_get olds p ≡ Some old → slice_get news p ≡ Some new → MeetsSeat seat old new

pub met_one : (from : ℕ) (seats : List ReaderState) (olds mids : List OwnerPart) (seat : ReaderState) (mid new : OwnerPart) → MetFrom (from + 1) seats olds mids → slice_get seats from ≡ Some seat → slice_get mids from ≡ Some mid
    → MeetsSeat seat mid new → MetFrom from seats olds (slice_set mids from new)
met_one from seats olds mids seat mid new so_far is_seat at meets = record {
  many = length-set mids from new ∙ so_far.many;
  before = λ p old n less is_old is_new.
      elim (set_cases mids from new p n is_new) as (λ _. n ≡ old) [
        | inl same ↦ let here = same.0 in absurd (omega arith)
        | inr other ↦ so_far.before p old n (omega arith) is_old other.1
      ];
  met = λ p s old n low is_s is_old is_new.
      elim (set_cases mids from new p n is_new) as (λ _. MeetsSeat s old n) [
        | inl same ↦
            let is_s_here : slice_get seats from ≡ Some s = subst (λ (q : ℕ). slice_get seats q ≡ Some s) (sym same.0) is_s in
            let is_old_here : slice_get olds from ≡ Some old = subst (λ (q : ℕ). slice_get olds q ≡ Some old) (sym same.0) is_old in
            let one : seat ≡ s = same_Some _ _ (sym is_seat ∙ is_s_here) in
            let two : mid ≡ old = so_far.before from old mid (omega arith) is_old_here at in
            subst (λ (x : OwnerPart). MeetsSeat s old x) same.1 (subst (λ (x : OwnerPart). MeetsSeat s x new) two (subst (λ (x : ReaderState). MeetsSeat x mid new) one meets))
        | inr other ↦ so_far.met p s old n (past p low other.0) is_s is_old other.1
      ];
}
  where
    past : (p : ℕ) → from ≤ p → (from ≡ p → ⊥) → from + 1 ≤ p
    past p low other = omega arith

-- the table of a place, where seats and owners have the same tables
pub table_at : {S X T : Type 0} (h : S → T) (k : X → T) (seats : List S) (items : List X) (p : ℕ) (seat : S) (item : X) → map h seats ≡ map k items → slice_get seats p ≡ Some seat → slice_get items p ≡ Some item → h seat ≡ k item
table_at h k seats items p seat item same is_seat is_item =
    same_Some _ _ (sym (slice_get-map h seats p ∙ ap (option_map h) is_seat) ∙ ap (λ ts. slice_get ts p) same ∙ (slice_get-map k items p ∙ ap (option_map k) is_item))

pub meets_by : (old new : OwnerPart) (r : ReaderState) → new.state ≡ met_by old.state r → Kept new.state → new.table ≡ old.table → new.worker ≡ old.worker → new.done ≡ old.done → MeetsSeat r old new
meets_by old new r met kept table worker done = record {
  shape = ap (λ (o : OwnerState). o.shape) met;
  history = ap (λ (o : OwnerState). o.history) met;
  phase = ap (λ (o : OwnerState). o.phase) met;
  closed = ap (λ (o : OwnerState). o.closed) met;
  seen = subst (λ (h : History). IsPrefix h new.state.history) (ap (λ (o : OwnerState). o.met.seen) met) kept.met_seen;
  table = table;
  worker = worker;
  done = done;
}

-- One meeting: the last of the seats that are left is popped, and its owner is at the same place.
module _ {S X : Type 0} (r : S → ReaderState) (h : S → TableId) (f : X → OwnerPart) (all now rest : List S) (first items : List X) (seat : S) (old : X)
    (same : map h all ≡ map (λ w. w.table) (map f first)) (front : now ≡ take (length now) all) (is : now ≡ rest ++ seat ∷ [])
    (met : MetFrom (length now) (map r all) (map f first) (map f items)) (here : old ≡ get_or items (length rest) old) where
  it : (rest ≡ take (length rest) all) × (slice_get all (length rest) ≡ Some seat) × (length now ≡ length rest + 1)
  it = popped all now rest seat front is

  within : length rest < length items
  within =
      let at = slice_get_within all (length rest) seat it.1 in
      let one = ap length same in
      let two = length-map all h in
      let three = length-map (map f first) (λ (w : OwnerPart). w.table) in
      let four = met.many in
      let five = length-map items f in
      omega arith

  at_now : slice_get (map f items) (length rest) ≡ Some (f old)
  at_now = slice_get-map f items (length rest) ∙ ap (option_map f) (slice_get_read items (length items) (length rest) old refl within here)

  pub meets_table : h seat ≡ (f old).table
  meets_table =
      let many = met.many in
      let five = length-map items f in
      let low = within in
      let was = element_at (map f first) (length rest) (omega arith) in
      let count = it.2 in
      let same_work : f old ≡ was.0 = met.before (length rest) was.0 (f old) (omega arith) was.1 at_now in
      table_at h (λ (w : OwnerPart). w.table) all (map f first) (length rest) seat was.0 same it.1 was.1 ∙ ap (λ (w : OwnerPart). w.table) (sym same_work)

  pub meets_one : (new : X) → MeetsSeat (r seat) (f old) (f new) → (rest ≡ take (length rest) all) × MetFrom (length rest) (map r all) (map f first) (map f (slice_set items (length rest) new))
  meets_one new meets =
      let is_seat : slice_get (map r all) (length rest) ≡ Some (r seat) = slice_get-map r all (length rest) ∙ ap (option_map r) it.1 in (
        it.0,
        subst (MetFrom (length rest) (map r all) (map f first)) (sym (map-set f items (length rest) new))
            (met_one (length rest) (map r all) (map f first) (map f items) (r seat) (f old) (f new) (subst (λ (n : ℕ). MetFrom n (map r all) (map f first) (map f items)) it.2 met) is_seat at_now meets),
      )
