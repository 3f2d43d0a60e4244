-- Owners take in what fronts have in hand: part by part, and front by front, the last first.
use Rattle.std.proofs.Common.{◌≡◌, ℕ, zero, suc, ◌+◌, ◌<◌, ◌≤◌, ◌⊎◌, inl, inr, List, [], ◌∷◌, ◌++◌, length, take, drop, Some, refl, sym, ap, ◌∙◌, subst, slice_get, slice_set, arith}
use Rattle.std.specs.Prelude.{sum_by}
use Rattle.std.proofs.lemmas.Bool.{cases_lt}
use Rattle.std.proofs.lemmas.List.{length-set, length_push, take_all, take-append-le}
use Rattle.std.proofs.lemmas.List.Sums.{sum_by-cons}
use Rattle.std.proofs.lemmas.Option.{slice_get_within, same_Some}
use Rattle.list_laws.proofs.Places.{element_at, set_cases}
use Rattle.partition_table.specs.Seats.{reader_state}
use Rattle.partition_model.specs.History.{History, IsPrefix}
use Rattle.owner_queue.specs.Messages.{sent_by, has_end}
use Rattle.queue_front.specs.declared.queue_front.FrontPart.{FrontPart}
use Rattle.mica_serve.specs.Hands.{OwnerEnd, MayMeet, HasMet, MeetsPart, MayMeetHand, MeetsHand, MayMeetAll, HaveMetAll, closed_by, closed_at}

-- the owners from a place on took in their parts, and those before it are as they were
pub record PartsMetFrom (from : ℕ) (parts : List FrontPart) (olds news : List OwnerEnd) : Type 0 where
  pub many : length news ≡ length olds
  pub before : (p : ℕ) (old new : OwnerEnd) → p < from → slice_get olds p ≡ Some old → slice_get news p ≡ Some new → new ≡ old
  pub met : (p : ℕ) (part : FrontPart) (old new : OwnerEnd) → from ≤ p → slice_get parts p ≡ Some part → slice_get olds p ≡ Some old → slice_get news p ≡ Some new → MeetsPart old new part

pub parts_none : (parts : List FrontPart) (owners : List OwnerEnd) → PartsMetFrom (length parts) parts owners owners
parts_none parts owners = record {
  many = refl;
  before = λ p old new less is_old is_new. cc;
  met = λ p part old new from is_part is_old is_new. let within = slice_get_within parts p part is_part in absurd (omega arith);
}

pub parts_one : (from : ℕ) (parts : List FrontPart) (olds mids : List OwnerEnd) (part : FrontPart) (mid new : OwnerEnd) → PartsMetFrom (from + 1) parts olds mids → slice_get parts from ≡ Some part
    → slice_get mids from ≡ Some mid → MeetsPart mid new part → PartsMetFrom from parts olds (slice_set mids from new)
parts_one from parts olds mids part mid new so_far is_part at meets = record {
  many = length-set mids from new ∙ so_far.many;
  before = λ p old n less is_old is_new.
      elim (set_cases mids from new p n is_new) as (λ _. n ≡ old) [
        | inl same ↦ let here = same.0 in absurd (omega arith)
        | inr other ↦ so_far.before p old n (omega arith) is_old other.1
      ];
  met = λ p s old n low is_s is_old is_new.
      elim (set_cases mids from new p n is_new) as (λ _. MeetsPart old n s) [
        | inl same ↦
            let is_s_here : slice_get parts from ≡ Some s = subst (λ (q : ℕ). slice_get parts q ≡ Some s) (sym same.0) is_s in
            let is_old_here : slice_get olds from ≡ Some old = subst (λ (q : ℕ). slice_get olds q ≡ Some old) (sym same.0) is_old in
            let one : part ≡ s = same_Some _ _ (sym is_part ∙ is_s_here) in
            let two : mid ≡ old = so_far.before from old mid (omega arith) is_old_here at in
            subst (λ (x : OwnerEnd). MeetsPart old x s) same.1 (subst (λ (x : OwnerEnd). MeetsPart x new s) two (subst (λ (x : FrontPart). MeetsPart mid new x) one meets))
        | inr other ↦ so_far.met p s old n (past p low other.0) is_s is_old other.1
      ];
}
  where
    past : (p : ℕ) → from ≤ p → (from ≡ p → ⊥) → from + 1 ≤ p
    past p low other = omega arith

pub parts_all : (parts : List FrontPart) (olds news : List OwnerEnd) → PartsMetFrom 0 parts olds news → MeetsHand olds news parts
parts_all parts olds news met = record { many = met.many; each = λ p part old new is_part is_old is_new. met.met p part old new (omega arith) is_part is_old is_new }

-- the owner that is next to take in its part may
pub part_may : (from : ℕ) (parts : List FrontPart) (olds mids : List OwnerEnd) (part : FrontPart) (mid : OwnerEnd) → MayMeetHand olds parts → PartsMetFrom (from + 1) parts olds mids
    → slice_get parts from ≡ Some part → slice_get mids from ≡ Some mid → (f : ℕ) × (length mid.acks ≡ f + 1) × MayMeet f mid part
part_may from parts olds mids part mid may so_far is at =
    let old = element_at olds from (omega (arith, slice_get_within mids from mid at, so_far.many)) in
    let same : mid ≡ old.0 = so_far.before from old.0 mid (omega arith) old.1 at in
    subst (λ (x : OwnerEnd). (f : ℕ) × (length x.acks ≡ f + 1) × MayMeet f x part) (sym same) (may.front, may.last from old.0 old.1, may.each from part old.0 is old.1)

-- the owners met the fronts from number k on
pub record FrontsMetFrom (k : ℕ) (hands : List (List FrontPart)) (olds nows : List OwnerEnd) : Type 0 where
  pub many : length nows ≡ length olds
  pub met : (f p : ℕ) (own : List FrontPart) (part : FrontPart) (old : OwnerEnd) → k ≤ f → slice_get hands f ≡ Some own → slice_get own p ≡ Some part → slice_get olds p ≡ Some old
      → HasMet f old part
  pub same : (p : ℕ) (old now : OwnerEnd) → slice_get olds p ≡ Some old → slice_get nows p ≡ Some now
      → now ≡ record old { state = record old.state { met = now.state.met; closed = old.state.closed + sum_by (closed_at p) (drop k hands) }; acks = now.acks }
  pub acks : (p : ℕ) (old now : OwnerEnd) → slice_get olds p ≡ Some old → slice_get nows p ≡ Some now → now.acks ≡ take k old.acks

drop_whole : {X : Type 0} (xs : List X) → drop (length xs) xs ≡ []
drop_whole [] = refl
drop_whole (x ∷ xs) = drop_whole xs

drop_one : {X : Type 0} (xs : List X) (k : ℕ) (x : X) → slice_get xs k ≡ Some x → drop k xs ≡ x ∷ drop (suc k) xs
drop_one [] zero x is = absurd (cc)
drop_one [] (suc k) x is = absurd (cc)
drop_one (y ∷ xs) zero x is = ap (λ z. z ∷ xs) (same_Some _ _ is)
drop_one (y ∷ xs) (suc k) x is = drop_one xs k x is

take_get : {X : Type 0} (xs : List X) (n i : ℕ) → i < n → slice_get (take n xs) i ≡ slice_get xs i
take_get [] zero i lt = refl
take_get [] (suc n) i lt = refl
take_get (x ∷ xs) zero i lt = absurd (omega arith)
take_get (x ∷ xs) (suc n) zero lt = refl
take_get (x ∷ xs) (suc n) (suc i) lt = take_get xs n i (omega arith)

take_long : {X : Type 0} (xs : List X) (n : ℕ) → n ≤ length xs → length (take n xs) ≡ n
take_long [] zero le = refl
take_long [] (suc n) le = absurd (omega arith)
take_long (x ∷ xs) zero le = refl
take_long (x ∷ xs) (suc n) le = ap suc (take_long xs n (omega arith))

one_more : (k : ℕ) → k + 1 ≡ suc k
one_more k = omega arith

-- a list that is the first ones of another, but for its last, is the first ones too
take_less : {X : Type 0} (xs ys : List X) (y : X) (k : ℕ) → take (k + 1) xs ≡ ys ++ y ∷ [] → length ys ≡ k → ys ≡ take k xs
take_less xs ys y k is long =
    sym (take_all k ys (omega arith)) ∙ sym (take-append-le k ys (y ∷ []) (omega arith)) ∙ ap (take k) (sym is ∙ ap (λ (n : ℕ). take n xs) (one_more k)) ∙ take_twice xs k
  where
    take_twice : {X : Type 0} (xs : List X) (k : ℕ) → take k (take (suc k) xs) ≡ take k xs
    take_twice [] zero = refl
    take_twice [] (suc k) = refl
    take_twice (x ∷ xs) zero = refl
    take_twice (x ∷ xs) (suc k) = ap (λ l. x ∷ l) (take_twice xs k)

pub fronts_none : (owners : List OwnerEnd) (hands : List (List FrontPart)) → MayMeetAll owners hands → FrontsMetFrom (length hands) hands owners owners
fronts_none owners hands may = record {
  many = refl;
  met = λ f p own part old low is. let within = slice_get_within hands f own is in absurd (omega arith);
  same = λ p old now is is'.
      let one : old ≡ now = same_Some _ _ (sym is ∙ is') in
      let none = ap (sum_by (closed_at p)) (drop_whole hands) in
      sym one ∙ (λ i. record old { state = record old.state { met = ap (λ (o : OwnerEnd). o.state.met) one i; closed = zero_more old.state.closed (sum_by (closed_at p) (drop (length hands) hands)) none i }; acks = ap (λ (o : OwnerEnd). o.acks) one i });
  acks = λ p old now is is'.
      let one : old ≡ now = same_Some _ _ (sym is ∙ is') in
      ap (λ (o : OwnerEnd). o.acks) (sym one) ∙ sym (take_all (length hands) old.acks (omega (arith, may.fronts p old is)));
}
  where
    zero_more : (n m : ℕ) → m ≡ 0 → n ≡ n + m
    zero_more n m none = omega arith

module _ (k : ℕ) (hands : List (List FrontPart)) (olds mids : List OwnerEnd) (own : List FrontPart) (may : MayMeetAll olds hands) (so_far : FrontsMetFrom (k + 1) hands olds mids)
    (is : slice_get hands k ≡ Some own) where
  pub hand_may : MayMeetHand mids own
  hand_may = record {
    many = may.many k own is ∙ sym so_far.many;
    front = k;
    last = λ p mid at.
        let old = element_at olds p (omega (arith, slice_get_within mids p mid at, so_far.many)) in
        ap length (so_far.acks p old.0 mid old.1 at) ∙ take_long old.0.acks (k + 1) (omega (arith, may.fronts p old.0 old.1, slice_get_within hands k own is));
    each = λ p part mid part_at at.
        let old = element_at olds p (omega (arith, slice_get_within mids p mid at, so_far.many)) in
        let m = may.each k p own part old.0 is part_at old.1 in
        let same = so_far.same p old.0 mid old.1 at in
        record {
          number = m.number;
          jobs = m.jobs ∙ sym (ap (λ (o : OwnerEnd). o.jobs.queue) same);
          ended = ap (λ (o : OwnerEnd). has_end k o.jobs.taken) same ∙ m.ended;
          acks = λ a a_at. m.acks a (sym (take_get old.0.acks (k + 1) k (omega arith)) ∙ ap (λ l. slice_get l k) (sym (so_far.acks p old.0 mid old.1 at)) ∙ a_at);
          table = m.table ∙ sym (ap (λ (o : OwnerEnd). o.table) same);
        };
  }

  pub fronts_one : (news : List OwnerEnd) → MeetsHand mids news own → FrontsMetFrom k hands olds news
  fronts_one news meets = record {
    many = meets.many ∙ so_far.many;
    met = λ f p h part old low at part_at old_at. by f p h part old at part_at old_at (cases_lt k f) low;
    same = λ p old new old_at new_at.
        let mid = element_at mids p (omega (arith, slice_get_within news p new new_at, meets.many)) in
        let part = element_at own p (omega (arith, slice_get_within news p new new_at, meets.many, so_far.many, may.many k own is)) in
        let m = meets.each p part.0 mid.0 new part.1 mid.1 new_at in
        let same = so_far.same p old mid.0 old_at mid.1 in
        let closed : mid.0.state.closed + (reader_state part.0.seat).closed ≡ old.state.closed + sum_by (closed_at p) (drop k hands) =
        omega (arith, ap (λ (o : OwnerEnd). o.state.closed) same, ap (sum_by (closed_at p)) (drop_one hands k own is ∙ ap (λ (n : ℕ). own ∷ drop n hands) (sym (one_more k))), sum_by-cons (closed_at p) own (drop (k + 1) hands), ap closed_by part.1) in
        m.same ∙ (λ i. record {
          state = record {
            shape = ap (λ (o : OwnerEnd). o.state.shape) same i;
            words = ap (λ (o : OwnerEnd). o.state.words) same i;
            history = ap (λ (o : OwnerEnd). o.state.history) same i;
            phase = ap (λ (o : OwnerEnd). o.state.phase) same i;
            met = new.state.met;
            closed = closed i;
          };
          table = ap (λ (o : OwnerEnd). o.table) same i;
          jobs = ap (λ (o : OwnerEnd). o.jobs) same i;
          acks = new.acks;
        });
    acks = λ p old new old_at new_at.
        let mid = element_at mids p (omega (arith, slice_get_within news p new new_at, meets.many)) in
        let part = element_at own p (omega (arith, slice_get_within news p new new_at, meets.many, so_far.many, may.many k own is)) in
        let m = meets.each p part.0 mid.0 new part.1 mid.1 new_at in
        take_less old.acks new.acks m.answers k (sym (so_far.acks p old mid.0 old_at mid.1) ∙ m.acks) (new_long p old mid.0 new m old_at mid.1);
  }
    where
      new_long : (p : ℕ) (old mid new : OwnerEnd) {part : FrontPart} → MeetsPart mid new part → slice_get olds p ≡ Some old → slice_get mids p ≡ Some mid → length new.acks ≡ k
      new_long p old mid new m old_at mid_at =
          let one : length mid.acks ≡ length new.acks + 1 = ap length m.acks ∙ length_push new.acks m.answers in
          let two : length mid.acks ≡ k + 1 = ap length (so_far.acks p old mid old_at mid_at)
          ∙ take_long old.acks (k + 1) (omega (arith, may.fronts p old old_at, slice_get_within hands k own is)) in
          omega (arith, one, two)

      by : (f p : ℕ) (h : List FrontPart) (part : FrontPart) (old : OwnerEnd) → slice_get hands f ≡ Some h → slice_get h p ≡ Some part → slice_get olds p ≡ Some old
          → (k < f) ⊎ (f ≤ k) → k ≤ f → HasMet f old part
      by f p h part old at part_at old_at (inl more) low = so_far.met f p h part old (omega arith) at part_at old_at
      by f p h part old at part_at old_at (inr le) low =
          let number : f ≡ k = omega arith in
          let hand : h ≡ own = same_Some _ _ (sym at ∙ ap (slice_get hands) number ∙ is) in
          let part_here : slice_get own p ≡ Some part = ap (λ l. slice_get l p) (sym hand) ∙ part_at in
          let mid = element_at mids p (omega (arith, slice_get_within olds p old old_at, so_far.many)) in
          let new = element_at news p (omega (arith, slice_get_within olds p old old_at, so_far.many, meets.many)) in
          let m = meets.each p part mid.0 new.0 part_here mid.1 new.1 in
          let same = so_far.same p old mid.0 old_at mid.1 in
          let last : length new.0.acks ≡ f = new_long p old mid.0 new.0 m old_at mid.1 ∙ sym number in
          let met = subst (λ (n : ℕ). HasMet n mid.0 part) last m.met in
          record {
            whole = sym (ap (λ (o : OwnerEnd). sent_by f o.jobs.taken) same) ∙ met.whole;
            begins = λ a a_at. met.begins a (ap (λ l. slice_get l f) (so_far.acks p old mid.0 old_at mid.1) ∙ take_get old.acks (k + 1) f (omega arith) ∙ a_at);
            seen = subst (λ (x : History). IsPrefix (reader_state part.seat).seen x) (ap (λ (o : OwnerEnd). o.state.history) same) met.seen;
          }

pub fronts_all : (owners after : List OwnerEnd) (hands : List (List FrontPart)) → FrontsMetFrom 0 hands owners after → HaveMetAll owners after hands
fronts_all owners after hands met = record {
  many = met.many;
  met = λ f p own part old at part_at old_at. met.met f p own part old (omega arith) at part_at old_at;
  same = λ p old new at at'. met.same p old new at at';
}

-- the number of the last element of a list with some
pub last_of : {X : Type 0} (xs : List X) → 0 < length xs → (n : ℕ) × (length xs ≡ n + 1)
last_of [] some = absurd (omega arith)
last_of (x ∷ xs) some = (length xs, omega arith)
