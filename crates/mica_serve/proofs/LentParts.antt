-- Owners that lend each front a part, one after another.
use Rattle.std.proofs.Common.{◌≡◌, ℕ, zero, suc, ◌+◌, ◌<◌, ◌≤◌, ◌⊎◌, inl, inr, List, [], ◌∷◌, ◌++◌, length, Some, refl, sym, ap, ◌∙◌, subst, slice_get, slice_set, arith, All}
use Rattle.std.specs.Prelude.{◌≢◌}
use Rattle.std.specs.List.{AllByRecursion}
use Rattle.std.proofs.lemmas.Bool.{cases_lt}
use Rattle.std.proofs.lemmas.List.{length-set, length_push}
use Rattle.std.proofs.lemmas.List.Elements.{All-from_recursion}
use Rattle.std.proofs.lemmas.Option.{slice_get_within, same_Some}
use Rattle.list_laws.proofs.Places.{at_last, element_at, set_cases}
use Rattle.atomic_table.specs.Seated.{TableId}
use Rattle.partition_model.specs.declared.options.Options.{Options}
use Rattle.partition_words.specs.declared.state.OwnerState.{OwnerState}
use Rattle.partition_words.specs.declared.reader.ReaderState.{ReaderState}
use Rattle.partition_words.specs.Shape.{shape_of}
use Rattle.partition_words.specs.Joins.{lent}
use Rattle.partition_table.specs.Seats.{reader_state, reader_home}
use Rattle.owner_queue.specs.JobEnds.{Outbox, outbox, Inbox}
use Rattle.owner_queue.specs.AckEnds.{AckBox, ack_box}
use Rattle.queue_front.specs.declared.queue_front.FrontPart.{FrontPart}
use Rattle.queue_front.specs.QueueFront.{IsNewPart}
use Rattle.mica_serve.specs.Hands.{OwnerEnd, IsNewOwner, IsLentBy, AreLent, LendsOneMore}
use Rattle.served.proofs.Binding.{at_snoc}

get_left : {X : Type 0} (xs : List X) (y x : X) (i : ℕ) → slice_get xs i ≡ Some x → slice_get (xs ++ y ∷ []) i ≡ Some x
get_left [] y x zero is = absurd (cc)
get_left [] y x (suc i) is = absurd (cc)
get_left (z ∷ xs) y x zero is = is
get_left (z ∷ xs) y x (suc i) is = get_left xs y x i is

abbrev owner_with : OwnerState → TableId → Inbox → List AckBox → OwnerEnd
owner_with state table jobs acks = record { state = state; table = table; jobs = jobs; acks = acks }

module _ (most : ℕ) (state : OwnerState) (table : TableId) (jobs : Inbox) where
  -- the first k fronts were lent a part
  pub record LendsTo (k : ℕ) (acks : List AckBox) (before after : List (List FrontPart)) : Type 0 where
    pub many : length after ≡ length before
    pub lent : (f : ℕ) (old new : List FrontPart) → f < k → slice_get before f ≡ Some old → slice_get after f ≡ Some new
        → (part : FrontPart) × (new ≡ old ++ part ∷ []) × IsLentBy f most (owner_with state table jobs acks) part
    pub rest : (f : ℕ) (old new : List FrontPart) → k ≤ f → slice_get before f ≡ Some old → slice_get after f ≡ Some new → new ≡ old
    pub acks_many : length acks ≡ k
    pub unsent : (f : ℕ) (a : AckBox) → slice_get acks f ≡ Some a → a ≡ ack_box a.queue table state.shape []

  pub lends_none : (before : List (List FrontPart)) → LendsTo 0 [] before before
  lends_none before = record {
    many = refl;
    lent = λ f old new lt. absurd (omega arith);
    rest = λ f old new low is is'. same_Some _ _ (sym is' ∙ is);
    acks_many = refl;
    unsent = λ f a is. absurd (none f is);
  }
    where
      none : (f : ℕ) {a : AckBox} → slice_get [] f ≡ Some a → ⊥
      none zero is = cc
      none (suc f) is = cc

  pub lends_one : (k : ℕ) (acks : List AckBox) (before between : List (List FrontPart)) (own : List FrontPart) (part : FrontPart) → LendsTo k acks before between → slice_get between k ≡ Some own
      → reader_state part.seat ≡ lent state → reader_home part.seat ≡ table → part.last ≡ 0 → part.jobs ≡ outbox jobs.queue k most [] → part.acks ≡ ack_box part.acks.queue table state.shape []
      → LendsTo (k + 1) (acks ++ part.acks ∷ []) before (slice_set between k (own ++ part ∷ []))
  lends_one k acks before between own part so_far is seat home unanswered sends answers = record {
    many = length-set between k (own ++ part ∷ []) ∙ so_far.many;
    lent = λ f old new lt old_at new_at.
        elim (set_cases between k (own ++ part ∷ []) f new new_at) as (λ _. (x : FrontPart) × (new ≡ old ++ x ∷ []) × IsLentBy f most (owner_with state table jobs (acks ++ part.acks ∷ [])) x) [
          | inl same ↦
              let here : slice_get before k ≡ Some old = subst (λ (n : ℕ). slice_get before n ≡ Some old) (sym same.0) old_at in
              let was : own ≡ old = so_far.rest k old own (omega arith) here is in (
                part,
                sym same.1 ∙ ap (λ (l : List FrontPart). l ++ part ∷ []) was,
                subst (λ (n : ℕ). IsLentBy n most (owner_with state table jobs (acks ++ part.acks ∷ [])) part) same.0 (record {
                  seat = seat;
                  table = home;
                  unanswered = unanswered;
                  jobs = sends;
                  acks = answers;
                  answers = subst (λ (n : ℕ). slice_get (acks ++ part.acks ∷ []) n ≡ Some part.acks) so_far.acks_many (at_last acks part.acks);
                }),
              )
          | inr other ↦
              let l = so_far.lent f old new (less f lt other.0) old_at other.1 in (
                l.0,
                l.1,
                record { seat = l.2.seat; table = l.2.table; unanswered = l.2.unanswered; jobs = l.2.jobs; acks = l.2.acks; answers = get_left acks part.acks l.0.acks f l.2.answers },
              )
        ];
    rest = λ f old new low old_at new_at.
        elim (set_cases between k (own ++ part ∷ []) f new new_at) as (λ _. new ≡ old) [
          | inl same ↦ let here = same.0 in absurd (omega arith)
          | inr other ↦ so_far.rest f old new (omega arith) old_at other.1
        ];
    acks_many = length_push acks part.acks ∙ ap (λ n. n + 1) so_far.acks_many;
    unsent = λ f a at.
        elim (at_snoc acks part.acks f a at) as (λ _. a ≡ ack_box a.queue table state.shape []) [
          | inl h ↦ so_far.unsent f a h.0
          | inr h ↦ subst (λ (b : AckBox). b ≡ ack_box b.queue table state.shape []) h.1 answers
        ];
  }
    where
      less : (f : ℕ) → f < k + 1 → k ≢ f → f < k
      less f lt other = elim (cases_lt f k) as (λ _. f < k) [ inl low ↦ low | inr high ↦ absurd (other (omega arith)) ]

-- hands with nothing yet
pub hands_none : (options : Options) (fronts most : ℕ) (hands : List (List FrontPart)) → length hands ≡ fronts → ((f : ℕ) (own : List FrontPart) → slice_get hands f ≡ Some own → own ≡ [])
    → AreLent options fronts most [] hands
hands_none options fronts most hands many none = record {
  many = many;
  fresh = λ p owner is. absurd (let low = slice_get_within [] p owner is in omega arith);
  each_many = λ f own is. ap length (none f own is);
  each = λ f p own part owner is is' is''. absurd (let low = slice_get_within [] p owner is'' in omega arith);
}

-- one owner more lent each front a part
pub hands_more : (options : Options) (fronts most : ℕ) (owners : List OwnerEnd) (owner : OwnerEnd) (hands after : List (List FrontPart)) → AreLent options fronts most owners hands
    → LendsOneMore options most owner hands after → AreLent options fronts most (owners ++ owner ∷ []) after
hands_more options fronts most owners owner hands after so_far one = record {
  many = one.many ∙ so_far.many;
  fresh = λ p o is.
      elim (at_snoc owners owner p o is) as (λ _. IsNewOwner options fronts most o) [
        | inl h ↦ so_far.fresh p o h.0
        | inr h ↦ subst (λ (x : OwnerEnd). IsNewOwner options fronts most x) h.1 (subst (λ (n : ℕ). IsNewOwner options n most owner) so_far.many one.made)
      ];
  each_many = λ f own is.
      let old = element_at hands f (omega (arith, slice_get_within after f own is, one.many)) in
      let l = one.each f old.0 own old.1 is in
      ap length l.1 ∙ length_push old.0 l.0 ∙ ap (λ n. n + 1) (so_far.each_many f old.0 old.1) ∙ sym (length_push owners owner);
  each = λ f p own part o is part_at o_at.
      let old = element_at hands f (omega (arith, slice_get_within after f own is, one.many)) in
      let l = one.each f old.0 own old.1 is in
      let at : slice_get (old.0 ++ l.0 ∷ []) p ≡ Some part = ap (λ (x : List FrontPart). slice_get x p) (sym l.1) ∙ part_at in
      by f p part o old.0 old.1 l.0 l.2 (at_snoc old.0 l.0 p part at) (at_snoc owners owner p o o_at);
}
  where
    by : (f p : ℕ) (part : FrontPart) (o : OwnerEnd) (old : List FrontPart) → slice_get hands f ≡ Some old → (new : FrontPart) → IsLentBy f most owner new
        → ((slice_get old p ≡ Some part) × (p < length old)) ⊎ ((p ≡ length old) × (new ≡ part))
        → ((slice_get owners p ≡ Some o) × (p < length owners)) ⊎ ((p ≡ length owners) × (owner ≡ o)) → IsLentBy f most o part
    by f p part o old old_at new lent (inl h) (inl g) = so_far.each f p old part o old_at h.0 g.0
    by f p part o old old_at new lent (inl h) (inr g) = absurd (omega (arith, h.1, g.0, so_far.each_many f old old_at))
    by f p part o old old_at new lent (inr h) (inl g) = absurd (omega (arith, h.0, g.1, so_far.each_many f old old_at))
    by f p part o old old_at new lent (inr h) (inr g) = subst (λ (x : OwnerEnd). IsLentBy f most x part) g.1 (subst (λ (x : FrontPart). IsLentBy f most owner x) h.1 lent)

-- a part that was lent is one that a front begins with
pub new_part : (options : Options) (fronts f most : ℕ) (owner : OwnerEnd) (part : FrontPart) → IsNewOwner options fronts most owner → IsLentBy f most owner part → IsNewPart options f most part
new_part options fronts f most owner part new lent =
    let shape : (reader_state part.seat).shape ≡ shape_of options = ap (λ (r : ReaderState). r.shape) lent.seat ∙ ap (λ (s : OwnerState). s.shape) new.state in
    record {
      shape = shape;
      whole = record {
        home = ap (λ (b : AckBox). b.table) lent.acks ∙ sym lent.table;
        shape = ap (λ (b : AckBox). b.shape) lent.acks ∙ sym (ap (λ (r : ReaderState). r.shape) lent.seat);
      };
      unanswered = lent.unanswered;
      fresh = lent.jobs ∙ ap (λ q. outbox q f most []) (sym (ap (λ (b : Outbox). b.queue) lent.jobs));
    }

pub new_parts : (options : Options) (fronts f most : ℕ) (owners : List OwnerEnd) (hands : List (List FrontPart)) (own : List FrontPart) → AreLent options fronts most owners hands
    → slice_get hands f ≡ Some own → All (IsNewPart options f most) own
new_parts options fronts f most owners hands own are is = All-from_recursion (IsNewPart options f most) own (each own owners (λ p part owner part_at at. (are.fresh p owner at, are.each f p own part owner is part_at at)) (are.each_many f own is))
  where
    each : (parts : List FrontPart) (os : List OwnerEnd) → ((p : ℕ) (part : FrontPart) (owner : OwnerEnd) → slice_get parts p ≡ Some part → slice_get os p ≡ Some owner
        → IsNewOwner options fronts most owner × IsLentBy f most owner part) → length parts ≡ length os → AllByRecursion (IsNewPart options f most) parts
    each [] os both many = tt
    each (part ∷ parts) [] both many = absurd (omega arith)
    each (part ∷ parts) (o ∷ os) both many = (
      let b = both 0 part o refl refl in new_part options fronts f most o part b.0 b.1,
      each parts os (λ p. both (suc p)) (omega arith),
    )
