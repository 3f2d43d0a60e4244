-- What fronts and partitions came to, once the partitions were taken back.
use Rattle.std.proofs.Common.{◌≡◌, ℕ, suc, ◌<◌, ◌≤◌, List, [], ◌∷◌, ◌++◌, length, map, Option, Some, None, refl, sym, ap, ◌∙◌, subst, slice_get, append-nil, arith}
use Rattle.std.specs.Prelude.{Result, sum_by}
use Rattle.std.specs.List.{All}
use Rattle.std.proofs.lemmas.List.{length-map}
use Rattle.std.proofs.lemmas.List.Sums.{sum_by-cons}
use Rattle.std.proofs.lemmas.List.Elements.{All-from_recursion}
use Rattle.std.proofs.lemmas.Option.{slice_get_within, same_Some}
use Rattle.list_laws.proofs.Places.{from_map, element_at}
use Rattle.partition_model.specs.History.{IsHistory, IsPrefix}
use Rattle.partition_model.specs.Run.{IsRunFrom, history_of}
use Rattle.partition_words.specs.declared.state.Phase.TheVariants.{Idle}
use Rattle.partition_table.specs.declared.tables.KeptSeat.{KeptSeat}
use Rattle.partition_table.specs.Tabled.{kept_seat_in}
use Rattle.partition_table.specs.Seats.{reader_state}
use Rattle.fronts.specs.declared.totals.Totals.{Totals}
use Rattle.fronts.specs.declared.totals.ServeFault.{ServeFault}
use Rattle.fronts.specs.Session.{Told, Session}
use Rattle.fronts.specs.Placed.{Placed, steps_in, steps_by, history_in}
use Rattle.turn_book.specs.Entries.{entries_by}
use Rattle.locked_front.specs.declared.part.LockedPart.{LockedPart}
use Rattle.locked_front.specs.Plan.{Plan}
use Rattle.locked_front.specs.Owned.{Owned, IsOwned, run_step, run_in}
use Rattle.locked_front.specs.Parts.{IsLockedFront, locked_view, turns_taken, session_or_none}
use Rattle.locked_front.specs.Returned.{placed_in}
use Rattle.locked_front.proofs.Ending.{steps_in_run, steps_of_entries, low_fronts}
use Rattle.served.specs.Beside.{total_below, RunsPartitions, HaveShapes}
use Rattle.served.specs.FrontRuns.{IsTakenIn}
use Rattle.served.proofs.JobCounts.{total_few}
use Rattle.locked_server.specs.Opening.{AreNewParts, AreNewHands}
use Rattle.locked_server.specs.Running.{run_of}
use Rattle.locked_server.specs.Taking.{AreHands, AreTakenBack, MayTakeHands, TakesHands}
use Rattle.locked_server.proofs.Taken.{TookFrom, Stays, closed_at, stays_all, took_from}

-- what a front tells of a part
abbrev told_of : LockedPart → Told
told_of part = record {
  steps = map run_step part.taker.mine;
  tried = (reader_state part.seat).tried;
  failed = length (reader_state part.seat).fails;
  closed = (reader_state part.seat).closed;
}

-- nothing was taken of new parts
pub none_taken : (parts : List LockedPart) → ((p : ℕ) (part : LockedPart) → slice_get parts p ≡ Some part → part.taker.mine ≡ []) → turns_taken parts ≡ 0
none_taken [] none = refl
none_taken (part ∷ parts) none =
    omega (arith, sum_by-cons (λ (x : LockedPart). length x.taker.mine) part parts, ap length (none 0 part refl), none_taken parts (λ p. none (suc p)))

-- What the fronts had when they were opened and have after they ran, and the partitions as they were taken back and after they took in all of that.
pub record HaveRan (plan : Plan) (olds news : List (List LockedPart)) (lefts afters : List Owned) : Type 0 where
  pub some : 1 ≤ length news
  pub filled : (p : ℕ) → p < plan.options.partitions → IsHistory plan.options (plan.origin p)
  pub opened : AreNewHands plan 0 plan.fronts olds
  pub same : length news ≡ length olds
  pub are : AreHands plan news
  pub many : length lefts ≡ plan.options.partitions
  pub back : AreTakenBack plan lefts
  pub took : TakesHands lefts afters news

abbrev placed_at : Option Owned → List Placed
placed_at None = []
placed_at (Some left) = placed_in left.book.entries

module _ {plan : Plan} {olds news : List (List LockedPart)} {lefts afters : List Owned} (all : HaveRan plan olds news lefts afters) where
  -- the run of each partition
  abbrev pub placed : ℕ → List Placed
  placed p = placed_at (slice_get lefts p)

  -- what a front had, at its place
  pub record HandAt (f : ℕ) (new : List LockedPart) : Type 0 where
    pub old : List LockedPart
    pub at : slice_get news f ≡ Some new
    pub old_at : slice_get olds f ≡ Some old
    pub fresh : AreNewParts plan f old

  pub hand_at : (f : ℕ) (new : List LockedPart) → slice_get news f ≡ Some new → HandAt f new
  hand_at f new at =
      let low = slice_get_within news f new at in
      let old = element_at olds f (omega (arith, low, all.same)) in
      record { old = old.0; at = at; old_at = old.1; fresh = subst (λ n. AreNewParts plan n old.0) (omega arith) (all.opened.each f old.0 old.1) }

  -- the partition at a place
  record LeftAt (p : ℕ) (left : Owned) : Type 0 where
    pub at : slice_get lefts p ≡ Some left
    pub number : left.number ≡ p
    pub is : IsOwned plan left
    pub placed_is : placed p ≡ placed_in left.book.entries

  left_at : (p : ℕ) (left : Owned) → slice_get lefts p ≡ Some left → LeftAt p left
  left_at p left at = let b = all.back.each p left at in record { at = at; number = b.0; is = b.1; placed_is = ap placed_at at }

  left_of : (p : ℕ) → p < plan.options.partitions → (left : Owned) × LeftAt p left
  left_of p low = let l = element_at lefts p (omega (arith, low, all.many)) in (l.0, left_at p l.0 l.1)

  -- its history is its run
  history_run : {p : ℕ} {left : Owned} → LeftAt p left → left.owner.history ≡ plan.origin p ++ history_in (placed p)
  history_run {p} {left} l =
      l.is.history ∙ (λ i. plan.origin (l.number i) ++ history_of (sym (steps_in_run left.book.entries) i)) ∙ ap (λ (q : List Placed). plan.origin p ++ history_in q) (sym l.placed_is)

  pub taken_hand : {f : ℕ} {new : List LockedPart} (a : HandAt f new) (answer : Result Totals ServeFault) → IsTakenIn plan.options plan.origin placed f (run_of a.old answer new)
  taken_hand {f} {new} a answer = record {
    starts = λ p low.
        let o = old_part p low in
        let part = a.fresh.each p o.0 o.1 in
        (told_of o.0, ap (λ x. (session_or_none x).told) o.1, record { steps = ap (map run_step) part.none; closed = part.closed });
    began = λ p low. let o = old_part p low in ap (λ x. (session_or_none x).seen) o.1 ∙ (a.fresh.each p o.0 o.1).seen;
    seen = λ p low.
        let x = new_part p low in
        let l = left_of p low in
        subst (λ (s : Session). IsPrefix s.seen (plan.origin p ++ history_in (placed p))) (sym (ap session_or_none x.1))
        (subst (IsPrefix (reader_state x.0.seat).seen) (history_run l.1) (from x.0 p l.0 x.1 l.1.at).seen);
    took = λ p told low told_is.
        let x = new_part p low in
        let l = left_of p low in
        let same : told_of x.0 ≡ told = same_Some _ _ (sym (ap (λ y. (session_or_none y).told) x.1) ∙ told_is) in
        ([], own_steps p x.0 l.0 x.1 l.1 ∙ ap (λ (t : Told). t.steps) same ∙ sym (append-nil told.steps));
    sent =
        let total = subst (λ m. total_below m (λ p. length (steps_by f (placed p))) ≤ turns_taken new) is.many
        (total_few (λ p. length (steps_by f (placed p))) (λ (x : LockedPart). length x.taker.mine) new (λ p x at.
        let l = left_of p (omega (arith, slice_get_within new p x at, is.many)) in
        let same = ap length (own_steps p x l.0 at l.1) ∙ length-map x.taker.mine run_step in
        omega arith)) in
        let none = none_taken a.old (λ p x at. (a.fresh.each p x at).none) in
        let law = is.few in
        omega (arith, total, none, law);
  }
    where
      is : IsLockedFront plan (locked_view plan.options f new)
      is = all.are f new a.at

      old_part : (p : ℕ) → p < plan.options.partitions → (part : LockedPart) × (slice_get a.old p ≡ Some part)
      old_part p low = element_at a.old p (omega (arith, low, a.fresh.many))

      new_part : (p : ℕ) → p < plan.options.partitions → (part : LockedPart) × (slice_get new p ≡ Some part)
      new_part p low = element_at new p (omega (arith, low, is.many))

      from : (x : LockedPart) (p : ℕ) (left : Owned) → slice_get new p ≡ Some x → slice_get lefts p ≡ Some left → TookFrom left x
      from x p left at at' = took_from lefts afters news all.took f p new x left a.at at at'

      own_steps : (p : ℕ) (x : LockedPart) (left : Owned) → slice_get new p ≡ Some x → LeftAt p left → steps_by f (placed p) ≡ map run_step x.taker.mine
      own_steps p x left at l =
          ap (steps_by f) l.placed_is ∙ steps_of_entries f left.book.entries
          ∙ ap (λ m. map run_step (entries_by m left.book.entries)) (sym (is.each p x at).taker) ∙ ap (map run_step) (from x p left at l.at).own

  abbrev pub kept : List KeptSeat
  kept = map (λ (v : Owned). kept_seat_in v.owner) afters

  afters_long : length afters ≡ plan.options.partitions
  afters_long = long lefts afters news all.took ∙ all.many
    where
      long : (xs ys : List Owned) (hands : List (List LockedPart)) → TakesHands xs ys hands → length ys ≡ length xs
      long xs ys [] took = ap length took
      long xs ys (hand ∷ hands) took = long took.0 ys hands took.2 ∙ took.1.many

  -- a partition with what it was when it was taken back
  after_at : (p : ℕ) (after : Owned) → slice_get afters p ≡ Some after → (left : Owned) × LeftAt p left × Stays left after (sum_by (closed_at p) news)
  after_at p after at =
      let l = left_of p (omega (arith, slice_get_within afters p after at, afters_long)) in
      (l.0, l.1, stays_all lefts afters news all.took p l.0 after l.1.at at)

  kept_at : (p : ℕ) (entry : KeptSeat) → slice_get kept p ≡ Some entry
      → (after : Owned) × (left : Owned) × LeftAt p left × Stays left after (sum_by (closed_at p) news) × (kept_seat_in after.owner ≡ entry)
  kept_at p entry at =
      let after = from_map (λ (v : Owned). kept_seat_in v.owner) afters p entry at in
      let l = after_at p after.0 after.1 in
      (after.0, l.0, l.1, l.2, after.2)

  pub idle : (p : ℕ) (after : Owned) → slice_get afters p ≡ Some after → after.owner.phase ≡ Idle
  idle p after at = let l = after_at p after at in ap (λ (v : Owned). v.owner.phase) l.2.is ∙ l.1.is.idle

  -- each partition's machine ran on the fronts' writes alone
  pub runs_all : RunsPartitions plan.options plan.origin plan.fronts placed
  runs_all = record {
    filled = all.filled;
    run = λ p low.
        let l = left_of p low in
        subst (λ (q : List Placed). IsRunFrom plan.options (plan.origin p) (steps_in q)) (sym l.1.placed_is)
        (subst (IsRunFrom plan.options (plan.origin p)) (sym (steps_in_run l.0.book.entries))
        (subst (λ q. IsRunFrom plan.options (plan.origin q) (run_in l.0.book.entries)) l.1.number l.1.is.run));
    no_others = λ p low.
        let l = left_of p low in
        let n = element_at news 0 (omega (arith, all.some)) in
        let x = element_at n.0 p (omega (arith, low, (all.are 0 n.0 n.1).many)) in
        let from = took_from lefts afters news all.took 0 p n.0 x.0 l.0 n.1 x.1 l.1.at in
        subst (λ (q : List Placed). All (λ s. s.front < plan.fronts) q) (sym l.1.placed_is)
        (All-from_recursion (λ s. s.front < plan.fronts) (placed_in l.0.book.entries)
        (low_fronts plan.fronts l.0.book.entries (λ f high. from.no_others f (omega (arith, high, l.1.is.fronts)))));
  }

  pub shapes : HaveShapes plan.options kept
  shapes = record {
    many = length-map afters (λ (v : Owned). kept_seat_in v.owner) ∙ afters_long;
    shapes = λ p entry at. let k = kept_at p entry at in sym (ap (λ (e : KeptSeat). e.shape) k.4) ∙ ap (λ (v : Owned). v.owner.shape) k.3.is ∙ k.2.is.shape;
  }

  pub histories : (p : ℕ) (entry : KeptSeat) → slice_get kept p ≡ Some entry → entry.history ≡ plan.origin p ++ history_in (placed p)
  histories p entry at = let k = kept_at p entry at in sym (ap (λ (e : KeptSeat). e.history) k.4) ∙ ap (λ (v : Owned). v.owner.history) k.3.is ∙ history_run k.2

  pub closes : (p : ℕ) (entry : KeptSeat) → slice_get kept p ≡ Some entry → entry.closed ≡ sum_by (closed_at p) news
  closes p entry at = let k = kept_at p entry at in omega (arith, ap (λ (e : KeptSeat). e.closed) k.4, ap (λ (v : Owned). v.owner.closed) k.3.is, k.2.is.closed)

-- what the fronts have in hand may be taken in
module _ (plan : Plan) (news : List (List LockedPart)) (lefts : List Owned) (are : AreHands plan news) (many : length lefts ≡ plan.options.partitions) (back : AreTakenBack plan lefts) where
  pub may_take : MayTakeHands lefts news
  may_take f parts at =
      let front = are f parts at in
      record {
        many = front.many ∙ sym many;
        numbered = λ p left left_at. (back.each p left left_at).0;
        each = λ p left part left_at part_at.
            let b = back.each p left left_at in
            let of = front.each p part part_at in
            record { home = of.home ∙ sym (b.1.home ∙ ap plan.homes b.0); book = of.book ∙ sym (b.1.book ∙ ap plan.books b.0) };
      }
