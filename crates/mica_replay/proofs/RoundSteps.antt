-- A round from the lending of its seats to the last meeting.
use Rattle.std.proofs.Common.{◌≡◌, ℕ, zero, suc, ◌+◌, ◌<◌, ◌≤◌, ◌^◌, List, [], ◌∷◌, ◌++◌, length, map, get_or, slice_get, slice_set, slice_index_or, Option, Some, refl, sym, ap, ◌∙◌, subst, arith, All, IfSome, Result, Ok, Err, OnErr, ◌==◌, ◌≢◌, true, false, eq-eqb, eqb-true, true≢false}
use Rattle.std.specs.Prelude.{option_map, option_and_then}
use Rattle.std.proofs.lemmas.List.{map-set, length-map}
use Rattle.std.proofs.lemmas.Option.{slice_get_read, slice_get-map, slice_get_within, get_or_from_slice_get, same_Some}
use Rattle.list_laws.proofs.Places.{from_map, element_at}
use Rattle.list_laws.proofs.UpTo.{UpTo, up_one}
use Rattle.atomic_table.specs.Seated.{TableId}
use Rattle.partition_model.specs.declared.options.Options.{Options}
use Rattle.partition_model.specs.declared.write.Write.{Write}
use Rattle.mica_trace.specs.declared.line.TraceLine.{TraceLine}
use Rattle.mica_trace.specs.declared.report.Line.{Line}
use Rattle.partition_words.specs.declared.reader.ReaderState.{ReaderState}
use Rattle.mica_replay.specs.declared.worker.OwnerWork.{OwnerWork}
use Rattle.mica_replay.specs.declared.worker.ReaderWork.{ReaderWork}
use Rattle.partition_model.specs.History.{IsPrefix}
use Rattle.partition_words.specs.declared.state.OwnerState.{OwnerState}
use Rattle.mica_replay.specs.Each.{Each}
use Rattle.mica_replay.specs.LineNumbers.{lines_at, NamesGet}
use Rattle.mica_replay.specs.ReaderGets.{AreSeatsOf, HaveRead}
use Rattle.mica_replay.specs.Workers.{IsReadyReader, ReaderRan, ReadersRan}
use Rattle.mica_replay.specs.Between.{seat_of, closed_of, sum_to}
use Rattle.mica_replay.specs.Lending.{OwnerPart, owner_part, lent_part, table_in, HaveMet}
use Rattle.mica_replay.specs.RoundRun.{ReaderPart, reader_part, AreReady, HasRunWrites, HasMetReaders, HasRunRound}

pub up_all : {X : Type 0} (R : X → X → Type 0) (n : ℕ) (olds news : List X) → length news ≤ n → UpTo R n olds news → Each (λ (_ : ℕ). R) olds news
up_all R n olds news all so_far = record {
  many = so_far.many;
  each = λ i old new is_old is_new. let less = slice_get_within news i new is_new in so_far.done i old new (omega arith) is_old is_new;
}

-- an element of a list that is seen through a function
pub seen_at : {X Y : Type 0} (f : X → Y) (items : List X) (n : ℕ) (x : X) → n < length items → x ≡ get_or items n x → slice_get (map f items) n ≡ Some (f x)
seen_at f items n x less is = slice_get-map f items n ∙ ap (option_map f) (slice_get_read items (length items) n x refl less is)

-- as many elements as there are seen
pub seen_many : {X Y : Type 0} (f : X → Y) (olds news : List X) → length (map f news) ≡ length (map f olds) → length news ≡ length olds
seen_many f olds news same = sym (length-map news f) ∙ same ∙ length-map olds f

pub up_seen : {X Y : Type 0} (f : X → Y) (R : Y → Y → Type 0) (olds : List Y) (items : List X) (q : ℕ) (old new : X) → UpTo R q olds (map f items) → q < length items → old ≡ get_or items q old
    → R (f old) (f new) → UpTo R (q + 1) olds (map f (slice_set items q new))
up_seen f R olds items q old new so_far less is one =
    subst (UpTo R (q + 1) olds) (sym (map-set f items q new)) (up_one R q olds (map f items) (f old) (f new) so_far (seen_at f items q old less is) one)

-- an element behind the first q is as it was
pub not_yet : {X Y : Type 0} (f : X → Y) (R : Y → Y → Type 0) (olds : List Y) (items : List X) (q : ℕ) (old : X) → UpTo R q olds (map f items) → q < length items → old ≡ get_or items q old → slice_get olds q ≡ Some (f old)
not_yet f R olds items q old so_far less is =
    let many = so_far.many in
    let long = length-map items f in
    let first = element_at olds q (omega arith) in
    let same : f old ≡ first.0 = so_far.later q first.0 (f old) (omega arith) first.1 (seen_at f items q old less is) in
    first.1 ∙ ap (λ y. Some y) (sym same)

pub none_seen : {X Y : Type 0} (f : X → Y) (items : List X) → map f items ≡ [] → items ≡ []
none_seen f [] is = refl
none_seen f (x ∷ xs) is = absurd (cc)

-- what each element keeps, all keep
pub same_map : {X Y : Type 0} (f : X → Y) (xs ys : List X) → length ys ≡ length xs → ((n : ℕ) (x y : X) → slice_get xs n ≡ Some x → slice_get ys n ≡ Some y → f y ≡ f x) → map f ys ≡ map f xs
same_map f [] [] many each = refl
same_map f [] (y ∷ ys) many each = absurd (omega arith)
same_map f (x ∷ xs) [] many each = absurd (omega arith)
same_map f (x ∷ xs) (y ∷ ys) many each = ap (λ z. z ∷ map f ys) (each 0 x y refl refl) ∙ ap (λ zs. f x ∷ zs) (same_map f xs ys (omega arith) (λ n a b is_a is_b. each (suc n) a b is_a is_b))

-- what holds at each place, read with any element for the places outside, holds of the elements
pub at_each : {X : Type 0} (R : X → X → Type 0) (xs ys : List X) → length ys ≡ length xs → ((i : ℕ) (d : X) → i < length xs → R (slice_index_or xs i d) (slice_index_or ys i d))
    → (n : ℕ) (x y : X) → slice_get xs n ≡ Some x → slice_get ys n ≡ Some y → R x y
at_each {X = X} R xs ys many each n x y is_x is_y =
    let less = slice_get_within xs n x is_x in
    let one = each n x less in
    subst (λ (z : X). R x z) (get_or_from_slice_get ys n y x is_y) (subst (λ (z : X). R z (slice_index_or ys n x)) (get_or_from_slice_get xs n x x is_x) one)

-- a reader that has been lent seats
pub record IsLent (owner_parts : List OwnerPart) (old new : ReaderPart) : Type 0 where
  pub seats : new.seats ≡ map lent_part owner_parts
  pub tables : new.tables ≡ map table_in owner_parts
  pub worker : new.worker ≡ old.worker
  pub gets : new.gets ≡ old.gets

-- a reader that has given them back
pub record HasLeft (old new : ReaderPart) : Type 0 where
  pub seats : new.seats ≡ []
  pub worker : new.worker ≡ old.worker
  pub gets : new.gets ≡ old.gets
  pub found : new.found ≡ old.found

-- an owner that has met the seats of the first q readers
pub record MetTo (q : ℕ) (seats : List (List ReaderState)) (p : ℕ) (ran new : OwnerPart) : Type 0 where
  pub shape : new.state.shape ≡ ran.state.shape
  pub history : new.state.history ≡ ran.state.history
  pub phase : new.state.phase ≡ ran.state.phase
  pub closed : new.state.closed ≡ ran.state.closed + sum_to q (λ i. closed_of (seat_of seats i p))
  pub seen : (i : ℕ) (seat : ReaderState) → i < q → seat_of seats i p ≡ Some seat → IsPrefix seat.seen new.state.history
  pub table : new.table ≡ ran.table
  pub worker : new.worker ≡ ran.worker
  pub done : new.done ≡ ran.done

pub record HaveMetTo (q : ℕ) (seats : List (List ReaderState)) (ran_owners news : List OwnerPart) : Type 0 where
  pub many : length news ≡ length ran_owners
  pub each : (p : ℕ) (ran new : OwnerPart) → slice_get ran_owners p ≡ Some ran → slice_get news p ≡ Some new → MetTo q seats p ran new

-- a reader's seat of a partition
seat_is : (seats : List (List ReaderState)) (q p : ℕ) (own : List ReaderState) → slice_get seats q ≡ Some own → seat_of seats q p ≡ slice_get own p
seat_is seats q p own is = ap (λ o. option_and_then (λ l. slice_get l p) o) is

pub met_more : (q : ℕ) (seats : List (List ReaderState)) (ran_owners mids news : List OwnerPart) (own : List ReaderState) → HaveMetTo q seats ran_owners mids → slice_get seats q ≡ Some own → length own ≡ length ran_owners
    → HaveMet own mids news → HaveMetTo (q + 1) seats ran_owners news
met_more q seats ran_owners mids news own so_far is_his full met = record {
  many = met.many ∙ so_far.many;
  each = λ p ran new is_ran is_new.
      let one = so_far.many in
      let two = met.many in
      let less = slice_get_within ran_owners p ran is_ran in
      let mid = element_at mids p (omega arith) in
      let seat = element_at own p (omega arith) in
      let was = so_far.each p ran mid.0 is_ran mid.1 in
      let now = met.each p seat.0 mid.0 new seat.1 mid.1 is_new in
      let here : seat_of seats q p ≡ Some seat.0 = seat_is seats q p own is_his ∙ seat.1 in
      let count : closed_of (seat_of seats q p) ≡ seat.0.closed = ap closed_of here in
      let next : sum_to (q + 1) (λ i. closed_of (seat_of seats i p)) ≡ closed_of (seat_of seats q p) + sum_to q (λ i. closed_of (seat_of seats i p)) = ap (λ n. sum_to n (λ i. closed_of (seat_of seats i p))) (plus_one q) in
      let same_history : mid.0.state.history ≡ new.state.history = sym now.history in
      record {
        shape = now.shape ∙ was.shape;
        history = now.history ∙ was.history;
        phase = now.phase ∙ was.phase;
        closed = now.closed ∙ (let a = was.closed in omega arith);
        seen = λ i s below is.
            elim (i == q) as (λ b. (i == q) ≡ b → IsPrefix s.seen new.state.history) [
              | true ↦ λ e.
                  let at : i ≡ q = eqb-true i q e in
                  let is_here : seat_of seats q p ≡ Some s = subst (λ (n : ℕ). seat_of seats n p ≡ Some s) at is in
                  subst (λ (x : ReaderState). IsPrefix x.seen new.state.history) (same_Some _ _ (sym here ∙ is_here)) now.seen
              | false ↦ λ e.
                  let other : i ≢ q = λ same. absurd (true≢false (sym (eq-eqb i q same) ∙ e)) in
                  subst (IsPrefix s.seen) same_history (was.seen i s (under i other below) is)
            ] refl;
        table = now.table ∙ was.table;
        worker = now.worker ∙ was.worker;
        done = now.done ∙ was.done;
      };
}
  where
    plus_one : (n : ℕ) → n + 1 ≡ suc n
    plus_one n = omega arith

    under : (i : ℕ) → i ≢ q → i < q + 1 → i < q
    under i other below = omega arith

pub met_everybody : (seats : List (List ReaderState)) (n : ℕ) (ran_owners news : List OwnerPart) → length seats ≡ n → HaveMetTo n seats ran_owners news → (p : ℕ) (ran new : OwnerPart) → slice_get ran_owners p ≡ Some ran → slice_get news p ≡ Some new
    → HasMetReaders n seats p ran new
met_everybody seats n ran_owners news many met p ran new is_ran is_new =
    let it = met.each p ran new is_ran is_new in
    record {
      met = record {
        shape = it.shape;
        history = it.history;
        phase = it.phase;
        closed = it.closed;
        seen = λ q seat is. it.seen q seat (let low = seat_within seats q p seat is in omega arith) is;
      };
      table = it.table;
      worker = it.worker;
      done = it.done;
    }
  where
    seat_within : (seats : List (List ReaderState)) (q p : ℕ) (seat : ReaderState) → seat_of seats q p ≡ Some seat → q < length seats
    seat_within [] q p seat is = absurd (cc)
    seat_within (own ∷ seats) zero p seat is = omega arith
    seat_within (own ∷ seats) (suc q) p seat is = let rest = seat_within seats q p seat is in omega arith

-- Owners and readers as they lie in memory, of which contracts see owner_parts and reader_parts

-- a reader with seats of these tables that has answered
record HasAnswered (trace : List TraceLine) (options : Options) (owner_parts : List OwnerPart) (old mid : ReaderPart) : Type 0 where
  many : length mid.seats ≡ length owner_parts
  tables : mid.tables ≡ map table_in owner_parts
  worker : mid.worker ≡ old.worker
  gets : mid.gets ≡ old.gets
  read : IfSome mid.found (λ lines. HaveRead options (lines_at trace old.gets) lines (map lent_part owner_parts) mid.seats)

module _ {P R : Type 0} (owner : P → OwnerState) (home : P → TableId) (reader : R → ReaderState) (at : R → TableId) (trace : List TraceLine) (options : Options)
    (owner_parts : List OwnerPart) (reader_parts : List ReaderPart) (ready : AreReady trace options owner_parts reader_parts) where
  abbrev f : OwnerWork P → OwnerPart
  f w = owner_part owner home w

  abbrev t : ReaderWork R → ReaderPart
  t r = reader_part reader at r

  pub lends_none : (readers : List (ReaderWork R)) (q : ℕ) (old : ReaderWork R) → UpTo (IsLent owner_parts) q reader_parts (map t readers) → q < length readers → old ≡ get_or readers q old → old.seats.items ≡ []
  lends_none readers q old so_far less is =
      let many = so_far.many in
      let long = length-map readers t in
      let first = element_at reader_parts q (omega arith) in
      let here = seen_at t readers q old less is in
      let same : t old ≡ first.0 = so_far.later q first.0 (t old) (omega arith) first.1 here in
      none_seen reader old.seats.items (ap (λ (x : ReaderPart). x.seats) same ∙ (ready.each_reader q first.0 first.1).seats)

  pub lends_one : (readers : List (ReaderWork R)) (q : ℕ) (old new : ReaderWork R) → UpTo (IsLent owner_parts) q reader_parts (map t readers) → q < length readers → old ≡ get_or readers q old
      → IsLent owner_parts (t old) (t new) → UpTo (IsLent owner_parts) (q + 1) reader_parts (map t (slice_set readers q new))
  lends_one readers q old new so_far less is lent =
      subst (UpTo (IsLent owner_parts) (q + 1) reader_parts) (sym (map-set t readers q new)) (up_one (IsLent owner_parts) q reader_parts (map t readers) (t old) (t new) so_far (seen_at t readers q old less is) lent)

  lent_seats : AreSeatsOf options (map lent_part owner_parts)
  lent_seats = record {
    many = length-map owner_parts lent_part ∙ ready.owners;
    shapes = λ p seat is.
        let back = from_map lent_part owner_parts p seat is in
        ap (λ (s : ReaderState). s.shape) (sym back.2) ∙ ready.shapes p back.0 back.1;
  }

  -- what was lent to the reader at a place
  lent_at : (readers : List (ReaderWork R)) (n : ℕ) → length readers ≤ n → UpTo (IsLent owner_parts) n reader_parts (map t readers) → (q : ℕ) (new : ReaderPart) → slice_get (map t readers) q ≡ Some new
      → (old : ReaderPart) × (slice_get reader_parts q ≡ Some old) × IsLent owner_parts old new
  lent_at readers n all lent q new is_new =
      let many = lent.many in
      let long = length-map readers t in
      let less = slice_get_within (map t readers) q new is_new in
      let first = element_at reader_parts q (omega arith) in
      (first.0, first.1, lent.done q first.0 new (omega arith) first.1 is_new)

  pub readers_ready : (readers : List (ReaderWork R)) (n : ℕ) → length readers ≤ n → UpTo (IsLent owner_parts) n reader_parts (map t readers) → All (IsReadyReader reader trace options) readers
  readers_ready readers n all lent =
      λ k d less.
      let one = element_at readers k less in
      let is = get_or_from_slice_get readers k one.0 d one.1 in
      let it = lent_at readers n all lent k (t one.0) (slice_get-map t readers k ∙ ap (option_map t) one.1) in
      let was = ready.each_reader k it.0 it.1 in
      subst (IsReadyReader reader trace options) (sym is) (record {
        seats = subst (AreSeatsOf options) (sym it.2.seats) lent_seats;
        named = subst (All (NamesGet trace)) (sym it.2.gets) was.named;
        few = subst (λ (l : List ℕ). length l < 2 ^ 32) (sym it.2.gets) was.few;
      })

-- Owners have run, and readers have read with all that the owners had lent them.
pub record Ran {P R : Type 0} (owner : P → OwnerState) (home : P → TableId) (reader : R → ReaderState) (at : R → TableId) (trace : List TraceLine) (options : Options)
    (writes : ℕ → List Write) (owner_parts : List OwnerPart) (reader_parts : List ReaderPart) : Type 0 where
  pub ready : AreReady trace options owner_parts reader_parts
  pub ran_owners : List (OwnerWork P)
  pub lents : List (ReaderWork R)
  pub mids : List (ReaderWork R)
  pub count : ℕ
  pub all : length lents ≤ count
  pub lent : UpTo (IsLent owner_parts) count reader_parts (map (reader_part reader at) lents)
  pub owned : Each (λ p. HasRunWrites (writes p)) owner_parts (map (owner_part owner home) ran_owners)
  pub reading : ReadersRan reader at trace options lents mids

module _ {P R : Type 0} {owner : P → OwnerState} {home : P → TableId} {reader : R → ReaderState} {at : R → TableId} {trace : List TraceLine} {options : Options}
    {writes : ℕ → List Write} {owner_parts : List OwnerPart} {reader_parts : List ReaderPart} (r : Ran owner home reader at trace options writes owner_parts reader_parts) where
  abbrev owner_seen : OwnerWork P → OwnerPart
  owner_seen w = owner_part owner home w

  abbrev reader_seen : ReaderWork R → ReaderPart
  reader_seen w = reader_part reader at w

  abbrev given : List (List ReaderState)
  given = map (λ (x : ReaderPart). x.seats) (map reader_seen r.mids)

  answered : (q : ℕ) (old mid : ReaderPart) → slice_get reader_parts q ≡ Some old → slice_get (map reader_seen r.mids) q ≡ Some mid → HasAnswered trace options owner_parts old mid
  answered q old mid is_old is_mid =
      let back = from_map reader_seen r.mids q mid is_mid in
      let many = r.reading.0 in
      let less = slice_get_within r.mids q back.0 back.1 in
      let was = element_at r.lents q (omega arith) in
      let one = at_each (ReaderRan reader at trace options) r.lents r.mids r.reading.0 r.reading.1 q was.0 back.0 was.1 back.1 in
      let it = lent_at owner home reader at trace options owner_parts reader_parts r.ready r.lents r.count r.all r.lent q (reader_seen was.0) (slice_get-map reader_seen r.lents q ∙ ap (option_map reader_seen) was.1) in
      let same_old : it.0 ≡ old = same_Some _ _ (sym it.1 ∙ is_old) in
      subst (HasAnswered trace options owner_parts old) back.2 (subst (λ (x : ReaderPart). HasAnswered trace options owner_parts x (reader_seen back.0)) same_old (record {
        many = sym (length-map back.0.seats.items (λ s. at s) ∙ sym (length-map back.0.seats.items (λ s. reader s))) ∙ ap length (one.at_home ∙ it.2.tables) ∙ length-map owner_parts table_in;
        tables = one.at_home ∙ it.2.tables;
        worker = one.worker ∙ it.2.worker;
        gets = ap (λ g. g.items) one.gets ∙ it.2.gets;
        read = subst (λ (l : List ℕ). IfSome back.0.found (λ found. HaveRead options (lines_at trace l) found (map lent_part owner_parts) (map reader back.0.seats.items))) it.2.gets
            (subst (λ (l : List ReaderState). IfSome back.0.found (λ found. HaveRead options (lines_at trace was.0.gets.items) found l (map reader back.0.seats.items))) it.2.seats one.found);
      }))

  tables_now : (q : ℕ) (now : List (OwnerWork P)) → HaveMetTo q given (map owner_seen r.ran_owners) (map owner_seen now) → map table_in (map owner_seen now) ≡ map table_in owner_parts
  tables_now q now met =
      same_map table_in (map owner_seen r.ran_owners) (map owner_seen now) met.many (λ n x y is_x is_y. (met.each n x y is_x is_y).table)
      ∙ same_map table_in owner_parts (map owner_seen r.ran_owners) r.owned.many (λ n x y is_x is_y. (r.owned.each n x y is_x is_y).table)

  -- the reader at a place that has not yet given its seats back
  mid_at : (q : ℕ) (readers : List (ReaderWork R)) (old : ReaderWork R) → UpTo HasLeft q (map reader_seen r.mids) (map reader_seen readers) → q < length readers → old ≡ get_or readers q old → slice_get (map reader_seen r.mids) q ≡ Some (reader_seen old)
  mid_at q readers old left less is =
      let many = left.many in
      let long = length-map readers reader_seen in
      let one = element_at (map reader_seen r.mids) q (omega arith) in
      let was = left.later q one.0 (reader_seen old) (omega arith) one.1 (seen_at reader_seen readers q old less is) in
      one.1 ∙ ap (λ (x : ReaderPart). Some x) (sym was)

  turn_at : (q : ℕ) (mid : ReaderPart) → slice_get (map reader_seen r.mids) q ≡ Some mid → (old : ReaderPart) × (slice_get reader_parts q ≡ Some old)
  turn_at q mid is =
      let less = slice_get_within (map reader_seen r.mids) q mid is in
      let long = length-map r.mids reader_seen in
      let many = r.reading.0 in
      let count = length-map r.lents reader_seen in
      let first = r.lent.many in
      element_at reader_parts q (omega arith)

  pub homes_same : (q : ℕ) (readers : List (ReaderWork R)) (now : List (OwnerWork P)) (old : ReaderWork R) → UpTo HasLeft q (map reader_seen r.mids) (map reader_seen readers) → HaveMetTo q given (map owner_seen r.ran_owners) (map owner_seen now)
      → q < length readers → old ≡ get_or readers q old → map at old.seats.items ≡ map table_in (map owner_seen now)
  homes_same q readers now old left met less is =
      let mid = mid_at q readers old left less is in
      let first = turn_at q (reader_seen old) mid in
      (answered q first.0 (reader_seen old) first.1 mid).tables ∙ sym (tables_now q now met)

  pub meets_more : (q : ℕ) (readers : List (ReaderWork R)) (now later : List (OwnerWork P)) (old : ReaderWork R) → UpTo HasLeft q (map reader_seen r.mids) (map reader_seen readers) → HaveMetTo q given (map owner_seen r.ran_owners) (map owner_seen now)
      → q < length readers → old ≡ get_or readers q old → HaveMet (map reader old.seats.items) (map owner_seen now) (map owner_seen later) → HaveMetTo (q + 1) given (map owner_seen r.ran_owners) (map owner_seen later)
  meets_more q readers now later old left met less is more =
      let mid = mid_at q readers old left less is in
      let first = turn_at q (reader_seen old) mid in
      let it = answered q first.0 (reader_seen old) first.1 mid in
      let given_here : slice_get given q ≡ Some (reader_seen old).seats = slice_get-map (λ (x : ReaderPart). x.seats) (map reader_seen r.mids) q ∙ ap (option_map (λ (x : ReaderPart). x.seats)) mid in
      met_more q given (map owner_seen r.ran_owners) (map owner_seen now) (map owner_seen later) (reader_seen old).seats met given_here (it.many ∙ sym r.owned.many) more

  pub leaves_one : (q : ℕ) (readers : List (ReaderWork R)) (old new : ReaderWork R) → UpTo HasLeft q (map reader_seen r.mids) (map reader_seen readers) → q < length readers → old ≡ get_or readers q old → HasLeft (reader_seen old) (reader_seen new)
      → UpTo HasLeft (q + 1) (map reader_seen r.mids) (map reader_seen (slice_set readers q new))
  leaves_one q readers old new left less is one =
      subst (UpTo HasLeft (q + 1) (map reader_seen r.mids)) (sym (map-set reader_seen readers q new)) (up_one HasLeft q (map reader_seen r.mids) (map reader_seen readers) (reader_seen old) (reader_seen new) left (seen_at reader_seen readers q old less is) one)

  pub ran_round : (q : ℕ) (readers : List (ReaderWork R)) (now : List (OwnerWork P)) → length readers ≡ q → UpTo HasLeft q (map reader_seen r.mids) (map reader_seen readers) → HaveMetTo q given (map owner_seen r.ran_owners) (map owner_seen now)
      → HasRunRound trace options writes owner_parts (map owner_seen now) reader_parts (map reader_seen readers)
  ran_round q readers now all_left left met =
      let count = left.many in
      let long = length-map readers reader_seen in
      let long_mids = length-map r.mids reader_seen in
      let long_lents = length-map r.lents reader_seen in
      let many = r.reading.0 in
      let first = r.lent.many in
      let long_given = length-map (map reader_seen r.mids) (λ (x : ReaderPart). x.seats) in
      let readers_many : q ≡ length reader_parts = omega arith in
      record {
        ran_owners = map owner_seen r.ran_owners;
        seats = given;
        met = met.many ∙ r.owned.many;
        seated = omega arith;
        left = omega arith;
        ran = r.owned;
        read = λ n old new own is_old is_new is_his.
            let back = from_map (λ (x : ReaderPart). x.seats) (map reader_seen r.mids) n own is_his in
            let it = answered n old back.0 is_old back.1 in
            let low = slice_get_within (map reader_seen readers) n new is_new in
            let gone = left.done n back.0 new (omega arith) back.1 is_new in
            record {
              many = ap length (sym back.2) ∙ it.many;
              none = gone.seats;
              gets = gone.gets ∙ it.gets;
              worker = gone.worker ∙ it.worker;
              read = subst (λ (o : Option (List Line)). IfSome o (λ lines. HaveRead options (lines_at trace old.gets) lines (map lent_part owner_parts) own)) (sym gone.found)
                  (subst (λ (l : List ReaderState). IfSome back.0.found (λ lines. HaveRead options (lines_at trace old.gets) lines (map lent_part owner_parts) l)) back.2 it.read);
            };
        meets = subst (λ (n : ℕ). (p : ℕ) (ran new : OwnerPart) → slice_get (map owner_seen r.ran_owners) p ≡ Some ran → slice_get (map owner_seen now) p ≡ Some new → HasMetReaders n given p ran new) readers_many
            (met_everybody given q (map owner_seen r.ran_owners) (map owner_seen now) (omega arith) met);
      }

-- what holds anyway holds where there is an error
pub on_err_any : {T E P : Type 0} (r : Result T E) → P → OnErr r P
on_err_any (Ok x) p = tt
on_err_any (Err e) p = p

-- what is seen of each element is seen of one more
pub each_more : {X Y : Type 0} (f : X → Y) (Q : Y → Type 0) (items : List X) (x : X) → ((i : ℕ) (y : Y) → slice_get (map f items) i ≡ Some y → Q y) → Q (f x)
    → (i : ℕ) (y : Y) → slice_get (map f (items ++ x ∷ [])) i ≡ Some y → Q y
each_more f Q [] x each one zero y is = subst Q (same_Some _ _ is) one
each_more f Q [] x each one (suc i) y is = absurd (cc)
each_more f Q (z ∷ items) x each one zero y is = each zero y is
each_more f Q (z ∷ items) x each one (suc i) y is = each_more f Q items x (λ k w at. each (suc k) w at) one i y is
