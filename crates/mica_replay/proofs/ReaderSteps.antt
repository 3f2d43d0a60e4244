-- A reader's answers, one after another.
use Rattle.std.proofs.Common.{◌≡◌, ◌≢◌, ℕ, zero, suc, ◌+◌, ◌<◌, inl, inr, List, [], ◌∷◌, ◌++◌, length, map, zip, take, slice_get, slice_set, Some, None, refl, sym, ap, ◌∙◌, subst, arith, cond, append-nil, length-set, eq-eqb, ne_eqb, get_or, Option, IsSomeAnd}
use Rattle.std.specs.List.{All, AllByRecursion, cons_option}
use Rattle.std.proofs.lemmas.Option.{slice_get_within, get_or_from_slice_get, slice_get_read}
use Rattle.std.proofs.lemmas.List.{length_push, take_more, map-set, length-map}
use Rattle.std.proofs.lemmas.List.Elements.{filter_map-append, filter-append}
use Rattle.list_laws.proofs.Places.{at_map, element_at, set_same, set_cases}
use Rattle.mica_words.specs.Hash.{hash_of}
use Rattle.mica_words.specs.Item.{KeyFits}
use Rattle.mica_words.proofs.Hashes.{partition_of-below}
use Rattle.partition_model.specs.declared.options.Options.{Options}
use Rattle.partition_model.specs.Options.{IsValid}
use Rattle.partition_model.specs.History.{History, IsPrefix}
use Rattle.mica_trace.specs.declared.line.TraceOp.{TraceOp}
use Rattle.mica_trace.specs.declared.line.TraceOp.TheVariants.{Put, Add, Del, Touch, Get, Sync}
use Rattle.mica_trace.specs.declared.line.TraceLine.{TraceLine}
use Rattle.mica_trace.specs.declared.report.Line.{Line}
use Rattle.mica_trace.specs.TraceGrammar.{HasFields, IsTraceLine}
use Rattle.mica_trace.specs.Rounds.{partition_in, is_in_partition}
use Rattle.mica_trace.specs.LawfulReport.{IsKindOf, Answers}
use Rattle.partition_words.specs.declared.shape.Shape.{Shape}
use Rattle.partition_words.specs.Shape.{shape_of}
use Rattle.optimistic_get.specs.declared.getting.Got.{Got}
use Rattle.optimistic_get.specs.declared.getting.Got.TheVariants.{Hit, Miss, Again}
use Rattle.partition_words.specs.declared.reader.ReaderState.{ReaderState}
use Rattle.mica_trace.specs.RoundReport.{LinePair, line_pairs_in, AnswersRise}
use Rattle.optimistic_get.specs.Asked.{SeatAnswers, IsRead}
use Rattle.optimistic_get.proofs.Repeated.{no_answers, seat_further, same_answer}
use Rattle.mica_replay.specs.Answered.{line_of}
use Rattle.mica_replay.specs.LineNumbers.{lines_at, NamesGet}
use Rattle.mica_replay.specs.ReaderGets.{HasRead, HaveRead, AreSeatsOf, HaveSeenMore}
use Rattle.mica_trace.specs.RoundReport.{HasKind}
use Rattle.mica_trace.proofs.ListParts.{zip-append, AllZip-append, length_zip}
use Rattle.mica_trace.proofs.Prefixes.{prefix_same, prefix_trans}

some_and : {X : Type 0} (o : Option X) (P : X → Type 0) → IsSomeAnd o P → (x : X) × (o ≡ Some x) × P x
some_and None P is = absurd is
some_and (Some x) P is = (x, refl, is)

-- One get more

abbrev pub LineIsRead : Options → ReaderState → List ℕ → Line → ReaderState → Type 0
LineIsRead options old key printed new = SeatAnswers old new 1 × Answers options new.seen key printed

pub read_line : (options : Options) (old new : ReaderState) (key : List ℕ) (got : Got) (buffer : List ℕ) → old.shape ≡ shape_of options → IsRead old key got buffer new
    → LineIsRead options old key (line_of got buffer) new
read_line options old new key (Hit stamp) buffer shape is = (is.seat, same_answer options old.shape new.seen key stamp (Some buffer) shape is.answer)
read_line options old new key (Miss stamp) buffer shape is = (is.0.seat, same_answer options old.shape new.seen key stamp None shape is.0.answer)
read_line options old new key (Again first last) buffer shape is = absurd is

pub read_kind : (op : TraceOp) (got : Got) (buffer : List ℕ) → op ≡ Get → IsKindOf op (line_of got buffer)
read_kind Get (Hit stamp) buffer is = tt
read_kind Get (Miss stamp) buffer is = tt
read_kind Get (Again first last) buffer is = tt
read_kind Put got buffer is = absurd (cc)
read_kind Add got buffer is = absurd (cc)
read_kind Del got buffer is = absurd (cc)
read_kind Touch got buffer is = absurd (cc)
read_kind Sync got buffer is = absurd (cc)

-- answers behind others
answers_push : (options : Options) (pairs : List LinePair) (pair : LinePair) (seen mid last : History) → AnswersRise options seen pairs mid → IsPrefix mid last → Answers options last pair.0.key pair.1
    → AnswersRise options seen (pairs ++ pair ∷ []) last
answers_push options [] pair seen mid last on further answer = (last, prefix_trans seen mid last on further, answer, prefix_same last)
answers_push options (first ∷ pairs) pair seen mid last on further answer = (on.0, on.1, on.2, answers_push options pairs pair on.0 mid last on.3 further answer)

module _ (options : Options) (gets : List TraceLine) (found : List Line) (line : TraceLine) (printed : Line) (same : length found ≡ length gets) where
  pairs_push : (p : ℕ) → line_pairs_in options p (zip (gets ++ line ∷ []) (found ++ printed ∷ [])) ≡ line_pairs_in options p (zip gets found) ++ line_pairs_in options p ((line, printed) ∷ [])
  pairs_push p = ap (line_pairs_in options p) (zip-append gets (line ∷ []) found (printed ∷ []) same) ∙ filter-append (λ pair. is_in_partition options p pair.0) (zip gets found) ((line, printed) ∷ [])

  own_pair : line_pairs_in options (partition_in options line) ((line, printed) ∷ []) ≡ (line, printed) ∷ []
  own_pair = ap (λ b. cond b ((line, printed) ∷ []) []) (eq-eqb (partition_in options line) (partition_in options line) refl)

  other_pair : (p : ℕ) → partition_in options line ≢ p → line_pairs_in options p ((line, printed) ∷ []) ≡ []
  other_pair p other = ap (λ b. cond b ((line, printed) ∷ []) []) (ne_eqb (partition_in options line) p other)

  read_here : (old mid new : ReaderState) → HasRead options (partition_in options line) gets found old mid → LineIsRead options mid line.key printed new
      → HasRead options (partition_in options line) (gets ++ line ∷ []) (found ++ printed ∷ []) old new
  read_here old mid new so_far one =
      let p = partition_in options line in
      let pushed = pairs_push p ∙ ap (λ l. line_pairs_in options p (zip gets found) ++ l) own_pair in
      let count : length (line_pairs_in options p (zip gets found)) + 1 ≡ length (line_pairs_in options p (zip (gets ++ line ∷ []) (found ++ printed ∷ [])))
      = sym (ap length pushed ∙ length_push (line_pairs_in options p (zip gets found)) (line, printed)) in
      record {
        seat = subst (λ (n : ℕ). SeatAnswers old new n) count (seat_further old mid new _ 1 so_far.seat one.0);
        answers = subst (λ (l : List LinePair). AnswersRise options old.seen l new.seen) (sym pushed)
            (answers_push options (line_pairs_in options p (zip gets found)) (line, printed) old.seen mid.seen new.seen so_far.answers one.0.seen one.1);
      }

  read_elsewhere : (p : ℕ) (old new : ReaderState) → partition_in options line ≢ p → HasRead options p gets found old new → HasRead options p (gets ++ line ∷ []) (found ++ printed ∷ []) old new
  read_elsewhere p old new other so_far =
      let pushed = pairs_push p ∙ ap (λ l. line_pairs_in options p (zip gets found) ++ l) (other_pair p other) ∙ append-nil (line_pairs_in options p (zip gets found)) in
      record {
        seat = subst (λ (n : ℕ). SeatAnswers old new n) (ap length (sym pushed)) so_far.seat;
        answers = subst (λ (l : List LinePair). AnswersRise options old.seen l new.seen) (sym pushed) so_far.answers;
      }

pub reads_none : (options : Options) (seats : List ReaderState) → HaveRead options [] [] seats seats
reads_none options seats = record {
  lines = tt;
  seats = refl;
  each = λ p old new is_old is_new.
      let same : old ≡ new = cc in
      subst (λ (s : ReaderState). HasRead options p [] [] old s) same (record { seat = no_answers old; answers = prefix_same old.seen });
}

-- the seat of the get's partition answered it, and all others stay
pub reads_one : (options : Options) (gets : List TraceLine) (found : List Line) (olds mids : List ReaderState) (line : TraceLine) (printed : Line) (mid new : ReaderState)
    → HaveRead options gets found olds mids → IsKindOf line.op printed → slice_get mids (partition_in options line) ≡ Some mid → LineIsRead options mid line.key printed new
    → HaveRead options (gets ++ line ∷ []) (found ++ printed ∷ []) olds (slice_set mids (partition_in options line) new)
reads_one options gets found olds mids line printed mid new so_far kind at one =
    let same = length_zip HasKind gets found so_far.lines in
    record {
      lines = AllZip-append HasKind gets (line ∷ []) found (printed ∷ []) so_far.lines (kind, tt);
      seats = length-set mids (partition_in options line) new ∙ so_far.seats;
      each = λ p old s is_old is_new.
          elim (set_cases mids (partition_in options line) new p s is_new) as (λ _. HasRead options p (gets ++ line ∷ []) (found ++ printed ∷ []) old s) [
            | inl here ↦
                let is_old_here = subst (λ (q : ℕ). slice_get olds q ≡ Some old) (sym here.0) is_old in
                subst (λ (q : ℕ). HasRead options q (gets ++ line ∷ []) (found ++ printed ∷ []) old s) here.0
                (subst (λ (x : ReaderState). HasRead options (partition_in options line) (gets ++ line ∷ []) (found ++ printed ∷ []) old x) here.1
                (read_here options gets found line printed same old mid new (so_far.each (partition_in options line) old mid is_old_here at) one))
            | inr other ↦ read_elsewhere options gets found line printed same p old s other.0 (so_far.each p old s is_old other.1)
          ];
    }

-- what was read until now has only seen more
pub reads_seen : (options : Options) (gets : List TraceLine) (found : List Line) (olds news : List ReaderState) → HaveRead options gets found olds news → HaveSeenMore olds news
reads_seen options gets found olds news read = record {
  seats = read.seats;
  each = λ p old new is_old is_new. let was = (read.each p old new is_old is_new).seat in (was.shape, was.seen);
}

-- Seats

-- a seat keeps the options' shape
pub shape_kept : (options : Options) (gets : List TraceLine) (found : List Line) (olds mids : List ReaderState) (p : ℕ) (mid : ReaderState) → AreSeatsOf options olds → HaveRead options gets found olds mids
    → slice_get mids p ≡ Some mid → mid.shape ≡ shape_of options
shape_kept options gets found olds mids p mid seats read at =
    let many = read.seats in
    let less = slice_get_within mids p mid at in
    let was = element_at olds p (omega arith) in
    (read.each p was.0 mid was.1 at).seat.shape ∙ seats.shapes p was.0 was.1

pub read_goes : (old new : ReaderState) (key : List ℕ) (got : Got) (buffer : List ℕ) → IsRead old key got buffer new → (new.shape ≡ old.shape) × IsPrefix old.seen new.seen
read_goes old new key (Hit stamp) buffer is = (is.seat.shape, is.seat.seen)
read_goes old new key (Miss stamp) buffer is = (is.0.seat.shape, is.0.seat.seen)
read_goes old new key (Again first last) buffer is = absurd is

-- one seat has seen more than what all had
pub seen_one : (olds mids : List ReaderState) (p : ℕ) (mid new : ReaderState) → HaveSeenMore olds mids → slice_get mids p ≡ Some mid → (new.shape ≡ mid.shape) × IsPrefix mid.seen new.seen
    → HaveSeenMore olds (slice_set mids p new)
seen_one olds mids p mid new so_far at more = record {
  seats = length-set mids p new ∙ so_far.seats;
  each = λ q old s is_old is_new.
      elim (set_cases mids p new q s is_new) as (λ _. (s.shape ≡ old.shape) × IsPrefix old.seen s.seen) [
        | inl here ↦
            let is_old_here = subst (λ (x : ℕ). slice_get olds x ≡ Some old) (sym here.0) is_old in
            let was = so_far.each p old mid is_old_here at in
            subst (λ (x : ReaderState). (x.shape ≡ old.shape) × IsPrefix old.seen x.seen) here.1 (more.0 ∙ was.0, prefix_trans old.seen mid.seen new.seen was.1 more.1)
        | inr other ↦ so_far.each q old s is_old other.1
      ];
}

-- Lines

pub key_of_get : (op : TraceOp) (key value : List ℕ) → op ≡ Get → HasFields op key value → KeyFits key
key_of_get Get key value is fields = fields.0.0
key_of_get Put key value is fields = absurd (cc)
key_of_get Add key value is fields = absurd (cc)
key_of_get Del key value is fields = absurd (cc)
key_of_get Touch key value is fields = absurd (cc)
key_of_get Sync key value is fields = absurd (cc)

pub each_at : {X : Type 0} (P : X → Type 0) (xs : List X) (n : ℕ) (x : X) → AllByRecursion P xs → slice_get xs n ≡ Some x → P x
each_at P [] n x all is = absurd (cc)
each_at P (y ∷ xs) zero x all is = let same : y ≡ x = cc in subst P same all.0
each_at P (y ∷ xs) (suc n) x all is = each_at P xs n x all.1 is

-- the get of one more number
pub record IsGetOf (trace : List TraceLine) (numbers : List ℕ) (k : ℕ) (line : TraceLine) : Type 0 where
  pub get : line.op ≡ Get
  pub key : KeyFits line.key
  pub more : lines_at trace (take (k + 1) numbers) ≡ lines_at trace (take k numbers) ++ line ∷ []

pub get_of : (trace : List TraceLine) (numbers : List ℕ) (k : ℕ) (line : TraceLine) → AllByRecursion IsTraceLine trace → All (NamesGet trace) numbers → k < length numbers
    → line ≡ get_or trace (get_or numbers k 0) line → IsGetOf trace numbers k line
get_of trace numbers k line lines named less is =
    let at = some_and (slice_get trace (get_or numbers k 0)) (λ (l : TraceLine). l.op ≡ Get) (named k 0 less) in
    let same : line ≡ at.0 = is ∙ get_or_from_slice_get trace (get_or numbers k 0) at.0 line at.1 in
    let get : line.op ≡ Get = ap (λ (l : TraceLine). l.op) same ∙ at.2 in
    let is_line : slice_get trace (get_or numbers k 0) ≡ Some line = at.1 ∙ ap (λ (l : TraceLine). Some l) (sym same) in
    record {
      get = get;
      key = key_of_get line.op line.key line.value get (each_at IsTraceLine trace (get_or numbers k 0) line lines is_line);
      more = ap (lines_at trace) (take_more numbers k 0 less) ∙ filter_map-append (slice_get trace) (take k numbers) (get_or numbers k 0 ∷ []) ∙ ap (λ o. lines_at trace (take k numbers) ++ cons_option o []) is_line;
    }

pub number_within : (trace : List TraceLine) (numbers : List ℕ) (k : ℕ) → All (NamesGet trace) numbers → k < length numbers → get_or numbers k 0 < length trace
number_within trace numbers k named less =
    let at = some_and (slice_get trace (get_or numbers k 0)) (λ (l : TraceLine). l.op ≡ Get) (named k 0 less) in
    slice_get_within trace (get_or numbers k 0) at.0 at.1

-- Seats as they lie in memory, of which contracts see one fact each

module _ {X : Type 0} (f : X → ReaderState) where
  pub seat_at : (options : Options) (line : TraceLine) (gets : List TraceLine) (found : List Line) (olds : List ReaderState) (items : List X) (p : ℕ) (old : X) → IsValid options
      → AreSeatsOf options olds → HaveRead options gets found olds (map f items) → p ≡ partition_in options line → old ≡ get_or items p old → slice_get items p ≡ Some old
  seat_at options line gets found olds items p old valid seats read at is =
      let below = partition_of-below options.hashing line.key options.partitions valid.partitions.0 in
      let many = seats.many in
      let same = read.seats in
      let long = length-map items f in
      slice_get_read items (length items) p old refl (omega arith) is

  -- a key's hash by the options is that by the seat's shape
  pub hashed_at : (options : Options) (gets : List TraceLine) (found : List Line) (olds : List ReaderState) (items : List X) (p : ℕ) (old : X) (key : List ℕ)
      → AreSeatsOf options olds → HaveRead options gets found olds (map f items) → slice_get items p ≡ Some old → hash_of options.hashing key ≡ hash_of (f old).shape.hashing key
  hashed_at options gets found olds items p old key seats read at =
      ap (λ (z : Shape). hash_of z.hashing key) (sym (shape_kept options gets found olds (map f items) p (f old) seats read (at_map f items p old at)))

  pub seen_at : (olds : List ReaderState) (items : List X) (p : ℕ) (old new : X) → HaveSeenMore olds (map f items) → slice_get items p ≡ Some old
      → ((f new).shape ≡ (f old).shape) × IsPrefix (f old).seen (f new).seen → HaveSeenMore olds (map f (slice_set items p new))
  seen_at olds items p old new so_far at more =
      subst (HaveSeenMore olds) (sym (map-set f items p new)) (seen_one olds (map f items) p (f old) (f new) so_far (at_map f items p old at) more)

  pub homes_at : {T : Type 0} (h : X → T) (items : List X) (p : ℕ) (old new : X) (was : List T) → map h items ≡ was → slice_get items p ≡ Some old → h new ≡ h old → map h (slice_set items p new) ≡ was
  homes_at h items p old new was so_far at same =
      map-set h items p new ∙ ap (slice_set (map h items) p) same ∙ set_same (map h items) p (h old) (at_map h items p old at) ∙ so_far

  pub read_at : (options : Options) (gets : List TraceLine) (found : List Line) (olds : List ReaderState) (items : List X) (p : ℕ) (old new : X) (line : TraceLine) (key : List ℕ) (got : Got) (buffer : List ℕ)
      → AreSeatsOf options olds → HaveRead options gets found olds (map f items) → p ≡ partition_in options line → slice_get items p ≡ Some old → line.op ≡ Get → key ≡ line.key
      → IsRead (f old) key got buffer (f new) → HaveRead options (gets ++ line ∷ []) (found ++ line_of got buffer ∷ []) olds (map f (slice_set items p new))
  read_at options gets found olds items p old new line key got buffer seats so_far here at get same_key read =
      let at_here : slice_get (map f items) (partition_in options line) ≡ Some (f old) = subst (λ (q : ℕ). slice_get (map f items) q ≡ Some (f old)) here (at_map f items p old at) in
      let shape = shape_kept options gets found olds (map f items) (partition_in options line) (f old) seats so_far at_here in
      let read_key = subst (λ (k : List ℕ). IsRead (f old) k got buffer (f new)) same_key read in
      let one = reads_one options gets found olds (map f items) line (line_of got buffer) (f old) (f new) so_far (read_kind line.op got buffer get) at_here (read_line options (f old) (f new) line.key got buffer shape read_key) in
      subst (HaveRead options (gets ++ line ∷ []) (found ++ line_of got buffer ∷ []) olds)
      (ap (λ (q : ℕ). slice_set (map f items) q (f new)) (sym here) ∙ sym (map-set f items p new)) one
