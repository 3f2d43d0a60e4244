-- What the loop over a round's lines has printed: whatever is merged for the lines that are left, from the replies and lines that
-- are left, makes the whole with it.
use Rattle.std.proofs.Common.{◌≡◌, ℕ, ◌+◌, ◌<◌, ◌≤◌, ◌%◌, inl, inr, List, [], ◌∷◌, ◌++◌, length, map, drop, get_or, replicate, slice_get, slice_set, Some, None, refl, sym, ap, ◌∙◌, subst, arith, cond, eq-eqb, append-nil, append_assoc, add-one, drop-cons, length-drop}
use Rattle.std.specs.Prelude.{option_map}
use Rattle.std.specs.List.{cons_option}
use Rattle.std.proofs.Math.ListN.{drop_of_length-le}
use Rattle.std.proofs.lemmas.List.{length-map, length-replicate, get_or-replicate, length-set, length_push, map-set}
use Rattle.std.proofs.lemmas.Option.{same_Some, slice_get-map, slice_get_read, slice_get_within, get_or_from_slice_get}
use Rattle.list_laws.proofs.Places.{length-filter_map-le, set_cases, set_elsewhere, set_here}
use Rattle.mica_words.proofs.Hashes.{partition_of-below}
use Rattle.partition_model.specs.declared.options.Options.{Options}
use Rattle.partition_model.specs.declared.write.Op.{Op}
use Rattle.partition_model.specs.declared.write.Outcome.{Outcome}
use Rattle.partition_model.specs.declared.write.Write.{Write}
use Rattle.partition_model.specs.Options.{IsValid}
use Rattle.mica_trace.specs.declared.line.TraceLine.{TraceLine}
use Rattle.mica_trace.specs.declared.line.TraceOp.TheVariants.{Get, Sync}
use Rattle.mica_trace.specs.declared.report.Line.{Line}
use Rattle.mica_trace.specs.declared.report.Line.TheVariants.{Wrote, Sync as SyncLine}
use Rattle.mica_trace.specs.Rounds.{is_get_op, partition_in, op_of, write_by, write_in, writes_of}
use Rattle.mica_trace.specs.RoundReport.{HasKind, gets_of}
use Rattle.mica_trace.proofs.ListParts.{length_zip}
use Rattle.mica_replay.specs.Lending.{OwnerPart}
use Rattle.mica_replay.specs.LineNumbers.{homes_of, IsWriteOp}
use Rattle.mica_replay.specs.Merged.{AreEnough, HasMerged, IsMergedRound}
use Rattle.mica_replay.specs.Replies.{Reply}
use Rattle.mica_replay.specs.RoundRun.{replies_of}
use Rattle.mica_replay.proofs.LineShares.{home_at, sync_no_write, get_no_write, write_no_get, op_is_write}
use Rattle.mica_replay.proofs.RoundSteps.{seen_at}
use Rattle.mica_replay.proofs.LinePrints.{wrote_kind, sync_kind, Goes, goes_sync, goes_write, kinds_here, goes_get}

-- After k lines: what is printed, and what is left of the replies, by how many were taken of each owner's, and of the readers' lines.
pub record HasPrinted (options : Options) (first : ℕ) (lines : List TraceLine) (dones : List (List Reply)) (founds : List (List Line)) (before : List Line)
    (k : ℕ) (report : List Line) (cursors : List ℕ) (rests : List (List Line)) (gets : ℕ) : Type 0 where
  pub printed : List Line
  pub report_is : report ≡ before ++ printed
  pub left : List (List Reply)
  pub cursors_many : length cursors ≡ length dones
  pub left_is : (p n : ℕ) (all : List Reply) → slice_get cursors p ≡ Some n → slice_get dones p ≡ Some all → slice_get left p ≡ Some (drop n all)
  pub enough : AreEnough options gets (drop k lines) left rests
  pub whole : (more : List Line) → IsMergedRound options gets (drop k lines) more left rests → IsMergedRound options first lines (printed ++ more) dones founds
  pub few : gets ≤ first + k
  pub long : length report ≡ length before + k

-- the owner of a write's key, how many of its replies are printed, and all of them
pub record IsNext (options : Options) (line : TraceLine) (dones : List (List Reply)) (cursors : List ℕ) (p n : ℕ) (all : List Reply) : Type 0 where
  pub op : IsWriteOp line.op
  pub here : p ≡ partition_in options line
  pub owner : slice_get dones p ≡ Some all
  pub cursor : slice_get cursors p ≡ Some n

-- Before the first line, and after the last

module _ (options : Options) (first : ℕ) (lines : List TraceLine) (dones : List (List Reply)) (founds : List (List Line)) (enough : AreEnough options first lines dones founds) (before : List Line) where
  pub printed_none : (cursors : List ℕ) (many : ℕ) → many ≡ length dones → cursors ≡ replicate many 0 → HasPrinted options first lines dones founds before 0 before cursors founds first
  printed_none cursors many is zeros = record {
    printed = [];
    report_is = sym (append-nil before);
    left = dones;
    cursors_many = ap length zeros ∙ length-replicate many 0 ∙ is;
    left_is = λ p n all at_n at_all. at_all ∙ ap (λ m. Some (drop m all)) (sym (zero_at many p n (subst (λ (l : List ℕ). slice_get l p ≡ Some n) zeros at_n)));
    enough = enough;
    whole = λ more m. m;
    few = omega arith;
    long = omega arith;
  }
    where
      zero_at : (m p n : ℕ) → slice_get (replicate m 0) p ≡ Some n → n ≡ 0
      zero_at m p n is =
          let less = slice_get_within (replicate m 0) p n is in
          let long : length (replicate {A = ℕ} m 0) ≡ m = length-replicate m 0 in
          sym (get_or_from_slice_get (replicate m 0) p n 0 is) ∙ get_or-replicate m p 0 0 (omega arith)

  pub printed_all : (k : ℕ) (report : List Line) (cursors : List ℕ) (rests : List (List Line)) (gets : ℕ) → length lines ≤ k → HasPrinted options first lines dones founds before k report cursors rests gets
      → HasMerged options first lines before report dones founds
  printed_all k report cursors rests gets all so_far = record {
    printed = so_far.printed;
    report = so_far.report_is;
    merged = subst (λ l. IsMergedRound options first lines l dones founds) (append-nil so_far.printed)
        (so_far.whole [] (subst (λ l. IsMergedRound options gets l [] so_far.left rests) (sym (drop_of_length-le lines all)) (record { lines = tt; writes = λ p replies at. refl; gets = λ q lines at. refl })));
  }

-- the loop at one of the lines
pub record AtLine {W X : Type 0} (f : W → OwnerPart) (h : X → List Line) : Type 0 where
  pub options : Options
  pub valid : IsValid options
  pub first : ℕ
  pub lines : List TraceLine
  pub owners : List W
  pub founds : List X
  pub enough : AreEnough options first lines (map replies_of (map f owners)) (map h founds)
  pub before : List Line
  pub k : ℕ
  pub line : TraceLine
  pub less : k < length lines
  pub line_is : line ≡ get_or lines k line
  pub report : List Line
  pub cursors : List ℕ
  pub found : List X
  pub gets : ℕ
  pub so_far : HasPrinted options first lines (map replies_of (map f owners)) (map h founds) before k report cursors (map h found) gets

module _ {W X : Type 0} {f : W → OwnerPart} {h : X → List Line} (l : AtLine f h) where
  abbrev dones : List (List Reply)
  dones = map replies_of (map f l.owners)

  abbrev founds : List (List Line)
  founds = map h l.founds

  abbrev rests : List (List Line)
  rests = map h l.found

  abbrev after : List TraceLine
  after = drop (l.k + 1) l.lines

  abbrev left : List (List Reply)
  left = l.so_far.left

  -- with one line more
  abbrev Then : List Line → List ℕ → List X → ℕ → Type 0
  Then report cursors found gets = HasPrinted l.options l.first l.lines dones founds l.before (l.k + 1) report cursors (map h found) gets

  cut : drop l.k l.lines ≡ l.line ∷ after
  cut = drop-cons l.lines l.k l.line l.less ∙ (λ i. sym l.line_is i ∷ drop (sym (add-one l.k) i) l.lines)

  enough : AreEnough l.options l.gets (l.line ∷ after) left rests
  enough = subst (λ ls. AreEnough l.options l.gets ls left rests) cut l.so_far.enough

  goes : (r : Line) (gets : ℕ) (cursors : List ℕ) (later : List (List Reply)) (found : List X) → Goes l.options l.gets gets l.line after r left later rests (map h found) → gets ≤ l.gets + 1
      → length cursors ≡ length dones → ((p n : ℕ) (all : List Reply) → slice_get cursors p ≡ Some n → slice_get dones p ≡ Some all → slice_get later p ≡ Some (drop n all))
      → Then (l.report ++ r ∷ []) cursors found gets
  goes r gets cursors later found g few many later_is = record {
    printed = l.so_far.printed ++ r ∷ [];
    report_is = ap (λ x. x ++ r ∷ []) l.so_far.report_is ∙ append_assoc l.before l.so_far.printed (r ∷ []);
    left = later;
    cursors_many = many;
    left_is = later_is;
    enough = g.enough;
    whole = λ more m. subst (λ x. IsMergedRound l.options l.first l.lines x dones founds) (sym (append_assoc l.so_far.printed (r ∷ []) more))
        (l.so_far.whole (r ∷ more) (subst (λ ls. IsMergedRound l.options l.gets ls (r ∷ more) left rests) (sym cut) (g.merges more m)));
    few = let low = l.so_far.few in omega arith;
    long = let one = length_push l.report r in let so_long = l.so_far.long in omega arith;
  }

  pub printed_sync : l.line.op ≡ Sync → Then (l.report ++ SyncLine ∷ []) l.cursors l.found l.gets
  printed_sync is =
      goes SyncLine l.gets l.cursors left l.found
      (goes_sync l.options l.gets l.line after left rests enough (ap is_get_op is) SyncLine (sync_kind l.line.op is) (sync_no_write l.line.op l.line.key l.line.value is))
      (omega arith) l.so_far.cursors_many l.so_far.left_is

  -- a write, of which the owner of its key has the next reply
  module _ (op : IsWriteOp l.line.op) (homes : List ℕ) (homes_are : homes ≡ homes_of l.options l.lines) where
    abbrev own_queue : ℕ
    own_queue = get_or homes l.k 0

    own_is : own_queue ≡ partition_in l.options l.line
    own_is =
        let write = op_is_write l.line.op l.line.key l.line.value op in
        home_at l.options l.lines homes l.k l.line write.0 homes_are l.less l.line_is write.1

    pub own_within : (own_queue < length l.owners) × (own_queue < length l.cursors)
    own_within =
        let here = own_is in
        let below = partition_of-below l.options.hashing l.line.key l.options.partitions l.valid.partitions.0 in
        let long = length-map l.owners f in
        let long_done = length-map (map f l.owners) replies_of in
        let all = l.enough.owners in
        let many = l.so_far.cursors_many in
        (omega arith, omega arith)

    pub next_of : (n : ℕ) (owner : W) → owner ≡ get_or l.owners own_queue owner → n ≡ get_or l.cursors own_queue n → IsNext l.options l.line dones l.cursors own_queue n (replies_of (f (get_or l.owners own_queue owner)))
    next_of n owner owner_is n_is = record {
      op = op;
      here = own_is;
      owner = subst (λ (w : W). slice_get dones own_queue ≡ Some (replies_of (f w))) owner_is
          (slice_get-map replies_of (map f l.owners) own_queue ∙ ap (option_map replies_of) (seen_at f l.owners own_queue owner own_within.0 owner_is));
      cursor = slice_get_read l.cursors (length l.cursors) own_queue n refl own_within.1 n_is;
    }

  module _ {p n : ℕ} {all : List Reply} (next : IsNext l.options l.line dones l.cursors p n all) where
    abbrev home : ℕ
    home = partition_in l.options l.line

    write : (w : Write) × (write_by l.line.op l.line.key l.line.value ≡ Some w)
    write = op_is_write l.line.op l.line.key l.line.value next.op

    left_at : slice_get left home ≡ Some (drop n all)
    left_at = subst (λ (m : ℕ). slice_get left m ≡ Some (drop n all)) next.here (l.so_far.left_is p n all next.cursor next.owner)

    can_reply : n < length all
    can_reply =
        let one : write_in l.options home l.line ≡ Some write.0 = ap (λ b. cond b (write_by l.line.op l.line.key l.line.value) None) (eq-eqb home home refl) ∙ write.1 in
        let count = enough.writes home (drop n all) left_at ∙ ap (λ o. length (cons_option o (writes_of l.options home after))) one in
        let long = length-drop n all in
        omega arith

    pub has_reply : (n < length all) × (n < length l.lines)
    has_reply =
        let count = l.enough.writes p all next.owner in
        let few = length-filter_map-le (write_in l.options p) l.lines in
        let some = can_reply in
        (some, omega arith)

    pub printed_write : (op : Op) (outcome : Outcome) (stamp : ℕ) → op_of l.line.op ≡ Some op → slice_get all n ≡ Some (outcome, stamp)
        → Then (l.report ++ Wrote op outcome stamp ∷ []) (slice_set l.cursors p (n + 1)) l.found l.gets
    printed_write op outcome stamp is reply =
        let more : drop n all ≡ (outcome, stamp) ∷ drop (n + 1) all
        = drop-cons all n (outcome, stamp) can_reply ∙ (λ i. get_or_from_slice_get all n (outcome, stamp) (outcome, stamp) reply i ∷ drop (sym (add-one n) i) all) in
        let at : slice_get left home ≡ Some ((outcome, stamp) ∷ drop (n + 1) all) = left_at ∙ ap (λ d. Some d) more in
        goes (Wrote op outcome stamp) l.gets (slice_set l.cursors p (n + 1)) (slice_set left home (drop (n + 1) all)) l.found
        (goes_write l.options l.gets l.line after left rests enough (write_no_get l.line.op l.line.key l.line.value write.0 write.1) op outcome stamp write.0 (drop (n + 1) all) (wrote_kind l.line.op op is outcome stamp) write.1 at)
        (omega arith) (length-set l.cursors p (n + 1) ∙ l.so_far.cursors_many)
        (λ q m theirs at_m at_theirs.
        elim (set_cases l.cursors p (n + 1) q m at_m) as (λ _. slice_get (slice_set left home (drop (n + 1) all)) q ≡ Some (drop m theirs)) [
          | inl same ↦
              let all_is : all ≡ theirs = same_Some _ _ (sym next.owner ∙ ap (slice_get dones) same.0 ∙ at_theirs) in
              ap (slice_get (slice_set left home (drop (n + 1) all))) (sym same.0 ∙ next.here)
              ∙ set_here left home ((outcome, stamp) ∷ drop (n + 1) all) (drop (n + 1) all) at ∙ (λ i. Some (drop (same.1 i) (all_is i)))
          | inr other ↦ set_elsewhere left home q (drop (n + 1) all) (λ e. other.0 (next.here ∙ sym e)) ∙ l.so_far.left_is q m theirs other.1 at_theirs
        ])

  -- a get, with what is left of its reader's lines
  module _ (get : l.line.op ≡ Get) (rest : X) (rest_is : rest ≡ get_or l.found (l.gets % l.options.readers) rest) where
    abbrev own : ℕ
    own = l.gets % l.options.readers

    abbrev lines : List Line
    lines = h (get_or l.found own rest)

    no_write : write_by l.line.op l.line.key l.line.value ≡ None
    no_write = get_no_write l.line.op l.line.key l.line.value get

    at_rest : slice_get rests own ≡ Some lines
    at_rest =
        let some = l.valid.readers.0 in
        let below : own < l.options.readers = omega arith in
        let long = length-map l.found h in
        let many = enough.readers in
        subst (λ (x : X). slice_get rests own ≡ Some (h x)) rest_is (seen_at h l.found own rest (omega arith) rest_is)

    pub has_line : 0 < length lines
    has_line =
        let count = length_zip HasKind (l.line ∷ gets_of l.options own (l.gets + 1) after) lines (kinds_here l.options l.gets l.line after left rests enough (ap is_get_op get) no_write lines at_rest) in
        omega arith

    pub printed_get : (r : Line) (back : X) → lines ≡ r ∷ h back → Then (l.report ++ r ∷ []) l.cursors (slice_set l.found own back) (l.gets + 1)
    printed_get r back is =
        goes r (l.gets + 1) l.cursors left (slice_set l.found own back)
        (subst (Goes l.options l.gets (l.gets + 1) l.line after r left left rests) (sym (map-set h l.found own back))
        (goes_get l.options l.gets l.line after left rests enough (ap is_get_op get) no_write r (h back) (at_rest ∙ ap (λ x. Some x) is)))
        (omega arith) l.so_far.cursors_many l.so_far.left_is
