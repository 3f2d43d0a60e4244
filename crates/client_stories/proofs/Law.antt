-- All shares of a store, on the page.
use Rattle.std.specs.Prelude.{◌==◌, is_some, slice_get, count_by, min}
use Rattle.std.specs.List.{AllZip, AllByRecursion}
use Rattle.std.proofs.Common.{◌≡◌, ◌≤◌, ◌<◌, ◌+◌, ◌^◌, ℕ, List, [], ◌∷◌, ◌++◌, length, map, filter, Option, Some, None, refl, sym, subst, ◌∙◌, arith}
use Rattle.std.proofs.lemmas.Option.{same_Some, slice_get_within}
use Rattle.list_laws.proofs.Places.{element_at}
use Rattle.outside.specs.Faults.{LAST_COUNT}
use Rattle.mica_words.proofs.Hashes.{partition_of-below}
use Rattle.partition_model.specs.declared.options.Mode.TheVariants.{Cache, Store}
use Rattle.partition_model.specs.declared.options.Options.{Options}
use Rattle.connections.specs.Log.{Log}
use Rattle.fronts.specs.Answered.{Answered}
use Rattle.fronts.specs.Placed.{Placed}
use Rattle.served.specs.Served.{empty_origin, AnswersLawfully}
use Rattle.one_order.specs.Order.{OneOrder}
use Rattle.one_order.proofs.Ordered.{ordered}
use Rattle.memcached_page.specs.Shelf.{Shelf, empty}
use Rattle.memcached_page.specs.Course.{Deed, carried, flushed, went, lost, moved, Done, after, IsDeed, IsCourse}
use Rattle.memcached_page.specs.Kept.{AtEach, LostForCause, RefusesWhereFull, shelf_in}
use Rattle.memcached_page.specs.Talk.{Story, TalksThrough, ClosesForCause, SettlesAll, TellsSeconds}
use Rattle.memcached_page.specs.Page.{is_turned_away, part_of, ServesKeyByKey}
use Rattle.part_courses.proofs.Courses.{courses}
use Rattle.full_parts.proofs.Answered.{law as all_refuse}
use Rattle.client_stories.specs.Stories.{Talked, ServesClientsOfStore}
use Rattle.client_stories.proofs.Marks.{Mark, for_client}
use Rattle.client_stories.proofs.Pieces.{part, IsMark, IsAskedDeed}
use Rattle.client_stories.proofs.Facts as share
use Rattle.client_stories.proofs.Parts as parts

-- A store loses none.
none_lost : (class : List ℕ → ℕ) (options : Options) (from shelf left : Shelf) (earlier dones : List Done) → options.mode ≡ Store → IsCourse options.mode shelf dones left → AtEach (LostForCause options.words class from) earlier dones
none_lost class options from shelf left earlier [] is_store course = tt
none_lost class options from shelf left earlier (done ∷ dones) is_store course = (one done.deed course.0, none_lost class options from (after done.deed shelf) left (earlier ++ done ∷ []) dones is_store course.1)
  where
    one : (deed : Deed) → IsDeed options.mode shelf deed → LostForCause options.words class from earlier deed
    one (carried second number asked says) is = tt
    one (flushed own number flush took) is = tt
    one (went second key) is = tt
    one (lost key) is = absurd (let both : Store ≡ Cache = sym is_store ∙ is in cc)
    one (moved key) is = tt

module _ (options : Options) (base most in_all lacked : ℕ) (fronts : List (List Answered)) (runs : ℕ → List Placed) (before logs : ℕ → Log) (is_store : options.mode ≡ Store) (some : 1 ≤ options.partitions)
    (small : base + options.wear < 2 ^ 62) (lawful : AnswersLawfully options empty_origin fronts runs)
    (talked : (f : ℕ) (own : List Answered) → slice_get fronts f ≡ Some own → Talked options base most in_all lacked own (before f) (logs f)) where
  -- the marks of each share, by what it answered
  abbrev marks_by : (f : ℕ) (o : Option (List Answered)) → slice_get fronts f ≡ o → List Mark
  marks_by f None is = []
  marks_by f (Some own) is = (share.marked options base most in_all lacked some own (before f) (logs f) (talked f own is)).marks

  abbrev marks : ℕ → List Mark
  marks f = marks_by f (slice_get fronts f) refl

  own_answers : (f : ℕ) (own : List Answered) (o : Option (List Answered)) (is : slice_get fronts f ≡ o) → o ≡ Some own → map (λ m. m.answered) (marks_by f o is) ≡ own
  own_answers f own None is same = absurd (cc)
  own_answers f own (Some other) is same =
      let t = talked f other is in
      (share.marked options base most in_all lacked some other (before f) (logs f) t).answered ∙ t.turns.answered ∙ same_Some other own same

  none_beyond : (f : ℕ) (o : Option (List Answered)) (is : slice_get fronts f ≡ o) → length fronts ≤ f → marks_by f o is ≡ []
  none_beyond f None is high = refl
  none_beyond f (Some own) is high = absurd (let low = slice_get_within fronts f own is in omega (arith, low, high))

  are_marks : (f : ℕ) (o : Option (List Answered)) (is : slice_get fronts f ≡ o) → AllByRecursion (IsMark options base) (marks_by f o is)
  are_marks f None is = tt
  are_marks f (Some own) is = firsts (share.marked options base most in_all lacked some own (before f) (logs f) (talked f own is)).marks (share.marked options base most in_all lacked some own (before f) (logs f) (talked f own is)).each
    where
      firsts : (list : List Mark) → AllByRecursion (share.IsWhole options base most in_all lacked some own (before f) (logs f) (talked f own is)) list → AllByRecursion (IsMark options base) list
      firsts [] all = tt
      firsts (m ∷ list) all = (all.0.0, firsts list all.1)

  orders : (p : ℕ) → p < options.partitions → OneOrder options [] p fronts
  orders p low = ordered options empty_origin fronts runs lawful p low

  abbrev course : ℕ → List Done
  course p = parts.course options base some fronts orders marks (λ f own at. own_answers f own (slice_get fronts f) refl at) (λ f high. none_beyond f (slice_get fronts f) refl high) (λ f. are_marks f (slice_get fronts f) refl) p

  abbrev deeds : ℕ → List Done
  deeds f = parts.deeds options base some fronts orders marks (λ f own at. own_answers f own (slice_get fronts f) refl at) (λ f high. none_beyond f (slice_get fronts f) refl high) (λ f. are_marks f (slice_get fronts f) refl) f

  one_course : (p : ℕ) → IsCourse options.mode empty (course p) (shelf_in empty (course p))
  one_course p = subst (λ mode. IsCourse mode empty (course p) (shelf_in empty (course p))) (sym is_store)
      (courses options base p _ is_store small (parts.parts_served options base some fronts orders marks (λ f own at. own_answers f own (slice_get fronts f) refl at) (λ f high. none_beyond f (slice_get fronts f) refl high) (λ f. are_marks f (slice_get fronts f) refl) p))

  -- the story of each share
  abbrev story_by : (f : ℕ) (o : Option (List Answered)) → slice_get fronts f ≡ o → Story
  story_by f None is = record { deeds = deeds f; reached = λ n. 0; lacking = [] }
  story_by f (Some own) is = record { deeds = deeds f; reached = share.reached_by options base most in_all lacked some own (before f) (logs f) (talked f own is); lacking = (talked f own is).lacking }

  abbrev story : ℕ → Story
  story f = story_by f (slice_get fronts f) refl

  deeds_of : (f : ℕ) (o : Option (List Answered)) (is : slice_get fronts f ≡ o) → (story_by f o is).deeds ≡ deeds f
  deeds_of f None is = refl
  deeds_of f (Some own) is = refl

  record Facts (f : ℕ) (s : Story) : Type 0 where
    pub foretold : (logs f).schedule ≡ (before f).schedule
    pub clients : TalksThrough options.partitions (logs f) s
    pub closes : ClosesForCause options.partitions (logs f) s
    pub settled : SettlesAll options.partitions (logs f) s
    pub seconds : TellsSeconds (logs f) s
    pub few : min (length s.lacking) LAST_COUNT ≤ lacked

  abbrev Zip : ℕ → List Mark → Type 0
  Zip f list = AllZip (IsAskedDeed options base) (filter for_client list) (filter (λ (done : Done). is_some done.client) (deeds f))

  facts_by : (f : ℕ) (o : Option (List Answered)) (is : slice_get fronts f ≡ o) → f < length fronts → Zip f (marks_by f o is) → marks f ≡ marks_by f o is → Facts f (story_by f o is)
  facts_by f None is low zip same = absurd (let own = element_at fronts f low in let no : None ≡ Some own.0 = sym is ∙ own.1 in cc)
  facts_by f (Some own) is low zip same =
      let t = talked f own is in
      let p = parts.story options base some fronts orders marks (λ f own at. own_answers f own (slice_get fronts f) refl at) (λ f high. none_beyond f (slice_get fronts f) refl high) (λ f. are_marks f (slice_get fronts f) refl) f in
      record {
        foretold = t.same;
        clients = share.clients options base most in_all lacked some own (before f) (logs f) t (deeds f) zip;
        closes = share.closes options base most in_all lacked some own (before f) (logs f) t (deeds f) zip;
        settled = share.settled options base most in_all lacked some own (before f) (logs f) t (deeds f) zip;
        seconds = share.seconds options base most in_all lacked some own (before f) (logs f) t (deeds f) zip (λ (w : Mark × parts.Piece). w.1.dones) (λ (w : Mark × parts.Piece). w.0) p.pairs (p.firsts ∙ same) refl
            (parts.each_second options base some fronts orders marks (λ f own at. own_answers f own (slice_get fronts f) refl at) (λ f high. none_beyond f (slice_get fronts f) refl high) (λ f. are_marks f (slice_get fronts f) refl) f);
        few = t.few;
      }

  facts : (f : ℕ) → f < length fronts → Facts f (story f)
  facts f low = facts_by f (slice_get fronts f) refl low
      (parts.asked_zip options base some fronts orders marks (λ f own at. own_answers f own (slice_get fronts f) refl at) (λ f high. none_beyond f (slice_get fronts f) refl high) (λ f. are_marks f (slice_get fronts f) refl) f) refl

  pub serves : ServesKeyByKey options (length fronts) lacked (λ part. empty) before logs
  serves = record {
    part = part options base;
    parted = λ key. partition_of-below options.hashing key options.partitions some;
    courses = course;
    left = λ p. shelf_in empty (course p);
    one_course = λ p low. one_course p;
    stories = story;
    in_order = λ p f low within. subst (λ l. filter (λ (done : Done). done.share == f) (course p) ≡ filter (λ (done : Done). part_of (part options base) done.deed == p) l) (sym (deeds_of f (slice_get fronts f) refl))
        (parts.in_order options base some fronts orders marks (λ f own at. own_answers f own (slice_get fronts f) refl at) (λ f high. none_beyond f (slice_get fronts f) refl high) (λ f. are_marks f (slice_get fronts f) refl) p f);
    no_others = λ p low. parts.no_others options base some fronts orders marks (λ f own at. own_answers f own (slice_get fronts f) refl at) (λ f high. none_beyond f (slice_get fronts f) refl high) (λ f. are_marks f (slice_get fronts f) refl) p;
    in_time = tt;
    foretold = λ f low. (facts f low).foretold;
    clients = λ f low. (facts f low).clients;
    closes = λ f low. (facts f low).closes;
    settled = λ f low. (facts f low).settled;
    seconds = λ f low. (facts f low).seconds;
    few = λ f low. (facts f low).few;
    turned_away = λ f. count_by is_turned_away (logs f).entries;
    counted = λ f low. refl;
  }

  pub refuses : (p : ℕ) → RefusesWhereFull options empty (serves.courses p)
  unfolding serves
  refuses p = all_refuse options base p _ is_store small (parts.parts_served options base some fronts orders marks (λ f own at. own_answers f own (slice_get fronts f) refl at) (λ f high. none_beyond f (slice_get fronts f) refl high) (λ f. are_marks f (slice_get fronts f) refl) p)

pub law : ServesClientsOfStore
law options base most in_all lacked fronts runs before logs is_store some small lawful talked =
    let all = serves options base most in_all lacked fronts runs before logs is_store some small lawful talked in
    record {
      serves = all;
      class = λ key. 0;
      keeps = λ p low. none_lost (λ key. 0) options empty empty (all.left p) [] (all.courses p) is_store (all.one_course p low);
      refused = λ p low. refuses options base most in_all lacked fronts runs before logs is_store some small lawful talked p;
    }
