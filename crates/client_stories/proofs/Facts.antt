-- One share: the marks of what its front answered, and what its story says on the page.
use Rattle.std.specs.Prelude.{is_some, IfSome, filter_map, flat_map, AllPairs, slice_get}
use Rattle.std.specs.List.{AllZip, AllByRecursion, cons_option}
use Rattle.std.proofs.Common.{◌≡◌, ◌≤◌, ◌<◌, ◌+◌, ◌-◌, inl, inr, ℕ, zero, suc, false, List, [], ◌∷◌, length, map, filter, take, drop, Option, refl, sym, ap, subst, ◌∙◌, arith, length-append}
use Rattle.std.proofs.lemmas.List.{length-map}
use Rattle.partition_model.specs.declared.options.Options.{Options}
use Rattle.connections.specs.Connection.{Connection}
use Rattle.connections.specs.State.{Entry, closed, state_after}
use Rattle.connections.specs.Log.{Log, connections_of, received_of, sent_of, state_of, second_of as told_second}
use Rattle.fronts.specs.Answered.{Answered}
use Rattle.command_answers.specs.Seconds.{second_in, AreAt}
use Rattle.command_answers.specs.Sweeps.{IsSweep}
use Rattle.connection_loop.specs.Given.{Given, answers_in, given_to}
use Rattle.connection_loop.specs.Closing.{IsSettled}
use Rattle.connection_loop.specs.Moments.{TalksWithAll, IsCaused, GivenSince}
use Rattle.connection_loop.specs.Turns.{Turn}
use Rattle.memcached_page.specs.Course.{Done}
use Rattle.memcached_page.specs.Talk as page
use Rattle.memcached_page.specs.Talk.{Story, TalksThrough, ClosesForCause, SettlesAll, TellsSeconds, IsTold, TalkAt, calls_by, done_at, asked_in, second_of, is_timed}
use Rattle.part_courses.specs.Courses.{Purpose}
use Rattle.client_stories.specs.Stories.{Talked}
use Rattle.client_stories.proofs.Weave.{Parted, parted, zip_long, ZipParted, zip_parted, none_of}
use Rattle.client_stories.proofs.Marks.{Mark, given_mark, swept_mark, for_client, Marked, mark}
use Rattle.client_stories.proofs.Fits.{IsFound}
use Rattle.connection_loop.specs.Talk.{Talk}
use Rattle.client_stories.proofs.Talks.{OnPage}
use Rattle.client_stories.proofs.Pieces.{IsMark, IsAskedDeed}
use Rattle.client_stories.proofs.Moments.{first_at, talks_at, rises_at, caused_at, since_at, talk_in, none_yet, same_timed}
use Rattle.client_stories.proofs.Shares.{woven, pairs, At, at, page_at, take_first, drop_first}
use Rattle.command_answers.proofs.AskLaws.{all_append}
use Rattle.connection_loop.specs.Going.{Rise}
use Rattle.client_stories.proofs.Seconds.{OfTold, given_told, swept_told, pairs_of, seconds_in, rise_of}
use Rattle.client_stories.proofs.Ends.{if_then, is_among, is_to_come, closes_for, rests_for}

module _ (options : Options) (base most in_all lacked : ℕ) (some : 1 ≤ options.partitions) (own : List Answered) (before log : Log) (t : Talked options base most in_all lacked own before log) where
  abbrev paired : List (Given × Purpose)
  paired = pairs options base most some log.schedule t.lacking log.entries t.given t.through t.fit

  -- what was given as so many calls were not made yet
  abbrev at_end : ℕ → List Given
  at_end k = first_at options base most log.schedule t.lacking k log.entries t.given t.through

  abbrev pub reached_by : ℕ → ℕ
  reached_by n = length (at_end (length log.entries - n))

  -- Marks

  abbrev pub IsWhole : Mark → Type 0
  IsWhole m = IsMark options base m × IfSome (second_in options m.answered) (IsTold log)

  all_told : OfTold (IsTold log) log.entries
  all_told k low = (length log.entries - k, omega arith, ap (λ n. told_second (drop n log.entries)) (omega (arith, low)))

  given_whole : (list : List (Given × Purpose)) → AllByRecursion (λ z. IsFound options base z.0.answered z.1) list
      → AllByRecursion (λ a. IfSome (second_in options a) (IsTold log)) (answers_in (map (λ z. z.0) list)) → AllByRecursion (λ z. IsWhole (given_mark z)) list
  given_whole [] each told = tt
  given_whole (z ∷ list) each told = ((record { for = each.0.0; wanted = sym each.0.1 }, told.0), given_whole list each.1 told.1)

  swept_whole : (swept : List Answered) → AllByRecursion (λ a. IsSweep options base a × IfSome (second_in options a) (IsTold log)) swept → AllByRecursion (λ a. IsWhole (swept_mark a)) swept
  swept_whole [] each = tt
  swept_whole (a ∷ swept) each = ((record { for = each.0.0; wanted = refl }, each.0.1), swept_whole swept each.1)

  all_swept : (turns : List Turn) → AllByRecursion (λ turn. AllByRecursion (λ a. IsSweep options base a × IfSome (second_in options a) (IsTold log)) turn.swept) turns
      → AllByRecursion (λ turn. AllByRecursion (λ a. IsWhole (swept_mark a)) turn.swept) turns
  all_swept [] each = tt
  all_swept (turn ∷ turns) each = (swept_whole turn.swept each.0, all_swept turns each.1)

  own_pairs : map (λ z. z.0) paired ≡ t.given
  own_pairs = (woven options base most some log.schedule t.lacking log.entries t.given t.through t.fit).firsts

  pub marked : Marked IsWhole t.turns.turns paired
  marked = mark IsWhole t.turns.turns paired (own_pairs ∙ sym t.turns.given)
      (given_whole paired (woven options base most some log.schedule t.lacking log.entries t.given t.through t.fit).each
      (subst (λ l. AllByRecursion (λ a. IfSome (second_in options a) (IsTold log)) (answers_in l)) (sym own_pairs) (given_told options base most log.schedule t.lacking (IsTold log) log.entries t.given t.through all_told)))
      (all_swept t.turns.turns (swept_told options base most log.schedule t.lacking (IsTold log) in_all log.script.piece t.turns.turns t.turns.short (subst (OfTold (IsTold log)) (sym t.turns.calls) all_told)))

  -- The story

  module _ (deeds : List Done) (zip : AllZip (IsAskedDeed options base) (filter for_client marked.marks) (filter (λ done. is_some done.client) deeds)) where
    abbrev pub story : Story
    story = record { deeds = deeds; reached = reached_by; lacking = t.lacking }

    abbrev asked : List Done
    asked = filter (λ done. is_some done.client) deeds

    zip_given : (list : List (Given × Purpose)) (dones : List Done) → AllZip (IsAskedDeed options base) (map given_mark list) dones → AllZip (λ z done. IsAskedDeed options base (given_mark z) done) list dones
    zip_given [] [] zip = tt
    zip_given [] (done ∷ dones) zip = absurd zip
    zip_given (z ∷ list) [] zip = absurd zip
    zip_given (z ∷ list) (done ∷ dones) zip = (zip.0, zip_given list dones zip.1)

    asked_zip : AllZip (λ z done. IsAskedDeed options base (given_mark z) done) paired asked
    asked_zip = zip_given paired asked (subst (λ l. AllZip (IsAskedDeed options base) l asked) marked.given zip)

    abbrev moment : (k : ℕ) → At options base most some log.schedule t.lacking log.entries t.given t.through t.fit asked asked_zip k
    moment k = at options base most some log.schedule t.lacking log.entries t.given t.through t.fit asked asked_zip k

    abbrev paged : (k c : ℕ) → Talk options base (received_of c (drop k log.entries)) (sent_of c (drop k log.entries)) (given_to c (at_end k)) → Type 0
    paged k c talk = OnPage options base (received_of c (drop k log.entries)) (sent_of c (drop k log.entries)) (page.done_for c (take (length (at_end k)) asked)) talk.said talk.rest

    on_page_at : (k c : ℕ) (talk : Talk options base (received_of c (drop k log.entries)) (sent_of c (drop k log.entries)) (given_to c (at_end k))) → paged k c talk
    on_page_at k c talk = page_at options base most some log.schedule t.lacking log.entries t.given t.through t.fit asked asked_zip k c (sent_of c (drop k log.entries)) talk

    talk_at : (k c : ℕ) → Talk options base (received_of c (drop k log.entries)) (sent_of c (drop k log.entries)) (given_to c (at_end k))
    talk_at k c = talk_in options base most log.schedule t.lacking c (received_of c (drop k log.entries)) (sent_of c (drop k log.entries)) (given_to c (at_end k))
        (talks_at options base most log.schedule t.lacking k log.entries t.given t.through c)

    -- Talks

    longer : (n m : ℕ) → n ≤ m → story.reached n ≤ story.reached m
    longer n m le =
        let more = rises_at options base most log.schedule t.lacking (length log.entries - m) (length log.entries - n) log.entries t.given t.through (omega (arith, le)) in
        let long = ap length more.1 in let sum = length-append (at_end (length log.entries - n)) more.0 in omega (arith, long, sum)

    all_long : story.reached (length log.entries) ≡ length asked
    all_long =
        ap (λ k. length (at_end k)) (let none : length log.entries - length log.entries ≡ 0 = omega arith in none)
        ∙ ap length (sym own_pairs) ∙ length-map paired (λ z. z.0) ∙ zip_long (λ z done. IsAskedDeed options base (given_mark z) done) paired asked asked_zip

    pub clients : TalksThrough options.partitions log story
    clients = record {
      rises = λ n m le within. longer n m le;
      ends = all_long;
      talks = λ n c within. (on_page_at (length log.entries - n) c (talk_at (length log.entries - n) c)).talk;
    }

    -- Ends

    pub closes : ClosesForCause options.partitions log story
    closes n c low is = elim caused [
      | inl among ↦ inl (is_among c t.lacking among)
      | inr may ↦ inr (if_then (slice_get (state_after log.schedule (calls_by log n)).connections c) may (λ connection given. closes_for options base (received_of c (calls_by log n)) (sent_of c (calls_by log n))
          (given_to c (at_end (length log.entries - n))) (page.done_for c (take (story.reached n) asked)) connection given.0 (on_page_at (length log.entries - n) c given.0) given.1))
    ]
      where
        caused : IsCaused options base log.schedule t.lacking (closed c) (calls_by log n) (at_end (length log.entries - n))
        caused = subst (λ k. IsCaused options base log.schedule t.lacking (closed c) (calls_by log n) (at_end k)) (let same : suc (length log.entries - (n + 1)) ≡ length log.entries - n = omega (arith, low) in same)
            (caused_at options base most log.schedule t.lacking (length log.entries - (n + 1)) log.entries t.given t.through (closed c) (calls_by log n) is)

    -- at rest by the calls of so many moments before the end
    abbrev RestsAt : ℕ → ℕ → Connection → Type 0
    RestsAt k c connection =
        (talk : page.Talks options.partitions (received_of c (drop k log.entries)) (sent_of c (drop k log.entries)) (page.done_for c (take (length (at_end k)) asked)))
        × page.RestsFor options.partitions connection (sent_of c (drop k log.entries)) talk.said talk.rest

    settled_one : (c : ℕ) (connection : Connection) → IsSettled options base connection (received_of c log.entries) (sent_of c log.entries) (given_to c t.given) → page.IsAtRest options.partitions log story c connection
    settled_one c connection (inl is) = inl is
    settled_one c connection (inr is) = inr (
      is.0,
      subst (λ k. RestsAt k c connection) (let none : 0 ≡ length log.entries - length log.entries = omega arith in none)
          (rests_for options base (received_of c log.entries) (sent_of c log.entries) (given_to c t.given) (page.done_for c (take (length t.given) asked)) connection is.1 (on_page_at 0 c is.1) is.2),
    )

    pub settled : SettlesAll options.partitions log story
    settled some_piece c = if_then (slice_get (connections_of log) c) (t.caught_up some_piece c) (λ connection is. elim is [
      | inl to_come ↦ inl (is_to_come c (state_of log).later to_come)
      | inr rests ↦ inr (settled_one c connection rests)
    ])

    -- Seconds

    -- what was done between two moments
    record Between (k : ℕ) : Type 0 where
      pub own_pairs_later : List (Given × Purpose)
      pub deeds_later : List Done
      pub since : GivenSince options (drop k log.entries) (at_end (suc k)) (at_end k)
      pub given_later : map (λ z. z.0) own_pairs_later ≡ since.0
      pub zip_later : AllZip (λ z done. IsAskedDeed options base (given_mark z) done) own_pairs_later deeds_later
      pub done_is : drop (length (at_end (suc k))) (take (length (at_end k)) asked) ≡ deeds_later

    between : (k : ℕ) → k < length log.entries → Between k
    between k low = record {
      own_pairs_later = p.later;
      deeds_later = d.later;
      since = since;
      given_later = p.laters;
      zip_later = d.laters;
      done_is = (λ i. drop (many i) ((ap (λ n. take n asked) (sym now.long) ∙ ap (take (length now.first)) now.whole ∙ take_first now.first now.later ∙ d.whole) i)) ∙ drop_first d.first d.later;
    }
      where
        since : GivenSince options (drop k log.entries) (at_end (suc k)) (at_end k)
        since = since_at options base most log.schedule t.lacking k log.entries t.given t.through low

        now : At options base most some log.schedule t.lacking log.entries t.given t.through t.fit asked asked_zip k
        now = moment k

        p : Parted (λ z. z.0) now.pairs_first (at_end (suc k)) since.0
        p = parted (λ z. z.0) now.pairs_first (at_end (suc k)) since.0 (now.given_is ∙ since.1)

        d : ZipParted (λ z done. IsAskedDeed options base (given_mark z) done) p.first p.later now.first
        d = zip_parted (λ z done. IsAskedDeed options base (given_mark z) done) p.first p.later now.first (subst (λ l. AllZip (λ z done. IsAskedDeed options base (given_mark z) done) l now.first) p.whole now.zip_first)

        many : length (at_end (suc k)) ≡ length d.first
        many = ap length (sym p.firsts) ∙ length-map p.first (λ z. z.0) ∙ zip_long (λ z done. IsAskedDeed options base (given_mark z) done) p.first d.first d.firsts

    at_second : (s : ℕ) (list : List (Given × Purpose)) (dones : List Done) → AllZip (λ z done. IsAskedDeed options base (given_mark z) done) list dones
        → AreAt options s (answers_in (map (λ z. z.0) list)) → AllByRecursion (λ (done : Done). IfSome (second_of done.deed) (λ x. x ≡ s)) dones
    at_second s [] [] zip are = tt
    at_second s [] (done ∷ dones) zip are = absurd zip
    at_second s (z ∷ list) [] zip are = absurd zip
    at_second s (z ∷ list) (done ∷ dones) zip are = (subst (λ o. IfSome o (λ x. x ≡ s)) (sym zip.0.2) are.0, at_second s list dones zip.1 are.1)

    none_at_first : done_at story 0 ≡ []
    none_at_first = ap (λ l. take (length l) asked) (none_yet options base most log.schedule t.lacking (at_end (length log.entries - 0))
        (subst (λ e. TalksWithAll options base most t.lacking e (at_end (length log.entries - 0))) (none_left log.entries) (talks_at options base most log.schedule t.lacking (length log.entries - 0) log.entries t.given t.through)))
      where
        none_left : (xs : List Entry) → drop (length xs - 0) xs ≡ []
        none_left [] = refl
        none_left (x ∷ xs) = ap (λ n. drop n (x ∷ xs)) (let same : length (x ∷ xs) - 0 ≡ suc (length xs - 0) = omega arith in same) ∙ none_left xs

    at_moment : (n : ℕ) → n ≤ length log.entries → AllByRecursion (λ (done : Done). IfSome (second_of done.deed) (λ x. x ≡ told_second (calls_by log n))) (done_at story n)
    at_moment zero le = subst (AllByRecursion (λ (done : Done). IfSome (second_of done.deed) (λ x. x ≡ told_second (calls_by log 0)))) (sym none_at_first) tt
    at_moment (suc n) le =
        let k : ℕ = length log.entries - suc n in
        let b = between k (omega (arith, le)) in
        let next : suc k ≡ length log.entries - n = omega (arith, le) in
        subst (AllByRecursion (λ (done : Done). IfSome (second_of done.deed) (λ x. x ≡ told_second (calls_by log (suc n))))) (sym (ap (λ j. drop (length (at_end j)) (take (length (at_end k)) asked)) (sym next) ∙ b.done_is))
        (at_second (told_second (drop k log.entries)) b.own_pairs_later b.deeds_later b.zip_later (subst (λ l. AreAt options (told_second (drop k log.entries)) (answers_in l)) (sym b.given_later) b.since.2.at))

    timed_moment : (n : ℕ) → n ≤ length log.entries → is_timed (calls_by log n) ≡ false → done_at story n ≡ []
    timed_moment zero le off = none_at_first
    timed_moment (suc n) le off =
        let k : ℕ = length log.entries - suc n in
        let b = between k (omega (arith, le)) in
        let next : suc k ≡ length log.entries - n = omega (arith, le) in
        let none : b.since.0 ≡ [] = b.since.2.timed (sym (same_timed (drop k log.entries)) ∙ off) in
        let few : length b.deeds_later ≡ 0 = sym (zip_long (λ z done. IsAskedDeed options base (given_mark z) done) b.own_pairs_later b.deeds_later b.zip_later) ∙ sym (length-map b.own_pairs_later (λ z. z.0)) ∙ ap length (b.given_later ∙ none) in
        ap (λ j. drop (length (at_end j)) (take (length (at_end k)) asked)) (sym next) ∙ b.done_is ∙ none_of b.deeds_later few

    module _ {A : Type 0} (of : A → List Done) (mark_of : A → Mark) where
      abbrev IsSecond : A → Type 0
      IsSecond x = AllByRecursion (λ (done : Done). second_of done.deed ≡ second_in options (mark_of x).answered) (of x)

      told_ones : (o : Option ℕ) (dones : List Done) → IfSome o (IsTold log) → AllByRecursion (λ (done : Done). second_of done.deed ≡ o) dones → AllByRecursion (λ (done : Done). IfSome (second_of done.deed) (IsTold log)) dones
      told_ones o [] told same = tt
      told_ones o (done ∷ dones) told same = (subst (λ p. IfSome p (IsTold log)) (sym same.0) told, told_ones o dones told same.1)

      told_all : (list : List A) → AllByRecursion IsWhole (map mark_of list) → AllByRecursion IsSecond list → AllByRecursion (λ (done : Done). IfSome (second_of done.deed) (IsTold log)) (flat_map of list)
      told_all [] whole same = tt
      told_all (x ∷ list) whole same = all_append (λ (done : Done). IfSome (second_of done.deed) (IsTold log)) (of x) (flat_map of list)
          (told_ones (second_in options (mark_of x).answered) (of x) whole.0.1 same.0) (told_all list whole.1 same.1)

      filter_mapped : (list : List A) → filter_map (second_in options) (map (λ (m : Mark). m.answered) (map mark_of list)) ≡ filter_map (λ x. second_in options (mark_of x).answered) list
      filter_mapped [] = refl
      filter_mapped (x ∷ list) = ap (cons_option (second_in options (mark_of x).answered)) (filter_mapped list)

      pub seconds : (list : List A) → map mark_of list ≡ marked.marks → deeds ≡ flat_map of list → AllByRecursion IsSecond list → TellsSeconds log story
      seconds list marks_are deeds_are same = record {
        at = at_moment;
        timed = timed_moment;
        told = subst (AllByRecursion (λ (done : Done). IfSome (second_of done.deed) (IsTold log))) (sym deeds_are) (told_all list (subst (AllByRecursion IsWhole) (sym marks_are) marked.each) same);
        never_fall = subst (λ l. AllPairs (λ earlier later. earlier ≤ later) (filter_map (λ (done : Done). second_of done.deed) l)) (sym deeds_are)
            (pairs_of 0 t.seconds.0 (seconds_in (flat_map of list)) (rise_of of (λ x. second_in options (mark_of x).answered) list 0 t.seconds.0 same
            (subst (λ l. Rise 0 l t.seconds.0) (ap (filter_map (second_in options)) (sym (marked.answered ∙ t.turns.answered) ∙ ap (map (λ (m : Mark). m.answered)) (sym marks_are)) ∙ filter_mapped list) t.seconds.1)));
      }
