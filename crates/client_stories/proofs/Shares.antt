-- What the thread of a share answered, each with what it was given for; and its talks on the page.
use Rattle.std.specs.Prelude.{◌==◌}
use Rattle.std.specs.List.{AllZip}
use Rattle.std.proofs.Common.{◌≡◌, ◌≤◌, ℕ, Bool, true, false, cond, List, [], ◌∷◌, ◌++◌, length, map, filter, take, drop, refl, sym, ap, subst, ◌∙◌, arith}
use Rattle.std.proofs.lemmas.List.{length-map, map-append}
use Rattle.std.proofs.lemmas.List.Elements.{filter-append}
use Rattle.partition_model.specs.declared.options.Options.{Options}
use Rattle.connections.specs.declared.schedule.Step.{Step}
use Rattle.connections.specs.State.{Entry}
use Rattle.connections.specs.Log.{received_of, sent_of}
use Rattle.fronts.specs.Answered.{Answered}
use Rattle.command_answers.specs.Spells.{Spells}
use Rattle.connection_loop.specs.Given.{Given, answers_in, given_to}
use Rattle.connection_loop.specs.Moments.{TalksThrough}
use Rattle.connection_loop.specs.Talk.{Talk}
use Rattle.memcached_page.specs.Course.{Done}
use Rattle.memcached_page.specs.Talk.{is_for, done_for}
use Rattle.part_courses.specs.Courses.{Purpose}
use Rattle.client_stories.specs.Stories.{AsksFit}
use Rattle.client_stories.proofs.Weave.{same_first, Parted, parted, zip_long, ZipParted, zip_parted, Woven, weave}
use Rattle.client_stories.proofs.Purposes.{purposes_of, stable}
use Rattle.client_stories.proofs.Talks.{AreDeeds, purposes_long, OnPage, on_page}
use Rattle.client_stories.proofs.Marks.{given_mark}
use Rattle.client_stories.proofs.Fits.{IsFound, found}
use Rattle.client_stories.proofs.Moments.{received_more, first_at, talks_at, begins_at, talk_in}
use Rattle.client_stories.proofs.Pieces.{IsAskedDeed}

-- what is given of the front's answers to one client, by those that begin with these
given_more : (c : ℕ) (first later : List Given) → given_to c (first ++ later) ≡ given_to c first ++ given_to c later
given_more c first later = ap answers_in (filter-append (λ g. g.to == c) first later) ∙ map-append (λ (g : Given). g.answered) (filter (λ g. g.to == c) first) (filter (λ g. g.to == c) later)

-- a relation of values, of what they are mapped from
zip_from_map : {A B C : Type 0} (R : C → B → Type 0) (f : A → C) (xs : List A) (ys : List B) → AllZip R (map f xs) ys → AllZip (λ x y. R (f x) y) xs ys
zip_from_map R f [] [] zip = tt
zip_from_map R f [] (y ∷ ys) zip = absurd zip
zip_from_map R f (x ∷ xs) [] zip = absurd zip
zip_from_map R f (x ∷ xs) (y ∷ ys) zip = (zip.0, zip_from_map R f xs ys zip.1)

pub take_first : {X : Type 0} (xs ys : List X) → take (length xs) (xs ++ ys) ≡ xs
take_first [] ys = refl
take_first (x ∷ xs) ys = ap (λ l. x ∷ l) (take_first xs ys)

pub drop_first : {X : Type 0} (xs ys : List X) → drop (length xs) (xs ++ ys) ≡ ys
drop_first [] ys = refl
drop_first (x ∷ xs) ys = drop_first xs ys

module _ (options : Options) (base most : ℕ) (some : 1 ≤ options.partitions) (schedule : List Step) (lacking : List ℕ) (entries : List Entry) (given : List Given)
    (through : TalksThrough options base most schedule lacking entries given) (fit : (c : ℕ) → AsksFit (received_of c entries)) where
  pub final : (c : ℕ) → Talk options base (received_of c entries) (sent_of c entries) (given_to c given)
  final c = talk_in options base most schedule lacking c (received_of c entries) (sent_of c entries) (given_to c given) (talks_at options base most schedule lacking 0 entries given through c)

  -- what each answer to a client was given for
  abbrev purposes_for : ℕ → List Purpose
  purposes_for c = purposes_of (final c).said

  abbrev IsGiven : Given → Purpose → Type 0
  IsGiven g purpose = IsFound options base g.answered purpose

  given_zip : (c : ℕ) → AllZip IsGiven (filter (λ g. g.to == c) given) (purposes_for c)
  given_zip c = zip_from_map (IsFound options base) (λ (g : Given). g.answered) (filter (λ g. g.to == c) given) (purposes_for c)
      (subst (λ l. AllZip (IsFound options base) l (purposes_for c)) (final c).answered (found options base (received_of c entries) (final c).said (final c).rest (fit c) (final c).spells))

  pub woven : Woven (λ g. g.to) IsGiven given purposes_for
  woven = weave (λ g. g.to) IsGiven given purposes_for given_zip

  abbrev pub pairs : List (Given × Purpose)
  pairs = woven.pairs

  -- These deeds, one for each answer to a client, in order.
  abbrev pub IsDone : Given × Purpose → Done → Type 0
  IsDone z done = IsAskedDeed options base (given_mark z) done

  module _ (asked : List Done) (zip : AllZip IsDone pairs asked) where
    -- of one client
    abbrev of_client : ℕ → List (Given × Purpose) → List Purpose
    of_client c some_pairs = map (λ z. z.1) (filter (λ z. z.0.to == c) some_pairs)

    are_deeds : (c : ℕ) (first : List (Given × Purpose)) (dones : List Done) → AllZip IsDone first dones
        → AreDeeds options base (given_to c (map (λ z. z.0) first)) (of_client c first) (done_for c dones)
    are_deeds c [] [] zip = tt
    are_deeds c [] (done ∷ dones) zip = absurd zip
    are_deeds c (z ∷ first) [] zip = absurd zip
    are_deeds c (z ∷ first) (done ∷ dones) zip =
        subst (λ o. AreDeeds options base (given_to c (z.0 ∷ map (λ z. z.0) first)) (of_client c (z ∷ first)) (map (λ (d : Done). d.deed) (cond (is_for c o) (done ∷ filter (λ d. is_for c d.client) dones) (filter (λ d. is_for c d.client) dones)))) (sym zip.0.0)
        (by (z.0.to == c) (are_deeds c first dones zip.1))
      where
        by : (b : Bool) → AreDeeds options base (given_to c (map (λ z. z.0) first)) (of_client c first) (done_for c dones) → AreDeeds options base (answers_in (cond b (z.0 ∷ filter (λ g. g.to == c) (map (λ z. z.0) first)) (filter (λ g. g.to == c) (map (λ z. z.0) first))))
            (map (λ (z : Given × Purpose). z.1) (cond b (z ∷ filter (λ z. z.0.to == c) first) (filter (λ z. z.0.to == c) first)))
            (map (λ (d : Done). d.deed) (cond b (done ∷ filter (λ d. is_for c d.client) dones) (filter (λ d. is_for c d.client) dones)))
        by true rest = (zip.0.1, rest)
        by false rest = rest

    many : (c : ℕ) (first : List (Given × Purpose)) → length (of_client c first) ≡ length (given_to c (map (λ z. z.0) first))
    many c [] = refl
    many c (z ∷ first) = by (z.0.to == c) (many c first)
      where
        by : (b : Bool) → length (of_client c first) ≡ length (given_to c (map (λ z. z.0) first)) → length (map (λ (z : Given × Purpose). z.1) (cond b (z ∷ filter (λ z. z.0.to == c) first) (filter (λ z. z.0.to == c) first)))
            ≡ length (answers_in (cond b (z.0 ∷ filter (λ g. g.to == c) (map (λ z. z.0) first)) (filter (λ g. g.to == c) (map (λ z. z.0) first))))
        by true rest = omega (arith, rest)
        by false rest = rest

    -- those at a moment
    pub record At (k : ℕ) : Type 0 where
      pub pairs_first : List (Given × Purpose)
      pub pairs_later : List (Given × Purpose)
      pub pairs_whole : pairs ≡ pairs_first ++ pairs_later
      pub given_is : map (λ z. z.0) pairs_first ≡ first_at options base most schedule lacking k entries given through
      pub first : List Done
      pub later : List Done
      pub whole : asked ≡ first ++ later
      pub zip_first : AllZip IsDone pairs_first first
      pub long : length first ≡ length (first_at options base most schedule lacking k entries given through)

    pub at : (k : ℕ) → At k
    at k = record {
      pairs_first = p.first;
      pairs_later = p.later;
      pairs_whole = p.whole;
      given_is = p.firsts;
      first = d.first;
      later = d.later;
      whole = d.whole;
      zip_first = d.firsts;
      long = sym (zip_long IsDone p.first d.first d.firsts) ∙ sym (length-map p.first (λ (z : Given × Purpose). z.0)) ∙ ap length p.firsts;
    }
      where
        begins : (later : List Given) × (given ≡ first_at options base most schedule lacking k entries given through ++ later)
        begins = begins_at options base most schedule lacking k entries given through

        p : Parted (λ (z : Given × Purpose). z.0) pairs (first_at options base most schedule lacking k entries given through) begins.0
        p = parted (λ (z : Given × Purpose). z.0) pairs (first_at options base most schedule lacking k entries given through) begins.0 (woven.firsts ∙ begins.1)

        d : ZipParted IsDone p.first p.later asked
        d = zip_parted IsDone p.first p.later asked (subst (λ l. AllZip IsDone l asked) p.whole zip)

    -- So a talk at a moment is one on the page.
    pub page_at : (k c : ℕ) (sent : List ℕ) (talk : Talk options base (received_of c (drop k entries)) sent (given_to c (first_at options base most schedule lacking k entries given through)))
        → OnPage options base (received_of c (drop k entries)) sent (done_for c (take (length (first_at options base most schedule lacking k entries given through)) asked)) talk.said talk.rest
    page_at k c sent talk = on_page options base (received_of c (drop k entries)) sent (given_to c moment) talk (done_for c (take (length moment) asked))
        (subst (λ (w : List Answered × List Purpose × List Done). AreDeeds options base w.0 w.1 (done_for c w.2)) (λ i. (given_to c (now.given_is i), same i, sym taken i)) (are_deeds c now.pairs_first now.first now.zip_first))
      where
        moment : List Given
        moment = first_at options base most schedule lacking k entries given through

        now : At k
        now = at k

        taken : take (length moment) asked ≡ now.first
        taken = (λ i. take (sym now.long i) (now.whole i)) ∙ take_first now.first now.later

        more : (z : List Purpose) × (purposes_for c ≡ purposes_of talk.said ++ z)
        more =
            let bytes = received_more c k entries in
            let begins = begins_at options base most schedule lacking k entries given through in
            stable options base some (received_of c (drop k entries)) bytes.0 talk.said (final c).said talk.rest (final c).rest (given_to c begins.0) talk.spells
            (subst (λ b. Spells options base b (final c).said (final c).rest) bytes.1 (final c).spells)
            ((final c).answered ∙ ap (given_to c) begins.1 ∙ given_more c moment begins.0 ∙ ap (λ l. l ++ given_to c begins.0) (sym talk.answered))

        mine : of_client c now.pairs_first ++ of_client c now.pairs_later ≡ purposes_of talk.said ++ more.0
        mine =
            sym (ap (map (λ (z : Given × Purpose). z.1)) (filter-append (λ (z : Given × Purpose). z.0.to == c) now.pairs_first now.pairs_later) ∙ map-append (λ (z : Given × Purpose). z.1) (filter (λ z. z.0.to == c) now.pairs_first) (filter (λ z. z.0.to == c) now.pairs_later))
            ∙ ap (of_client c) (sym now.pairs_whole) ∙ woven.seconds c ∙ more.1

        same : of_client c now.pairs_first ≡ purposes_of talk.said
        same = (same_first (of_client c now.pairs_first) (of_client c now.pairs_later) (purposes_of talk.said) more.0 mine
            (many c now.pairs_first ∙ ap (λ l. length (given_to c l)) now.given_is ∙ ap length (sym talk.answered) ∙ sym (purposes_long options base (received_of c (drop k entries)) talk.said talk.rest talk.spells))).0
