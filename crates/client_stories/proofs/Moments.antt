-- The moments of a log: what had been given to clients by each.
use Rattle.std.specs.Prelude.{◌==◌}
use Rattle.std.proofs.Common.{◌≡◌, ◌≤◌, ◌<◌, inl, inr, ℕ, zero, suc, Bool, true, false, cond, List, [], ◌∷◌, ◌++◌, length, filter, map, drop, refl, sym, ap, subst, ◌∙◌, append-nil, append_assoc, arith}
use Rattle.std.proofs.lemmas.Bool.{eq-eqb}
use Rattle.partition_model.specs.declared.options.Options.{Options}
use Rattle.connections.specs.declared.schedule.Step.{Step}
use Rattle.connections.specs.State.{Entry, opened, reported, turned_away, met, second, received, sent, asked, closed}
use Rattle.connections.specs.Log.{received_of}
use Rattle.fronts.specs.Answered.{Answered}
use Rattle.command_answers.specs.Exchange.{Exchange}
use Rattle.command_answers.specs.Spells.{Spells, answers_to_all}
use Rattle.memcached_requests.proofs.NextLaws.{nothing}
use Rattle.connection_loop.specs.Given.{Given, given_to}
use Rattle.connection_loop.specs.Moments.{TalksWithOne, TalksWithAll, IsCaused, GivenSince, TalksThrough, is_timed as is_told}
use Rattle.connection_loop.specs.Talk.{Talk}
use Rattle.memcached_page.specs.Talk.{is_timed}

-- what was received before is received still
more_bytes : (t : Bool) (all old more bytes : List ℕ) → all ≡ old ++ more → (z : List ℕ) × (cond t (all ++ bytes) all ≡ old ++ z)
more_bytes true all old more bytes is = (more ++ bytes, ap (λ l. l ++ bytes) is ∙ append_assoc old more bytes)
more_bytes false all old more bytes is = (more, is)

pub received_more : (c k : ℕ) (entries : List Entry) → (more : List ℕ) × (received_of c entries ≡ received_of c (drop k entries) ++ more)
received_more c zero entries = ([], sym (append-nil (received_of c entries)))
received_more c (suc k) [] = ([], refl)
received_more c (suc k) (received d bytes ∷ entries) = let before = received_more c k entries in more_bytes (d == c) (received_of c entries) (received_of c (drop k entries)) before.0 bytes before.1
received_more c (suc k) (opened number ∷ entries) = received_more c k entries
received_more c (suc k) (reported number ∷ entries) = received_more c k entries
received_more c (suc k) (turned_away ∷ entries) = received_more c k entries
received_more c (suc k) (met ∷ entries) = received_more c k entries
received_more c (suc k) (second s ∷ entries) = received_more c k entries
received_more c (suc k) (sent d bytes ∷ entries) = received_more c k entries
received_more c (suc k) (asked d ∷ entries) = received_more c k entries
received_more c (suc k) (closed d ∷ entries) = received_more c k entries

pub same_timed : (entries : List Entry) → is_timed entries ≡ is_told entries
same_timed [] = refl
same_timed (received d bytes ∷ entries) = refl
same_timed (opened number ∷ entries) = refl
same_timed (reported number ∷ entries) = refl
same_timed (turned_away ∷ entries) = refl
same_timed (met ∷ entries) = refl
same_timed (second s ∷ entries) = refl
same_timed (sent d bytes ∷ entries) = refl
same_timed (asked d ∷ entries) = refl
same_timed (closed d ∷ entries) = refl

module _ (options : Options) (base most : ℕ) (schedule : List Step) (lacking : List ℕ) where
  abbrev Through : List Entry → List Given → Type 0
  Through entries all = TalksThrough options base most schedule lacking entries all

  -- what had been given as so many calls were not made yet
  abbrev pub first_at : (k : ℕ) (entries : List Entry) (all : List Given) → Through entries all → List Given
  first_at zero entries all t = all
  first_at (suc k) [] all t = all
  first_at (suc k) (entry ∷ entries) all t = first_at k entries t.1.0 t.1.3

  pub talks_at : (k : ℕ) (entries : List Entry) (all : List Given) (t : Through entries all) → TalksWithAll options base most lacking (drop k entries) (first_at k entries all t)
  talks_at zero [] all t = t
  talks_at zero (entry ∷ entries) all t = t.0
  talks_at (suc k) [] all t = t
  talks_at (suc k) (entry ∷ entries) all t = talks_at k entries t.1.0 t.1.3

  pub begins_at : (k : ℕ) (entries : List Entry) (all : List Given) (t : Through entries all) → (later : List Given) × (all ≡ first_at k entries all t ++ later)
  begins_at zero entries all t = ([], sym (append-nil all))
  begins_at (suc k) [] all t = ([], sym (append-nil all))
  begins_at (suc k) (entry ∷ entries) all t =
      let before = begins_at k entries t.1.0 t.1.3 in
      (before.0 ++ t.1.1.0, t.1.1.1 ∙ ap (λ l. l ++ t.1.1.0) before.1 ∙ append_assoc (first_at k entries t.1.0 t.1.3) before.0 t.1.1.0)

  pub rises_at : (k j : ℕ) (entries : List Entry) (all : List Given) (t : Through entries all) → k ≤ j → (later : List Given) × (first_at k entries all t ≡ first_at j entries all t ++ later)
  rises_at zero j entries all t le = begins_at j entries all t
  rises_at (suc k) zero entries all t le = absurd (omega (arith, le))
  rises_at (suc k) (suc j) [] all t le = ([], sym (append-nil all))
  rises_at (suc k) (suc j) (entry ∷ entries) all t le = rises_at k j entries t.1.0 t.1.3 (omega (arith, le))

  pub caused_at : (k : ℕ) (entries : List Entry) (all : List Given) (t : Through entries all) (entry : Entry) (rest : List Entry) → drop k entries ≡ entry ∷ rest
      → IsCaused options base schedule lacking entry rest (first_at (suc k) entries all t)
  caused_at zero [] all t entry rest is = absurd (cc)
  caused_at zero (own ∷ entries) all t entry rest is =
      let same : own ≡ entry = cc in
      let later : entries ≡ rest = cc in
      subst (λ (w : Entry × List Entry). IsCaused options base schedule lacking w.0 w.1 t.1.0) (λ i. (same i, later i)) t.1.2
  caused_at (suc k) [] all t entry rest is = absurd (cc)
  caused_at (suc k) (own ∷ entries) all t entry rest is = caused_at k entries t.1.0 t.1.3 entry rest is

  pub since_at : (k : ℕ) (entries : List Entry) (all : List Given) (t : Through entries all) → k < length entries → GivenSince options (drop k entries) (first_at (suc k) entries all t) (first_at k entries all t)
  since_at k [] all t low = absurd (omega (arith, low))
  since_at zero (entry ∷ entries) all t low = t.1.1
  since_at (suc k) (entry ∷ entries) all t low = since_at k entries t.1.0 t.1.3 (omega (arith, low))

  -- The talk

  pub talk_in : (c : ℕ) (came went : List ℕ) (answers : List Answered) → TalksWithOne options base most lacking c came went answers → Talk options base came went answers
  talk_in c came went answers (inl talks) = talks.0
  talk_in c came went answers (inr talks) = talks.1.0

  none_said : (said : List Exchange) (rest : List ℕ) → Spells options base [] said rest → said ≡ []
  none_said [] rest is = refl
  none_said (e ∷ said) rest is = absurd (is.0.some (sym is.0.next ∙ nothing))

  -- Before anything came, nothing was given.
  pub none_yet : (all : List Given) → TalksWithAll options base most lacking [] all → all ≡ []
  none_yet [] talks = refl
  none_yet (g ∷ all) talks =
      let talk = talk_in g.to [] [] (given_to g.to (g ∷ all)) (talks g.to) in
      let none : given_to g.to (g ∷ all) ≡ [] = sym talk.answered ∙ ap answers_to_all (none_said talk.said talk.rest talk.spells) in
      absurd (some (eq-eqb g.to g.to refl) none)
    where
      some : (g.to == g.to) ≡ true → given_to g.to (g ∷ all) ≡ [] → ⊥
      some same none =
          let both : given_to g.to (g ∷ all) ≡ g.answered ∷ given_to g.to all = ap (λ b. map (λ (h : Given). h.answered) (cond b (g ∷ filter (λ h. h.to == g.to) all) (filter (λ h. h.to == g.to) all))) same in
          let no : g.answered ∷ given_to g.to all ≡ [] = sym both ∙ none in cc
