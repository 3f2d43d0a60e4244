-- What is true at each moment of a log stays so as calls add to it, and as more is answered.
use Rattle.std.proofs.Common.{◌≡◌, ℕ, ◌+◌, ◌==◌, ◌≤◌, inl, inr, Bool, true, false, true≢false, cond, List, [], ◌∷◌, ◌++◌, length, map, refl, sym, ap, ◌∙◌, subst, arith, append_assoc, length-append}
use Rattle.std.specs.Prelude.{filter}
use Rattle.std.specs.List.{AllByRecursion}
use Rattle.std.proofs.lemmas.List.{append-nil, map-append}
use Rattle.std.proofs.lemmas.List.Elements.{filter-append}
use Rattle.std.proofs.lemmas.Bool.{eqb-true, eq-eqb}
use Rattle.partition_model.specs.declared.options.Options.{Options}
use Rattle.memcached_text.specs.declared.limits.TheConstants.{MAX_WAITING_LEN}
use Rattle.connections.specs.declared.schedule.Step.{Step}
use Rattle.connections.specs.State.{Entry, opened, reported, turned_away, met, second, received, sent, asked, closed}
use Rattle.connections.specs.Log.{Log, received_of, second_of, sent_of}
use Rattle.fronts.specs.Answered.{Answered}
use Rattle.command_answers.specs.Seconds.{IsAt, AreAt}
use Rattle.command_answers.proofs.AskLaws.{all_append}
use Rattle.connection_loop.specs.Given.{Given, answers_in, given_to}
use Rattle.connection_loop.specs.Talk.{IsBeginning, TalksWith}
use Rattle.connection_loop.specs.Moments.{IsAmong, TalksWithOne, TalksWithAll, IsCaused, is_timed, AreSince, TalksThrough}
use Rattle.connection_loop.specs.Traffic.{IsSend, Sends, Reads, after_receiving}
use Rattle.connection_loop.specs.Held.{all_to}
use Rattle.connection_loop.proofs.Talking.{Told}
use Rattle.connection_loop.proofs.Traffic.{sent_here, sends_received, mets_send}

-- To whom answers were given

to_one : (c : ℕ) (answers : List Answered) → given_to c (all_to c answers) ≡ answers
to_one c [] = refl
to_one c (a ∷ answers) =
    ap (λ t. map (λ (g : Given). g.answered) (cond t (record { to = c; answered = a } ∷ filter (λ (g : Given). g.to == c) (all_to c answers)) (filter (λ (g : Given). g.to == c) (all_to c answers))))
    (eq-eqb c c refl) ∙ ap (λ l. a ∷ l) (to_one c answers)

to_others : (c d : ℕ) (answers : List Answered) → (c == d) ≡ false → given_to d (all_to c answers) ≡ []
to_others c d [] other = refl
to_others c d (a ∷ answers) other =
    ap (λ t. map (λ (g : Given). g.answered) (cond t (record { to = c; answered = a } ∷ filter (λ (g : Given). g.to == d) (all_to c answers)) (filter (λ (g : Given). g.to == d) (all_to c answers))))
    other ∙ to_others c d answers other

given_both : (c : ℕ) (one two : List Given) → given_to c (one ++ two) ≡ given_to c one ++ given_to c two
given_both c one two = ap (map (λ (g : Given). g.answered)) (filter-append (λ (g : Given). g.to == c) one two) ∙ map-append (λ (g : Given). g.answered) (filter (λ (g : Given). g.to == c) one) (filter (λ (g : Given). g.to == c) two)

pub answers_all_to : (c : ℕ) (answers : List Answered) → answers_in (all_to c answers) ≡ answers
answers_all_to c [] = refl
answers_all_to c (a ∷ answers) = ap (λ l. a ∷ l) (answers_all_to c answers)

pub given_more : (c : ℕ) (all : List Given) (answers : List Answered) → given_to c (all ++ all_to c answers) ≡ given_to c all ++ answers
given_more c all answers = given_both c all (all_to c answers) ∙ ap (λ l. given_to c all ++ l) (to_one c answers)

pub given_others : (c d : ℕ) (all : List Given) (answers : List Answered) → (c == d) ≡ false → given_to d (all ++ all_to c answers) ≡ given_to d all
given_others c d all answers other =
    given_both d all (all_to c answers) ∙ ap (λ l. given_to d all ++ l) (to_others c d answers other) ∙ append-nil (given_to d all)

-- At which seconds they were given

since_both : (options : Options) (entries : List Entry) (one two : List Given) → AreSince options entries one → AreSince options entries two → AreSince options entries (one ++ two)
since_both options entries one two first then =
    let t = second_of entries in record {
      at = subst (AreAt options t) (sym (map-append (λ (g : Given). g.answered) one two)) (all_append (IsAt options t) (answers_in one) (answers_in two) first.at then.at);
      timed = λ untimed. ap (λ l. l ++ two) (first.timed untimed) ∙ then.timed untimed;
    }

-- to one connection, where it was told which second it is
pub since_told : (options : Options) (c : ℕ) (entries : List Entry) (answers : List Answered) → is_timed entries ≡ true → AreAt options (second_of entries) answers
    → AreSince options entries (all_to c answers)
since_told options c entries answers timed at =
    record { at = subst (AreAt options (second_of entries)) (sym (answers_all_to c answers)) at; timed = λ untimed. absurd (true≢false (sym timed ∙ untimed)) }

sends_told : (c : ℕ) (more entries : List Entry) → AllByRecursion (IsSend c) more → is_timed entries ≡ true → is_timed (more ++ entries) ≡ true
sends_told c [] entries each timed = timed
sends_told c (met ∷ more) entries each timed = refl
sends_told c (sent e bytes ∷ more) entries each timed = refl
sends_told c (opened n ∷ more) entries each timed = absurd each.0
sends_told c (reported n ∷ more) entries each timed = absurd each.0
sends_told c (turned_away ∷ more) entries each timed = absurd each.0
sends_told c (second s ∷ more) entries each timed = absurd each.0
sends_told c (received e bytes ∷ more) entries each timed = absurd each.0
sends_told c (asked e ∷ more) entries each timed = absurd each.0
sends_told c (closed e ∷ more) entries each timed = absurd each.0

pub sends_timed : {c : ℕ} {text : List ℕ} {old new : Log} → Sends c text old new → is_timed old.entries ≡ true → is_timed new.entries ≡ true
sends_timed {c} {old = old} sends timed = ap is_timed sends.entries ∙ sends_told c sends.more old.entries sends.each timed

receiving_told : (t c : ℕ) (bytes : List ℕ) (entries : List Entry) → is_timed entries ≡ true → is_timed (after_receiving t c bytes entries) ≡ true
receiving_told t c [] entries timed = timed
receiving_told t c (byte ∷ bytes) entries timed = refl

pub reads_timed : {c : ℕ} {bytes : List ℕ} {old new : Log} → Reads c bytes old new → is_timed old.entries ≡ true → is_timed new.entries ≡ true
reads_timed {c} {bytes} {old} reads timed =
    ap is_timed reads.entries ∙ receiving_told reads.at c bytes (reads.mets ++ old.entries) (sends_told c reads.mets old.entries (mets_send c reads.mets reads.each) timed)

among_more : (x c : ℕ) (all : List ℕ) → IsAmong c all → IsAmong c (x ∷ all)
among_more x c all among = (x ∷ among.0, among.1, ap (λ l. x ∷ l) among.2)

module _ (options : Options) (base most : ℕ) where
  -- One connection, and the others

  -- for each other connection bytes and answers are the same
  pub record SameFor (d : ℕ) (old new : List Entry) (all now : List Given) : Type 0 where
    pub came : received_of d new ≡ received_of d old
    pub went : sent_of d new ≡ sent_of d old
    pub given : given_to d now ≡ given_to d all

  module _ (lacking : List ℕ) where
    talks_same : (c : ℕ) {came went r s : List ℕ} {answers a : List Answered} → r ≡ came → s ≡ went → a ≡ answers → TalksWithOne options base most lacking c came went answers
        → TalksWithOne options base most lacking c r s a
    talks_same c {came} {went} {r} {s} {answers} {a} r_is s_is a_is talks =
        subst (λ x. TalksWithOne options base most lacking c x s a) (sym r_is) (subst (λ x. TalksWithOne options base most lacking c came x a) (sym s_is)
        (subst (λ x. TalksWithOne options base most lacking c came went x) (sym a_is) talks))

    pub with_all : (c : ℕ) (old new : List Entry) (all now : List Given) → ((d : ℕ) → (c == d) ≡ false → SameFor d old new all now)
        → TalksWithOne options base most lacking c (received_of c new) (sent_of c new) (given_to c now) → TalksWithAll options base most lacking old all
        → TalksWithAll options base most lacking new now
    with_all c old new all now same here before d = by (c == d) refl
      where
        by : (t : Bool) → (c == d) ≡ t → TalksWithOne options base most lacking d (received_of d new) (sent_of d new) (given_to d now)
        by true is = subst (λ e. TalksWithOne options base most lacking e (received_of e new) (sent_of e new) (given_to e now)) (eqb-true c d is) here
        by false is = let s = same d is in talks_same d s.came s.went s.given (before d)

  -- Memory lacked for one more
  talks_lacking : (x c : ℕ) (lacking came went : List ℕ) (answers : List Answered) → TalksWithOne options base most lacking c came went answers → TalksWithOne options base most (x ∷ lacking) c came went answers
  talks_lacking x c lacking came went answers talks = elim talks as (λ _. TalksWithOne options base most (x ∷ lacking) c came went answers) [
    | inl t ↦ inl t
    | inr kept ↦ inr (among_more x c lacking kept.0, kept.1)
  ]

  -- for some more
  pub all_lacking : (more lacking : List ℕ) (entries : List Entry) (all : List Given) → TalksWithAll options base most lacking entries all → TalksWithAll options base most (more ++ lacking) entries all
  all_lacking [] lacking entries all talks = talks
  all_lacking (x ∷ more) lacking entries all talks = λ c.
      talks_lacking x c (more ++ lacking) (received_of c entries) (sent_of c entries) (given_to c all) (all_lacking more lacking entries all talks c)

  module _ (schedule : List Step) (lacking : List ℕ) where
    pub last_moment : (entries : List Entry) (all : List Given) → TalksThrough options base most schedule lacking entries all → TalksWithAll options base most lacking entries all
    last_moment [] all through = through
    last_moment (e ∷ entries) all through = through.0

    -- Memory lacked for one more

    cause_lacking : (x : ℕ) (entry : Entry) (entries : List Entry) (all : List Given) → IsCaused options base schedule lacking entry entries all → IsCaused options base schedule (x ∷ lacking) entry entries all
    cause_lacking x (closed c) entries all cause = elim cause as (λ _. IsCaused options base schedule (x ∷ lacking) (closed c) entries all) [
      | inl among ↦ inl (among_more x c lacking among)
      | inr may ↦ inr may
    ]
    cause_lacking x (opened n) entries all cause = tt
    cause_lacking x (reported n) entries all cause = tt
    cause_lacking x turned_away entries all cause = tt
    cause_lacking x (second s) entries all cause = tt
    cause_lacking x met entries all cause = tt
    cause_lacking x (received e bytes) entries all cause = tt
    cause_lacking x (sent e bytes) entries all cause = tt
    cause_lacking x (asked e) entries all cause = tt

    pub through_lacking : (x : ℕ) (entries : List Entry) (all : List Given) → TalksThrough options base most schedule lacking entries all
        → TalksThrough options base most schedule (x ∷ lacking) entries all
    through_lacking x [] all through = λ c. talks_lacking x c lacking [] [] (given_to c all) (through c)
    through_lacking x (e ∷ entries) all through = (
      λ c. talks_lacking x c lacking (received_of c (e ∷ entries)) (sent_of c (e ∷ entries)) (given_to c all) (through.0 c),
      (through.1.0, through.1.1, cause_lacking x e entries through.1.0 through.1.2, through_lacking x entries through.1.0 through.1.3),
    )

    -- one entry more
    pub through_entry : (entry : Entry) (entries : List Entry) (all : List Given) → TalksWithAll options base most lacking (entry ∷ entries) all
        → IsCaused options base schedule lacking entry entries all → TalksThrough options base most schedule lacking entries all
        → TalksThrough options base most schedule lacking (entry ∷ entries) all
    through_entry entry entries all talks cause through = (talks, (all, ([], sym (append-nil all), record { at = tt; timed = λ untimed. refl }), cause, through))

    -- it is told which second it is
    pub through_second : (t : ℕ) (entries : List Entry) (all : List Given) → TalksThrough options base most schedule lacking entries all
        → TalksThrough options base most schedule lacking (second t ∷ entries) all
    through_second t entries all through = through_entry (second t) entries all (last_moment entries all through) tt through

    -- more answers at one moment
    pub through_answers : (entries : List Entry) (all more : List Given) → AreSince options entries more → TalksWithAll options base most lacking entries (all ++ more)
        → TalksThrough options base most schedule lacking entries all → TalksThrough options base most schedule lacking entries (all ++ more)
    through_answers [] all more since talks through = talks
    through_answers (e ∷ entries) all more since talks through =
        let first = through.1.0 in
        let later = through.1.1.0 in (
          talks,
          (
            first,
            (later ++ more, ap (λ l. l ++ more) through.1.1.1 ∙ append_assoc first later more, since_both options (e ∷ entries) later more through.1.1.2 since),
            through.1.2,
            through.1.3,
          ),
        )

    -- Bytes are sent

    module _ (c : ℕ) (entries : List Entry) (all : List Given) (before : TalksThrough options base most schedule lacking entries all) where
      other_entry : (d e : ℕ) (bytes : List ℕ) (now : List Entry) → e ≡ c → (c == d) ≡ false → sent_of d (sent e bytes ∷ now) ≡ sent_of d now
      other_entry d e bytes now is other = ap (λ t. cond t (sent_of d now ++ bytes) (sent_of d now)) (ap (λ x. x == d) is ∙ other)

      longer : (more : List Entry) → AllByRecursion (IsSend c) more → length (sent_of c entries) ≤ length (sent_of c (more ++ entries))
      longer [] each = omega arith
      longer (met ∷ more) each = longer more each.1
      longer (sent e bytes ∷ more) each =
          let rest = longer more each.1 in
          let own = ap length (sent_here c e bytes (more ++ entries) each.0) ∙ length-append (sent_of c (more ++ entries)) bytes in
          omega (arith, rest, own)
      longer (opened n ∷ more) each = absurd each.0
      longer (reported n ∷ more) each = absurd each.0
      longer (turned_away ∷ more) each = absurd each.0
      longer (second s ∷ more) each = absurd each.0
      longer (received e bytes ∷ more) each = absurd each.0
      longer (asked e ∷ more) each = absurd each.0
      longer (closed e ∷ more) each = absurd each.0

      -- of what is due, so much was sent
      pub through_sends : (more : List Entry) → AllByRecursion (IsSend c) more → (due : List ℕ) → length due ≤ length (sent_of c entries) + most
          → ((went : List ℕ) → IsBeginning went due → Told options base (received_of c entries) went (given_to c all) due MAX_WAITING_LEN)
          → IsBeginning (sent_of c (more ++ entries)) due → TalksThrough options base most schedule lacking (more ++ entries) all
      through_sends [] each due few told begins = before
      through_sends (met ∷ more) each due few told begins =
          let through = through_sends more each.1 due few told begins in
          through_entry met (more ++ entries) all (last_moment (more ++ entries) all through) tt through
      through_sends (sent e bytes ∷ more) each due few told begins =
          let now = more ++ entries in
          let own = sent_here c e bytes now each.0 in
          let earlier : IsBeginning (sent_of c now) due =
          (bytes ++ begins.0, begins.1 ∙ ap (λ s. s ++ begins.0) own ∙ append_assoc (sent_of c now) bytes begins.0) in
          let through = through_sends more each.1 due few told earlier in
          let t = told (sent_of c (sent e bytes ∷ now)) begins in
          let long = longer (sent e bytes ∷ more) each in
          let here : TalksWith options base most (received_of c entries) (sent_of c (sent e bytes ∷ now)) (given_to c all) =
          (t.talk, record { kept = t.few; unsent = let all_due = ap length t.due_is in omega (arith, few, long, all_due) }) in
          through_entry (sent e bytes) now all (with_all lacking c now (sent e bytes ∷ now) all all
          (λ d other. record { came = refl; went = other_entry d e bytes now each.0 other; given = refl })
          (talks_same lacking c (sends_received c more entries each.1 c) refl refl (inl here)) (last_moment now all through)) tt through
      through_sends (opened n ∷ more) each due few told begins = absurd each.0
      through_sends (reported n ∷ more) each due few told begins = absurd each.0
      through_sends (turned_away ∷ more) each due few told begins = absurd each.0
      through_sends (second s ∷ more) each due few told begins = absurd each.0
      through_sends (received e bytes ∷ more) each due few told begins = absurd each.0
      through_sends (asked e ∷ more) each due few told begins = absurd each.0
      through_sends (closed e ∷ more) each due few told begins = absurd each.0
