-- What serving a report makes of what stands.
use Rattle.std.proofs.Common.{◌≡◌, ◌≢◌, inl, inr, ℕ, suc, ◌+◌, ◌*◌, ◌<◌, ◌≤◌, ◌==◌, Bool, true, false, true≢false, cond, List, [], ◌∷◌, ◌++◌, length, refl, sym, ap, ◌∙◌, subst, arith}
use Rattle.std.specs.Prelude.{slice_get, Option, None, Some, is_some, IfSome}
use Rattle.std.proofs.lemmas.List.{append-nil, length-map}
use Rattle.std.proofs.lemmas.Bool.{eqb-true}
use Rattle.std.proofs.lemmas.Option.{none-some}
use Rattle.partition_model.specs.declared.options.Options.{Options}
use Rattle.connections.specs.declared.connections.Event.TheVariants.{TurnedAway, Ready}
use Rattle.connections.specs.State.{asked, closed, held}
use Rattle.connections.specs.Log.{Log, state_of, connections_of, received_of, sent_of, logged}
use Rattle.connections.specs.Calls.{Asks, Closes}
use Rattle.fronts.specs.Answered.{Answered}
use Rattle.connection_loop.specs.declared.client.Client.{Client}
use Rattle.connection_loop.specs.declared.desk.TheConstants.{MOST_UNSENT}
use Rattle.connection_loop.specs.declared.visit.After.{After}
use Rattle.connection_loop.specs.declared.visit.After.TheVariants.{Waits, Again, Over}
use Rattle.connection_loop.specs.Given.{Given, answers_in, given_to}
use Rattle.connection_loop.specs.Open.{IsOpen, OnLogs}
use Rattle.connection_loop.specs.Clients.{at}
use Rattle.connection_loop.specs.Closing.{MayClose}
use Rattle.connection_loop.specs.Traffic.{OnHeld}
use Rattle.connection_loop.specs.Reached.{position_of}
use Rattle.connection_loop.specs.Turns.{asks_of, moved, most_answers}
use Rattle.connection_loop.specs.Held.{Holds, Passes, Visits, VisitLacks, all_to}
use Rattle.connection_loop.specs.Standing.{Stands, StandsBut, StandsOn}
use Rattle.connection_loop.specs.Resting.{Rests}
use Rattle.connection_loop.proofs.Opening.{found}
use Rattle.connection_loop.proofs.Staying.{passes_under}
use Rattle.connection_loop.proofs.Moving.{moves_then, moves_asked, asked_comes}
use Rattle.connection_loop.proofs.Tending.{tends_served, tends_closed}
use Rattle.connection_loop.proofs.Earning.{grows_moved}
use Rattle.connection_loop.proofs.Moments.{answers_all_to, given_more}
use Rattle.connection_loop.proofs.Turning.{grows_none, grows_call}
use Rattle.connection_loop.proofs.Visited.{held_sent}
use Rattle.connection_loop.proofs.Standing.{stays_asked, under_asked, holds_at, stands_lacking, stands_less, stands_put, stands_asked, stands_closed, stands_visited}

-- To whom answers were given

abbrev place_under : Option ℕ → ℕ
place_under None = 0
place_under (Some c) = c

-- all to the connection under a number
abbrev pub given_by : ℕ → Option Log → List Answered → List Given
given_by number None answers = all_to 0 answers
given_by number (Some log) answers = all_to (place_under (held number (connections_of log))) answers

pub answers_by : (number : ℕ) (log : Option Log) (answers : List Answered) → answers_in (given_by number log answers) ≡ answers
answers_by number None answers = answers_all_to 0 answers
answers_by number (Some log) answers = answers_all_to (place_under (held number (connections_of log))) answers

-- what a visit made of the connection under a number, by what became of it
abbrev pub VisitsTo : Options → ℕ → ℕ → Client → List Answered → Client → Option Log → Option Log → After → Type 0
VisitsTo options base number client answers now old new after = OnLogs (OnHeld number (Visits options base 2 client answers now after)) old new

-- nothing was asked for again
earns_none : {reads c : ℕ} {old new : Log} → Passes reads c old new → (d : ℕ) (given : List Given)
    → asks_of d new.entries + moved d old.entries ≤ asks_of d old.entries + moved d new.entries + length (given_to d given)
earns_none passes d given = let same = passes.unasked d in let kept = grows_moved passes.few_calls d in omega (arith, same, kept)

-- a connection was, for which something was done
earns_asked : {reads c : ℕ} {old new : Log} → Passes reads c old new → (answers : List Answered) → moved c old.entries < moved c new.entries + length answers → (d : ℕ)
    → asks_of d (asked c ∷ new.entries) + moved d old.entries ≤ asks_of d old.entries + moved d new.entries + length (given_to d (all_to c answers))
earns_asked {reads} {c} {old} {new} passes answers more d = by (c == d) refl
  where
    by : (b : Bool) → (c == d) ≡ b → cond b (suc (asks_of d new.entries)) (asks_of d new.entries) + moved d old.entries ≤ asks_of d old.entries + moved d new.entries + length (given_to d (all_to c answers))
    by false is = earns_none passes d (all_to c answers)
    by true is =
        let same = passes.unasked d in
        let to = ap length (given_more c [] answers) in
        let here : moved c old.entries < moved c new.entries + length (given_to c (all_to c answers)) = omega (arith, more, to) in
        let there = subst (λ e. moved e old.entries < moved e new.entries + length (given_to e (all_to c answers))) (eqb-true c d is) here in
        omega (arith, same, there)

module _ (options : Options) (base : ℕ) where
  pub stands_none : (lacking : List ℕ) (log : Log) (all : List Given) (now : List (Option Client)) → Stands options base lacking log all now → StandsBut options base lacking 0 log (all ++ []) now
  stands_none lacking log all now stands = ([], refl, subst (λ l. Stands options base lacking log l now) (sym (append-nil all)) stands)

  -- one was turned away
  pub serves_turned : (clients : List (Option Client)) (log : Option Log) → OnLogs (StandsOn options base TurnedAway clients 0 [] clients) log log
  serves_turned clients None = tt
  serves_turned clients (Some log) = record {
    schedule = refl;
    piece = refl;
    few_calls = grows_none 2 log.entries;
    few_answers = omega arith;
    earns = λ d. omega arith;
    on = λ lacking all new stands. stands_none lacking log all clients stands;
    tends = λ lacking all stands but. record { apart = but.apart; each = λ n c is. but.each n c tt is };
  }

  module _ (number : ℕ) (clients taken : List (Option Client)) (others : (n : ℕ) → n ≢ number → at taken n ≡ at clients n) (gone : at taken number ≡ None) where
    -- There was nothing under it

    less_held : (n : ℕ) (client : Client) → at taken n ≡ Some client → at clients n ≡ Some client
    less_held n client is = sym (others n (λ same. none-some client (sym gone ∙ subst (λ m. at taken m ≡ Some client) same is))) ∙ is

    pub serves_none : at clients number ≡ None → (log : Option Log) → OnLogs (StandsOn options base (Ready number) clients 0 [] taken) log log
    serves_none none None = tt
    serves_none none (Some log) = record {
      schedule = refl;
      piece = refl;
      few_calls = grows_none 2 log.entries;
      few_answers = omega arith;
      earns = λ d. omega arith;
      on = λ lacking all new stands. stands_none lacking log all taken (stands_less options base lacking less_held stands);
      tends = λ lacking all stands but. record {
        apart = but.apart;
        each = λ n c is.
            let other : n ≢ number = λ same. true≢false (sym (but.told c (subst (λ m. held m (connections_of log) ≡ Some c) same is)) ∙ ap is_some none) in
            let t = but.each n c other is in record { client = t.client; is_held = others n other ∙ t.is_held; rests = t.rests };
      };
    }

    module _ (client : Client) (is_held : at clients number ≡ Some client) (answers : List Answered) where
      few_to : (c : ℕ) → length answers ≤ 2 * most_answers options → length (all_to c answers) ≤ 2 * most_answers options
      few_to c few = let same = length-map {B = Given} answers (λ (a : Answered). record { to = c; answered = a }) in omega (arith, same, few)

      serves_to : (c count : ℕ) (now : List (Option Client)) (old new : Log) → held number (connections_of old) ≡ Some c
          → StandsOn options base (Ready number) clients count (all_to c answers) now old new
          → StandsOn options base (Ready number) clients count (all_to (place_under (held number (connections_of old))) answers) now old new
      serves_to c count now old new here on = subst (λ h. StandsOn options base (Ready number) clients count (all_to (place_under h) answers) now old new) (sym here) on

      -- It waits

      module _ (now : Client) (new : List (Option Client)) (others_put : (n : ℕ) → n ≢ number → at new n ≡ at taken n) (asks : ℕ) where
        others_new : (n : ℕ) → n ≢ number → at new n ≡ at clients n
        others_new n other = others_put n other ∙ others n other

        waits_at : (c : ℕ) (a b : Log) → held number (connections_of a) ≡ Some c → at new number ≡ Some now → Visits options base 2 client answers now Waits c a b
            → StandsOn options base (Ready number) clients 0 (all_to c answers) new a b
        waits_at c a b here put visit = record {
          schedule = visit.passes.schedule;
          piece = visit.passes.piece;
          few_calls = visit.passes.few_calls;
          few_answers = few_to c visit.few_answers;
          earns = λ d. earns_none visit.passes d (all_to c answers);
          on = λ lacking all is_new stands.
              let t = visit.talks lacking all stands.timed (holds_at options base c here (stands.holds number client is_held)) stands.through in
              let s = stands_visited options base lacking {old = a} {new = b} all clients taken number c here others gone visit.passes.schedule (passes_under visit.passes) visit.passes.others visit.passes.timed answers t.0 stands in (
                [],
                refl,
                stands_put options base lacking number now others_put put (record {
                  place = c;
                  under = passes_under visit.passes number c here;
                  holds = subst (λ g. Holds options base MOST_UNSENT c b g now) (sym (given_more c all answers)) t.1.0;
                }) s,
              );
          tends = λ lacking all stands but.
              let t = visit.talks lacking all stands.timed (holds_at options base c here (stands.holds number client is_held)) stands.through in
              tends_served a.script.piece number c clients new here visit.passes.moves others_new but.apart but.each
              (record { client = now; is_held = put; rests = subst (λ p. Rests now c p (state_of b)) visit.passes.piece t.1.1 });
        }

        pub serves_waits : (before after : Option Log) → at new number ≡ Some now → IfSome before (IsOpen number asks) → OnLogs (OnHeld number (Visits options base 2 client answers now Waits)) before after
            → OnLogs (StandsOn options base (Ready number) clients 0 (given_by number before answers) new) before after
        serves_waits None after put stands visits = tt
        serves_waits (Some a) None put stands visits = visits
        serves_waits (Some a) (Some b) put stands visits =
            let here = stands.1.0 in
            serves_to stands.0 0 new a b here (waits_at stands.0 a b here put (found (λ d. Visits options base 2 client answers now Waits d a b) (held number (connections_of a)) stands.0 here visits))

        -- It is asked for again

        module _ (last : Client) (position : position_of last ≡ position_of now) (leaving : last.leaving ≡ now.leaving) (unsent : last.unsent ≡ now.unsent) where
          again_at : (c : ℕ) (a b : Log) → held number (connections_of a) ≡ Some c → at new number ≡ Some last → Visits options base 2 client answers now Again c a b
              → StandsOn options base (Ready number) clients 0 (all_to c answers) new a (logged (asked c) b)
          again_at c a b here put visit = record {
            schedule = visit.passes.schedule;
            piece = visit.passes.piece;
            few_calls = grows_call (asked c) refl refl visit.passes.few_calls;
            few_answers = few_to c visit.few_answers;
            earns = earns_asked visit.passes answers (visit.earns refl (λ single. absurd (omega (arith, single))));
            on = λ lacking all is_new stands.
                let t = visit.talks lacking all stands.timed (holds_at options base c here (stands.holds number client is_held)) stands.through in
                let s = stands_visited options base lacking {old = a} {new = b} all clients taken number c here others gone visit.passes.schedule (passes_under visit.passes) visit.passes.others visit.passes.timed answers t.0 stands in
                let stays = stays_asked c b c in
                let held_last = held_sent options base MOST_UNSENT c {old = b} {new = logged (asked c) b} now last position leaving (let same = ap length unsent in omega (arith, same)) stays.came
                (ap (λ u. sent_of c b.entries ++ u) unsent) stays.over t.1 in (
                  [],
                  refl,
                  stands_put options base lacking number last others_put put (record {
                    place = c;
                    under = under_asked c number c b (passes_under visit.passes number c here);
                    holds = subst (λ g. Holds options base MOST_UNSENT c (logged (asked c) b) g last) (sym (given_more c all answers)) held_last;
                  }) (stands_asked options base lacking c s),
                );
            tends = λ lacking all stands but.
                tends_served a.script.piece number c clients new here (moves_then visit.passes.moves (moves_asked c (state_of b))) others_new but.apart but.each
                (record { client = last; is_held = put; rests = inl (asked_comes c (state_of b)) });
          }

          pub serves_again : (before between after : Option Log) → at new number ≡ Some last → IfSome before (IsOpen number asks)
              → OnLogs (OnHeld number (Visits options base 2 client answers now Again)) before between → IfSome between (λ l. Asks number l after)
              → OnLogs (StandsOn options base (Ready number) clients 0 (given_by number before answers) new) before after
          serves_again None between after put stands visits asks = tt
          serves_again (Some a) None after put stands visits asks = absurd visits
          serves_again (Some a) (Some b) after put stands visits asks =
              let c = stands.0 in
              let here = stands.1.0 in
              let visit = found (λ d. Visits options base 2 client answers now Again d a b) (held number (connections_of a)) c here visits in
              let is = found (λ d. after ≡ Some (logged (asked d) b)) (held number (connections_of b)) c (passes_under visit.passes number c here) asks in
              subst (λ o. OnLogs (StandsOn options base (Ready number) clients 0 (given_by number (Some a) answers) new) (Some a) o) (sym is)
              (serves_to c 0 new a (logged (asked c) b) here (again_at c a b here put visit))

      -- It is closed

      over_at : (now : Client) (c : ℕ) (a b : Log) → held number (connections_of a) ≡ Some c → Visits options base 2 client answers now Over c a b
          → StandsOn options base (Ready number) clients 0 (all_to c answers) taken a (logged (closed c) b)
      over_at now c a b here visit = record {
        schedule = visit.passes.schedule;
        piece = visit.passes.piece;
        few_calls = grows_call (closed c) refl refl visit.passes.few_calls;
        few_answers = few_to c visit.few_answers;
        earns = λ d. earns_none visit.passes d (all_to c answers);
        on = λ lacking all is_new stands.
            let t = visit.talks lacking all stands.timed (holds_at options base c here (stands.holds number client is_held)) stands.through in
            let s = stands_visited options base lacking {old = a} {new = b} all clients taken number c here others gone visit.passes.schedule (passes_under visit.passes) visit.passes.others visit.passes.timed answers t.0 stands in
            let cause = subst (λ g. IfSome (slice_get (connections_of b) c) (λ x. MayClose options base x (received_of c b.entries) (sent_of c b.entries) g)) (sym (given_more c all answers)) t.1 in
            ([], refl, stands_closed options base lacking number c (passes_under visit.passes number c here) gone (inr cause) s);
        tends = λ lacking all stands but. tends_closed a.script.piece number c clients taken here visit.passes.moves others but.apart but.each;
      }

      lacks_at : (c : ℕ) (a b : Log) → held number (connections_of a) ≡ Some c → VisitLacks options base 2 client answers c a b
          → StandsOn options base (Ready number) clients 1 (all_to c answers) taken a (logged (closed c) b)
      lacks_at c a b here visit = record {
        schedule = visit.passes.schedule;
        piece = visit.passes.piece;
        few_calls = grows_call (closed c) refl refl visit.passes.few_calls;
        few_answers = few_to c visit.few_answers;
        earns = λ d. earns_none visit.passes d (all_to c answers);
        on = λ lacking all is_new before.
            let stands = stands_lacking options base c before in
            let through = visit.talks (c ∷ lacking) all stands.timed ([], lacking, refl) (holds_at options base c here (stands.holds number client is_held)) stands.through in
            let s = stands_visited options base (c ∷ lacking) {old = a} {new = b} all clients taken number c here others gone visit.passes.schedule (passes_under visit.passes) visit.passes.others visit.passes.timed answers through stands in
            (c ∷ [], refl, stands_closed options base (c ∷ lacking) number c (passes_under visit.passes number c here) gone (inl ([], lacking, refl)) s);
        tends = λ lacking all stands but. tends_closed a.script.piece number c clients taken here visit.passes.moves others but.apart but.each;
      }

      closes_at : (P : ℕ → Log → Log → Type 0) (count asks : ℕ) (before between after : Option Log) → ((c : ℕ) (a b : Log) → P c a b → held number (connections_of a) ≡ Some c → held number (connections_of b) ≡ Some c)
          → ((c : ℕ) (a b : Log) → held number (connections_of a) ≡ Some c → P c a b → StandsOn options base (Ready number) clients count (all_to c answers) taken a (logged (closed c) b))
          → IfSome before (IsOpen number asks) → OnLogs (OnHeld number P) before between → IfSome between (λ l. Closes number l after)
          → OnLogs (StandsOn options base (Ready number) clients count (given_by number before answers) taken) before after
      closes_at P count asks None between after under serves stands visits closes = tt
      closes_at P count asks (Some a) None after under serves stands visits closes = absurd visits
      closes_at P count asks (Some a) (Some b) after under serves stands visits closes =
          let c = stands.0 in
          let here = stands.1.0 in
          let visit = found (λ d. P d a b) (held number (connections_of a)) c here visits in
          let is = found (λ d. after ≡ Some (logged (closed d) b)) (held number (connections_of b)) c (under c a b visit here) closes in
          subst (λ o. OnLogs (StandsOn options base (Ready number) clients count (given_by number (Some a) answers) taken) (Some a) o) (sym is)
          (serves_to c count taken a (logged (closed c) b) here (serves c a b here visit))

      pub serves_over : (now : Client) (asks : ℕ) (before between after : Option Log) → IfSome before (IsOpen number asks)
          → OnLogs (OnHeld number (Visits options base 2 client answers now Over)) before between → IfSome between (λ l. Closes number l after)
          → OnLogs (StandsOn options base (Ready number) clients 0 (given_by number before answers) taken) before after
      serves_over now asks before between after stands visits closes =
          closes_at (Visits options base 2 client answers now Over) 0 asks before between after (λ c a b v here. passes_under v.passes number c here) (over_at now) stands visits closes

      pub serves_lacks : (asks : ℕ) (before between after : Option Log) → IfSome before (IsOpen number asks)
          → OnLogs (OnHeld number (VisitLacks options base 2 client answers)) before between → IfSome between (λ l. Closes number l after)
          → OnLogs (StandsOn options base (Ready number) clients 1 (given_by number before answers) taken) before after
      serves_lacks asks before between after stands visits closes =
          closes_at (VisitLacks options base 2 client answers) 1 asks before between after (λ c a b v here. passes_under v.passes number c here) lacks_at stands visits closes
