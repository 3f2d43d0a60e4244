-- What stands between a front and all its clients goes on from call to call.
use Rattle.std.proofs.Common.{◌≡◌, ◌≢◌, ◌⊎◌, inl, inr, ℕ, ◌==◌, true, false, List, ◌∷◌, ◌++◌, refl, sym, ap, ◌∙◌, subst, arith}
use Rattle.std.specs.Prelude.{slice_get, Option, None, Some}
use Rattle.std.proofs.lemmas.Option.{none-some, same_Some}
use Rattle.std.proofs.lemmas.Bool.{cases_eq, ne_eqb}
use Rattle.partition_model.specs.declared.options.Options.{Options}
use Rattle.connections.specs.Connection.{Connection, after_ask, after_close}
use Rattle.connections.specs.State.{asked, closed, is_under, held}
use Rattle.connections.specs.Log.{Log, connections_of, logged}
use Rattle.fronts.specs.Answered.{Answered}
use Rattle.connection_loop.specs.declared.client.Client.{Client}
use Rattle.connection_loop.specs.declared.desk.TheConstants.{MOST_UNSENT}
use Rattle.connection_loop.specs.Given.{Given, given_to}
use Rattle.connection_loop.specs.Clients.{at}
use Rattle.connection_loop.specs.Moments.{TalksThrough, IsCaused, is_timed}
use Rattle.connection_loop.specs.Held.{Holds, StaysAs, all_to}
use Rattle.connection_loop.specs.Standing.{IsUntouched, HoldsUnder, Stands}
use Rattle.connection_loop.proofs.Places.{there, two_places, same_held, closed_other}
use Rattle.connection_loop.proofs.Moments.{given_others, last_moment, through_entry, through_lacking}
use Rattle.connection_loop.proofs.Drying.{in_changed}
use Rattle.connection_loop.proofs.Making.{made_changed}
use Rattle.connection_loop.proofs.Visited.{held_sent}

-- Of one connection

pub untouched_stays : {d : ℕ} {old new : Log} {all now : List Given} → StaysAs d old new → given_to d now ≡ given_to d all → IsUntouched d old.entries all → IsUntouched d new.entries now
untouched_stays stays same is = record { came = stays.came ∙ is.came; went = stays.went ∙ is.went; given = same ∙ is.given }

pub stays_asked : (c : ℕ) (log : Log) (d : ℕ) → StaysAs d log (logged (asked c) log)
stays_asked c log d = record {
  came = refl;
  went = refl;
  over = in_changed c after_ask (λ x is. record { ended = is.ended; read = is.read; none = is.none }) d (connections_of log);
  made = made_changed c after_ask d (connections_of log);
}

pub stays_closed : (c : ℕ) (log : Log) (d : ℕ) → StaysAs d log (logged (closed c) log)
stays_closed c log d = record {
  came = refl;
  went = refl;
  over = in_changed c after_close (λ x is. record { ended = is.ended; read = is.read; none = is.none }) d (connections_of log);
  made = made_changed c after_close d (connections_of log);
}

-- others are under their numbers after one was closed
pub under_closed : (number c n d : ℕ) (log : Log) → n ≢ number → held number (connections_of log) ≡ Some c → held n (connections_of log) ≡ Some d
    → held n (connections_of (logged (closed c) log)) ≡ Some d
under_closed number c n d log other here is =
    let all = connections_of log in
    let x = there number c all here in
    same_held n c after_close all (λ y at. closed_other number n y other (subst (λ (z : Connection). is_under number z ≡ true) (same_Some x.0 y (sym x.1 ∙ at)) x.2)) ∙ is

pub under_asked : (c n d : ℕ) (log : Log) → held n (connections_of log) ≡ Some d → held n (connections_of (logged (asked c) log)) ≡ Some d
under_asked c n d log is = same_held n c after_ask (connections_of log) (λ y at. refl) ∙ is

module _ (options : Options) (base : ℕ) where
  pub hold_stays : {d : ℕ} {old new : Log} → StaysAs d old new → (given now : List Answered) → now ≡ given → (client : Client) → Holds options base MOST_UNSENT d old given client
      → Holds options base MOST_UNSENT d new now client
  hold_stays {d} {old} {new} stays given now same client holds =
      subst (λ g. Holds options base MOST_UNSENT d new g client) (sym same)
      (held_sent options base MOST_UNSENT d {old = old} {new = new} {given = given} client client refl refl (omega arith) stays.came (ap (λ s. s ++ client.unsent) stays.went) stays.over holds)

  -- a client's place holds for it at a later moment
  pub under_stays : {old new : Log} {all now : List Given} {n : ℕ} {client : Client} (k : HoldsUnder options base old all n client) → held n (connections_of new) ≡ Some k.place
      → StaysAs k.place old new → given_to k.place now ≡ given_to k.place all → HoldsUnder options base new now n client
  under_stays {all = all} {now = now} {client = client} k under stays same =
      record { place = k.place; under = under; holds = hold_stays stays (given_to k.place all) (given_to k.place now) same client k.holds }

  -- of one that was found
  pub holds_at : {log : Log} {all : List Given} {n : ℕ} {client : Client} (c : ℕ) → held n (connections_of log) ≡ Some c → HoldsUnder options base log all n client
      → Holds options base MOST_UNSENT c log (given_to c all) client
  holds_at {log} {all} {n} {client} c here k =
      subst (λ d. Holds options base MOST_UNSENT d log (given_to d all) client) (same_Some k.place c (sym k.under ∙ here)) k.holds

  -- Of all

  -- memory lacked for one more
  pub stands_lacking : (c : ℕ) {lacking : List ℕ} {log : Log} {all : List Given} {clients : List (Option Client)} → Stands options base lacking log all clients
      → Stands options base (c ∷ lacking) log all clients
  stands_lacking c {lacking} {log} {all} stands =
      record { timed = stands.timed; through = through_lacking options base MOST_UNSENT log.schedule lacking c log.entries all stands.through; holds = stands.holds; to_come = stands.to_come }

  module _ (lacking : List ℕ) where
    -- less is held
    pub stands_less : {log : Log} {all : List Given} {clients now : List (Option Client)} → ((n : ℕ) (client : Client) → at now n ≡ Some client → at clients n ≡ Some client)
        → Stands options base lacking log all clients → Stands options base lacking log all now
    stands_less less stands = record { timed = stands.timed; through = stands.through; holds = λ n client is. stands.holds n client (less n client is); to_come = stands.to_come }

    -- one was put in its place
    pub stands_put : {log : Log} {all : List Given} {clients now : List (Option Client)} (number : ℕ) (client : Client) → ((n : ℕ) → n ≢ number → at now n ≡ at clients n)
        → at now number ≡ Some client → HoldsUnder options base log all number client → Stands options base lacking log all clients → Stands options base lacking log all now
    stands_put {log} {all} {clients} {now} number client others here holds stands =
        record { timed = stands.timed; through = stands.through; holds = λ n x is. by n x is (cases_eq n number); to_come = stands.to_come }
      where
        by : (n : ℕ) (x : Client) → at now n ≡ Some x → ((n ≡ number) ⊎ (n ≡ number → ⊥)) → HoldsUnder options base log all n x
        by n x is (inl same) =
            subst (λ m. HoldsUnder options base log all m x) (sym same)
            (subst (λ y. HoldsUnder options base log all number y) (same_Some client x (sym here ∙ subst (λ m. at now m ≡ Some x) same is)) holds)
        by n x is (inr other) = stands.holds n x (sym (others n other) ∙ is)

    -- the log went on, and nothing was said
    pub stands_moved : {old new : Log} {all : List Given} {clients : List (Option Client)}
        → ((n d : ℕ) (x : Client) → at clients n ≡ Some x → held n (connections_of old) ≡ Some d → held n (connections_of new) ≡ Some d) → ((d : ℕ) → StaysAs d old new) → is_timed new.entries ≡ true
        → TalksThrough options base MOST_UNSENT new.schedule lacking new.entries all → Stands options base lacking old all clients → Stands options base lacking new all clients
    stands_moved {old} {new} {all} {clients} under stays timed through stands = record {
      timed = timed;
      through = through;
      holds = λ n x is. let k = stands.holds n x is in under_stays k (under n k.place x is k.under) (stays k.place) refl;
      to_come = λ d none. untouched_stays (stays d) refl (stands.to_come d ((stays d).made none));
    }

    pub stands_asked : {log : Log} {all : List Given} {clients : List (Option Client)} (c : ℕ) → Stands options base lacking log all clients
        → Stands options base lacking (logged (asked c) log) all clients
    stands_asked {log} {all} c stands =
        let talks = last_moment options base MOST_UNSENT log.schedule lacking log.entries all stands.through in
        stands_moved {new = logged (asked c) log} (λ n d x is was. under_asked c n d log was) (stays_asked c log) refl
        (through_entry options base MOST_UNSENT log.schedule lacking (asked c) log.entries all talks tt stands.through) stands

    pub stands_closed : {log : Log} {all : List Given} {clients : List (Option Client)} (number c : ℕ) → held number (connections_of log) ≡ Some c → at clients number ≡ None
        → IsCaused options base log.schedule lacking (closed c) log.entries all → Stands options base lacking log all clients → Stands options base lacking (logged (closed c) log) all clients
    stands_closed {log} {all} {clients} number c here gone cause stands =
        let talks = last_moment options base MOST_UNSENT log.schedule lacking log.entries all stands.through in
        stands_moved {new = logged (closed c) log}
        (λ n d x is was. under_closed number c n d log (λ same. none-some x (sym gone ∙ subst (λ m. at clients m ≡ Some x) same is)) here was) (stays_closed c log) refl
        (through_entry options base MOST_UNSENT log.schedule lacking (closed c) log.entries all talks cause stands.through) stands

    -- one was visited, which was taken out before
    module _ {old new : Log} (all : List Given) (clients taken : List (Option Client)) (number c : ℕ) (here : held number (connections_of old) ≡ Some c)
        (others : (n : ℕ) → n ≢ number → at taken n ≡ at clients n) (gone : at taken number ≡ None)
        (schedule : new.schedule ≡ old.schedule) (under : (n d : ℕ) → held n (connections_of old) ≡ Some d → held n (connections_of new) ≡ Some d)
        (stays : (d : ℕ) → (c == d) ≡ false → StaysAs d old new) (timed : is_timed old.entries ≡ true → is_timed new.entries ≡ true) (answers : List Answered) where
      not_this : (n : ℕ) (x : Client) → at taken n ≡ Some x → n ≢ number
      not_this n x is same = none-some x (sym gone ∙ subst (λ m. at taken m ≡ Some x) same is)

      made_one : (d : ℕ) → slice_get (connections_of new) d ≡ None → c ≢ d
      made_one d none same =
          let x = there number c (connections_of new) (under number c here) in
          none-some x.0 (sym none ∙ ap (slice_get (connections_of new)) (sym same) ∙ x.1)

      pub stands_visited : TalksThrough options base MOST_UNSENT old.schedule lacking new.entries (all ++ all_to c answers) → Stands options base lacking old all clients
          → Stands options base lacking new (all ++ all_to c answers) taken
      stands_visited through stands = record {
        timed = timed stands.timed;
        through = subst (λ s. TalksThrough options base MOST_UNSENT s lacking new.entries (all ++ all_to c answers)) (sym schedule) through;
        holds = λ n x is.
            let other = not_this n x is in
            let k = stands.holds n x (sym (others n other) ∙ is) in
            let apart = ne_eqb c k.place (two_places number n c k.place (connections_of old) other here k.under) in
            under_stays k (under n k.place k.under) (stays k.place apart) (given_others c k.place all answers apart);
        to_come = λ d none.
            let apart = ne_eqb c d (made_one d none) in
            let s = stays d apart in
            untouched_stays s (given_others c d all answers apart) (stands.to_come d (s.made none));
      }
