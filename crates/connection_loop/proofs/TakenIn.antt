-- What taking in a new connection makes of what stands.
use Rattle.std.proofs.Common.{◌≡◌, ◌≢◌, inl, inr, ℕ, false, List, [], ◌∷◌, ◌++◌, length, refl, sym, ap, ◌∙◌, subst, arith}
use Rattle.std.specs.Prelude.{slice_get, Option, None, Some, IfSome}
use Rattle.std.proofs.lemmas.List.{append-nil}
use Rattle.std.proofs.lemmas.Option.{none-some}
use Rattle.partition_model.specs.declared.options.Options.{Options}
use Rattle.memcached_requests.specs.declared.request.Next.TheVariants.{More}
use Rattle.memcached_requests.specs.Next.{next_of}
use Rattle.connections.specs.declared.connections.Event.TheVariants.{Opened}
use Rattle.connections.specs.State.{closed, held}
use Rattle.connections.specs.Log.{Log, state_of, connections_of, sent_of, logged}
use Rattle.connections.specs.Calls.{Closes}
use Rattle.connection_loop.specs.declared.client.Client.{Client}
use Rattle.connection_loop.specs.Given.{Given, given_to}
use Rattle.connection_loop.specs.Open.{IsOpen, OnLogs}
use Rattle.connection_loop.specs.Clients.{at}
use Rattle.connection_loop.specs.Reached.{Reaches, position_of}
use Rattle.connection_loop.specs.Held.{goes_on}
use Rattle.connection_loop.specs.Standing.{IsUntouched, HoldsUnder, Stands, StandsOn}
use Rattle.connection_loop.specs.Resting.{idle}
use Rattle.connection_loop.proofs.Opening.{found}
use Rattle.connection_loop.proofs.Moving.{moves_none}
use Rattle.connection_loop.proofs.Turning.{grows_none, grows_call}
use Rattle.connection_loop.proofs.Tending.{tends_served, tends_closed}
use Rattle.connection_loop.proofs.Visiting.{if_some}
use Rattle.connection_loop.proofs.Standing.{stands_lacking, stands_less, stands_put, stands_closed}
use Rattle.connection_loop.proofs.Served.{stands_none}

module _ (options : Options) (base number : ℕ) (clients : List (Option Client)) where
  -- what is held of it, of which nothing is known yet
  holds_new : (client : Client) → client.leaving ≡ false → client.unsent ≡ [] → Reaches options base (position_of client) [] [] [] → (c : ℕ) (log : Log) (all : List Given)
      → held number (connections_of log) ≡ Some c → IsUntouched c log.entries all → HoldsUnder options base log all number client
  holds_new client reading none talk c log all here is =
      let due_is : sent_of c log.entries ++ client.unsent ≡ [] = ap (λ s. s ++ client.unsent) is.went ∙ none in
      record {
        place = c;
        under = here;
        holds = goes_on reading (let len = ap length none in omega (arith, len))
            (subst (λ r. Reaches options base (position_of client) r (given_to c all) (sent_of c log.entries ++ client.unsent)) (sym is.came)
            (subst (λ g. Reaches options base (position_of client) [] g (sent_of c log.entries ++ client.unsent)) (sym is.given)
            (subst (λ d. Reaches options base (position_of client) [] [] d) (sym due_is) talk)));
      }

  pub takes_in : (now : List (Option Client)) (client : Client) → ((n : ℕ) → n ≢ number → at now n ≡ at clients n) → at now number ≡ Some client → client.leaving ≡ false → client.unsent ≡ []
      → Reaches options base (position_of client) [] [] [] → next_of client.kept ≡ More → (log : Option Log) → IfSome log (IsOpen number 0)
      → OnLogs (StandsOn options base (Opened number) clients 0 [] now) log log
  takes_in now client others put reading none talk waits None stands = tt
  takes_in now client others put reading none talk waits (Some log) is_open = record {
    schedule = refl;
    piece = refl;
    few_calls = grows_none 2 log.entries;
    few_answers = omega arith;
    earns = λ d. omega arith;
    on = λ lacking all is_new stands.
        let c = is_open.0 in
        stands_none options base lacking log all now (stands_put options base lacking number client others put (holds_new client reading none talk c log all is_open.1.0 (is_new c is_open.1.0)) stands);
    tends = λ lacking all stands but.
        let c = is_open.0 in
        let here = is_open.1.0 in
        tends_served log.script.piece number c clients now here (moves_none c (state_of log)) others but.apart but.each (record {
          client = client;
          is_held = put;
          rests = inr (λ moving. if_some (slice_get (connections_of log) c) (λ x drained. idle none reading waits drained) (but.told c here));
        });
  }

  -- there was no memory for it
  pub turns_away : (taken : List (Option Client)) → ((n : ℕ) → n ≢ number → at taken n ≡ at clients n) → at taken number ≡ None → (before after : Option Log)
      → IfSome before (IsOpen number 0) → IfSome before (λ l. Closes number l after) → OnLogs (StandsOn options base (Opened number) clients 1 [] taken) before after
  turns_away taken others gone None after is_open closes = tt
  turns_away taken others gone (Some log) after is_open closes =
      let c = is_open.0 in
      let here = is_open.1.0 in
      let is = found (λ d. after ≡ Some (logged (closed d) log)) (held number (connections_of log)) c here closes in
      subst (λ o. OnLogs (StandsOn options base (Opened number) clients 1 [] taken) (Some log) o) (sym is) (record {
        schedule = refl;
        piece = refl;
        few_calls = grows_call (closed c) refl refl (grows_none 2 log.entries);
        few_answers = omega arith;
        earns = λ d. omega arith;
        on = λ lacking all is_new stands.
            let less = stands_less options base lacking {now = taken}
            (λ n x held_so. sym (others n (λ same. none-some x (sym gone ∙ subst (λ m. at taken m ≡ Some x) same held_so))) ∙ held_so) stands in (
              c ∷ [],
              refl,
              subst (λ l. Stands options base (c ∷ lacking) (logged (closed c) log) l taken) (sym (append-nil all))
                  (stands_closed options base (c ∷ lacking) number c here gone (inl ([], lacking, refl)) (stands_lacking options base c less)),
            );
        tends = λ lacking all stands but. tends_closed log.script.piece number c clients taken here (moves_none c (state_of log)) others but.apart but.each;
      })
