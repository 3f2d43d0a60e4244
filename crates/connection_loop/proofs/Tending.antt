-- Those that wait for their peers go on waiting, as others are served.
use Rattle.std.proofs.Common.{◌≡◌, ◌≢◌, inl, inr, ℕ, ◌==◌, Bool, true, false, true≢false, List, refl, sym, ap, ◌∙◌, subst}
use Rattle.std.specs.Prelude.{◌&&◌, slice_get, Option, Some, IfSome}
use Rattle.std.proofs.lemmas.Option.{same_Some}
use Rattle.std.proofs.lemmas.Bool.{cases_eq, ne_eqb}
use Rattle.connections.specs.Connection.{Connection, after_close}
use Rattle.connections.specs.State.{State, closed, changed, is_under, held, after}
use Rattle.connection_loop.specs.declared.client.Client.{Client}
use Rattle.connection_loop.specs.Clients.{at}
use Rattle.connection_loop.specs.Resting.{IsAtRest, Rests, is_there, AreApart, Tended, Tends, Moves}
use Rattle.connection_loop.proofs.Places.{there, two_places, elsewhere, changed_here, same_held, closed_other}
use Rattle.connection_loop.proofs.Moving.{apart_as}

-- of another nothing happened, or a report is to come
rests_on : (client : Client) {c : ℕ} (d piece : ℕ) {old new : State} → Moves c old new → (c == d) ≡ false → Rests client d piece old → Rests client d piece new
rests_on client {c} d piece {old} {new} moves other rests = elim rests as (λ _. Rests client d piece new) [
  | inl come ↦ inl (moves.to_come d come)
  | inr waits ↦ elim (moves.others d other) as (λ _. Rests client d piece new) [
    | inl come ↦ inl come
    | inr same ↦ inr (λ moving. subst (λ o. IfSome o (IsAtRest client)) (sym same) (waits moving))
  ]
]

module _ (piece number c : ℕ) {old new : State} (clients now : List (Option Client)) (here : held number old.connections ≡ Some c) (moves : Moves c old new)
    (others : (n : ℕ) → n ≢ number → at now n ≡ at clients n) (apart : AreApart old.connections)
    (each : (n d : ℕ) → n ≢ number → held n old.connections ≡ Some d → Tended piece n d old clients) where
  tended_other : (n d : ℕ) → n ≢ number → held n new.connections ≡ Some d → ((c == d) ≡ false) × Tended piece n d new now
  tended_other n d other is =
      let was = sym (moves.same n) ∙ is in
      let t = each n d other was in
      let away = ne_eqb c d (two_places number n c d old.connections other here was) in
      (away, record { client = t.client; is_held = others n other ∙ t.is_held; rests = rests_on t.client d piece moves away t.rests })

  -- one was served, and waits
  pub tends_served : Tended piece number c new now → Tends piece new now
  tends_served mine = record {
    apart = apart_as old.connections new.connections moves.there moves.same apart;
    each = λ n d is. elim (cases_eq n number) as (λ _. Tended piece n d new now) [
      | inl same ↦
          let place = same_Some c d (sym here ∙ sym (moves.same number) ∙ ap (λ m. held m new.connections) (sym same) ∙ is) in
          subst (λ m. Tended piece m d new now) (sym same) (subst (λ e. Tended piece number e new now) place mine)
      | inr other ↦ (tended_other n d other is).1
    ];
  }

  -- or it was closed

  abbrev gone : List Connection
  gone = changed c after_close new.connections

  there_now : (x : Connection) × (slice_get new.connections c ≡ Some x) × (is_under number x ≡ true)
  there_now = there number c new.connections (moves.same number ∙ here)

  apart_now : AreApart new.connections
  apart_now = apart_as old.connections new.connections moves.there moves.same apart

  none_closed : (b : Bool) → (b && false) ≡ false
  none_closed true = refl
  none_closed false = refl

  not_closed : (n d : ℕ) → is_there n (slice_get gone d) ≡ true → c ≢ d
  not_closed n d is same =
      let x = there_now in
      let closed_is : slice_get gone d ≡ Some (after_close x.0) = subst (λ e. slice_get gone e ≡ Some (after_close x.0)) same (changed_here c after_close new.connections x.0 x.1) in
      true≢false (sym is ∙ ap (is_there n) closed_is ∙ none_closed (x.0.number == n))

  was_there : (n d : ℕ) → is_there n (slice_get gone d) ≡ true → held n new.connections ≡ Some d
  was_there n d is = apart_now n d (ap (is_there n) (sym (elsewhere c d after_close new.connections (not_closed n d is))) ∙ is)

  not_number : (n d : ℕ) → is_there n (slice_get gone d) ≡ true → n ≢ number
  not_number n d is same = not_closed n d is (same_Some c d (sym here ∙ sym (moves.same number) ∙ ap (λ m. held m new.connections) (sym same) ∙ was_there n d is))

  still_held : (n : ℕ) → n ≢ number → held n gone ≡ held n new.connections
  still_held n other =
      let x = there_now in
      same_held n c after_close new.connections (λ y is. closed_other number n y other (subst (λ (z : Connection). is_under number z ≡ true) (same_Some x.0 y (sym x.1 ∙ is)) x.2))

  pub tends_closed : Tends piece (after (closed c) new) now
  tends_closed = record {
    apart = λ n d is. still_held n (not_number n d is) ∙ was_there n d is;
    each = λ n d is.
        let y = there n d gone is in
        let open_there = ap (is_there n) y.1 ∙ y.2 in
        let t = (tended_other n d (not_number n d open_there) (was_there n d open_there)).1 in record {
          client = t.client;
          is_held = t.is_held;
          rests = elim t.rests as (λ _. Rests t.client d piece (after (closed c) new)) [
            | inl come ↦ inl come
            | inr waits ↦ inr (λ moving. subst (λ o. IfSome o (IsAtRest t.client)) (sym (elsewhere c d after_close new.connections (not_closed n d open_there))) (waits moving))
          ];
        };
  }
