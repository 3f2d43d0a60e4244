-- Those that wait for their peers go on waiting as another is reported.
use Rattle.std.proofs.Common.{◌≡◌, ◌≢◌, ◌⊎◌, inl, inr, ℕ, zero, suc, true, true≢false, List, [], ◌∷◌, ◌++◌, length, refl, sym, ap, ◌∙◌, subst, arith}
use Rattle.std.specs.Prelude.{slice_get, Option, None, Some, is_some, IfSome}
use Rattle.std.proofs.lemmas.Option.{none-some, same_Some}
use Rattle.std.proofs.lemmas.Grind.{common_steps}
use Rattle.connections.specs.declared.schedule.Change.{Change}
use Rattle.connections.specs.declared.schedule.Step.{Step}
use Rattle.connections.specs.declared.schedule.Step.TheVariants.{Opens, TurnsAway, Reports, Happens}
use Rattle.connections.specs.declared.connections.Event.{Event}
use Rattle.connections.specs.declared.connections.Event.TheVariants.{Opened, TurnedAway, Ready}
use Rattle.connections.specs.Connection.{Connection, new_connection, after_change}
use Rattle.connections.specs.State.{State, changed, is_under, held, number_or, number_at, after_report}
use Rattle.connections.specs.Calls.{IsNext}
use Rattle.connection_loop.specs.declared.client.Client.{Client}
use Rattle.connection_loop.specs.Traffic.{IsDrained, IsToCome}
use Rattle.connection_loop.specs.Resting.{IsAtRest, Rests, is_there, AreApart, Tends, TendsBut}
use Rattle.connection_loop.proofs.Places.{there, pushed, pushed_here, elsewhere, if_pushed}
use Rattle.connection_loop.proofs.Opening.{number_in}
use Rattle.connection_loop.proofs.Moving.{there_changed, held_changed, apart_as}

-- One that is there is reported

-- a connection is under its number
own_number : (n : ℕ) (x : Connection) → is_under n x ≡ true → x.number ≡ n
own_number n x here = grind (arith, common_steps)

module _ (piece : ℕ) (clients : List (Option Client)) (s : State) (tends : Tends piece s clients) where
  -- what is under another number is another
  not_reported : (number c n d : ℕ) → number ≡ number_at c s.connections → n ≢ number → held n s.connections ≡ Some d → c ≢ d
  not_reported number c n d is other here same =
      let x = there n d s.connections here in
      other (sym (own_number n x.0 x.2) ∙ ap (number_or c) (sym (ap (slice_get s.connections) same ∙ x.1)) ∙ sym is)

  still_to_come : (c d : ℕ) (later : List Step) → c ≢ d → (c ≡ d) ⊎ IsToCome d later → IsToCome d later
  still_to_come c d later other come = elim come as (λ _. IsToCome d later) [ inl same ↦ absurd (other same) | inr still ↦ still ]

  -- one was turned away
  tells_turned : (later : List Step) → ((d : ℕ) → IsToCome d s.later → IsToCome d later) → TendsBut TurnedAway piece (record { connections = s.connections; later = later }) clients
  tells_turned later come = record {
    apart = tends.apart;
    each = λ n d other here.
        let t = tends.each n d here in record {
          client = t.client;
          is_held = t.is_held;
          rests = elim t.rests as (λ _. Rests t.client d piece (record { connections = s.connections; later = later })) [ inl coming ↦ inl (come d coming) | inr waits ↦ inr waits ];
        };
    told = tt;
  }

  tells_ready : (number c : ℕ) (change : Change) (later : List Step) → ((d : ℕ) → IsToCome d s.later → (c ≡ d) ⊎ IsToCome d later) → number ≡ number_at c s.connections
      → TendsBut (Ready number) piece (record { connections = changed c (after_change change) s.connections; later = later }) clients
  tells_ready number c change later come is =
      let f = after_change change in record {
        apart = apart_as s.connections (changed c f s.connections) (there_changed f (λ n x. refl) c s.connections) (held_changed f (λ n x. refl) c s.connections) tends.apart;
        each = λ n d other here.
            let was = sym (held_changed f (λ m x. refl) c s.connections n) ∙ here in
            let t = tends.each n d was in
            let away = not_reported number c n d is other was in record {
              client = t.client;
              is_held = t.is_held;
              rests = elim t.rests as (λ _. Rests t.client d piece (record { connections = changed c f s.connections; later = later })) [
                | inl coming ↦ inl (still_to_come c d later away (come d coming))
                | inr waits ↦ inr (λ moving. subst (λ o. IfSome o (IsAtRest t.client)) (sym (elsewhere c d f s.connections away)) (waits moving))
              ];
            };
        told = λ d here. ap is_some (tends.each number d (sym (held_changed f (λ m x. refl) c s.connections number) ∙ here)).is_held;
      }

  -- Another is made

  module _ (number window : ℕ) (bytes : List ℕ) (later : List Step) (come : (d : ℕ) → IsToCome d s.later → IsToCome d later) (free : held number s.connections ≡ None) where
    abbrev one : Connection
    one = new_connection number window bytes

    abbrev all : List Connection
    all = s.connections ++ one ∷ []

    -- a place of those that are there now
    which : (xs : List Connection) (x : Connection) (d : ℕ) (y : Connection) → slice_get (xs ++ x ∷ []) d ≡ Some y → (slice_get xs d ≡ Some y) ⊎ ((d ≡ length xs) × (y ≡ x))
    which [] x zero y is = inr (refl, sym (same_Some x y is))
    which [] x (suc d) y is = absurd (none-some y is)
    which (z ∷ xs) x zero y is = inl is
    which (z ∷ xs) x (suc d) y is = elim (which xs x d y is) as (λ _. (slice_get xs d ≡ Some y) ⊎ ((suc d ≡ suc (length xs)) × (y ≡ x))) [ inl found ↦ inl found | inr last ↦ inr (ap suc last.0, last.1) ]

    held_new : held number all ≡ Some (length s.connections)
    held_new = (pushed_here number window bytes s.connections free).0

    held_old : (n d : ℕ) → held n s.connections ≡ Some d → held n all ≡ Some d
    held_old n d is = (pushed n d 0 s.connections one (is, omega arith)).0

    apart_opened : AreApart all
    apart_opened n d is = by (slice_get all d) refl is
      where
        by : (o : Option Connection) → slice_get all d ≡ o → is_there n o ≡ true → held n all ≡ Some d
        by None none here = absurd (true≢false (sym here))
        by (Some y) some here = elim (which s.connections one d y some) as (λ _. held n all ≡ Some d) [
          | inl found ↦ held_old n d (tends.apart n d (ap (is_there n) found ∙ here))
          | inr last ↦
              let own : number ≡ n = own_number n one (subst (λ (z : Connection). is_under n z ≡ true) last.1 here) in
              ap (λ m. held m all) (sym own) ∙ held_new ∙ ap Some (sym last.0)
        ]

    -- those under other numbers were there
    held_other : (n d : ℕ) → n ≢ number → held n all ≡ Some d → held n s.connections ≡ Some d
    held_other n d other here =
        let x = there n d all here in
        elim (which s.connections one d x.0 x.1) as (λ _. held n s.connections ≡ Some d) [
          | inl found ↦ tends.apart n d (ap (is_there n) found ∙ x.2)
          | inr last ↦ absurd (other (sym (own_number n one (subst (λ (z : Connection). is_under n z ≡ true) last.1 x.2))))
        ]

    pub tells_opened : TendsBut (Opened number) piece (record { connections = all; later = later }) clients
    tells_opened = record {
      apart = apart_opened;
      each = λ n d other here.
          let was = held_other n d other here in
          let t = tends.each n d was in record {
            client = t.client;
            is_held = t.is_held;
            rests = elim t.rests as (λ _. Rests t.client d piece (record { connections = all; later = later })) [
              | inl coming ↦ inl (come d coming)
              | inr waits ↦ inr (λ moving. if_pushed (IsAtRest t.client) s.connections one d (ap is_some (there n d s.connections was).1) (waits moving))
            ];
          };
      told = λ d here.
          let x = there number d all here in
          elim (which s.connections one d x.0 x.1) as (λ _. IfSome (slice_get all d) IsDrained) [
            | inl found ↦ absurd (none-some d (sym free ∙ tends.apart number d (ap (is_there number) found ∙ x.2)))
            | inr last ↦ subst (λ o. IfSome o IsDrained) (sym x.1) (subst IsDrained (sym last.1) (record { read = refl; whole = refl; goes_on = refl }))
          ];
    }

-- whichever is next
pub tells : (event : Event) (piece : ℕ) (clients : List (Option Client)) (s : State) (later : List Step) → s.later ≡ later → IsNext event s.connections later → Tends piece s clients
    → TendsBut event piece (after_report (number_in event) s later) clients
tells (Opened number) piece clients s [] is next tends = absurd next
tells (Opened number) piece clients s (Opens window bytes ∷ later) is next tends = tells_opened piece clients s tends number window bytes later (λ d come. subst (IsToCome d) is come) next
tells (Opened number) piece clients s (TurnsAway ∷ later) is next tends = absurd next
tells (Opened number) piece clients s (Reports c change ∷ later) is next tends = absurd next
tells (Opened number) piece clients s (Happens c change ∷ later) is next tends = absurd next
tells TurnedAway piece clients s [] is next tends = absurd next
tells TurnedAway piece clients s (Opens window bytes ∷ later) is next tends = absurd next
tells TurnedAway piece clients s (TurnsAway ∷ later) is next tends = tells_turned piece clients s tends later (λ d come. subst (IsToCome d) is come)
tells TurnedAway piece clients s (Reports c change ∷ later) is next tends = absurd next
tells TurnedAway piece clients s (Happens c change ∷ later) is next tends = absurd next
tells (Ready number) piece clients s [] is next tends = absurd next
tells (Ready number) piece clients s (Opens window bytes ∷ later) is next tends = absurd next
tells (Ready number) piece clients s (TurnsAway ∷ later) is next tends = absurd next
tells (Ready number) piece clients s (Reports c change ∷ later) is next tends = tells_ready piece clients s tends number c change later (λ d come. subst (IsToCome d) is come) next
tells (Ready number) piece clients s (Happens c change ∷ later) is next tends = tells_ready piece clients s tends number c change later (λ d come. subst (IsToCome d) is come) next
