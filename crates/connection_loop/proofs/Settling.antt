-- Where each waits, or a report of it is to come, the front has caught up.
use Rattle.std.proofs.Common.{◌≡◌, ◌≢◌, ◌⊎◌, inl, inr, ℕ, ◌-◌, ◌<◌, ◌≤◌, Bool, true, false, cond, List, [], ◌∷◌, ◌++◌, length, refl, ap, ◌∙◌, subst, arith, length-append}
use Rattle.std.specs.Prelude.{◌&&◌, not, sum, slice_get, Option, None, Some, IfSome}
use Rattle.std.proofs.lemmas.List.{append-nil}
use Rattle.std.proofs.lemmas.Bool.{eq-eqb}
use Rattle.partition_model.specs.declared.options.Options.{Options}
use Rattle.connections.specs.Connection.{Connection}
use Rattle.connections.specs.State.{is_under, held}
use Rattle.connections.specs.Log.{Log, state_of, connections_of, received_of, sent_of}
use Rattle.fronts.specs.Answered.{Answered}
use Rattle.connection_loop.specs.declared.client.Client.{Client}
use Rattle.connection_loop.specs.declared.desk.TheConstants.{MOST_UNSENT}
use Rattle.connection_loop.specs.Given.{Given, given_to}
use Rattle.connection_loop.specs.Clients.{IsClient, AreOpen}
use Rattle.connection_loop.specs.Reached.{Reaches, position_of}
use Rattle.connection_loop.specs.Counted.{AreCountedIn, IsCounted, over}
use Rattle.connection_loop.specs.Talk.{Talk, due_in, has_left, kept_of}
use Rattle.connection_loop.specs.Turns.{KeepsInAll}
use Rattle.connection_loop.specs.Closing.{IsSettled}
use Rattle.connection_loop.specs.Closing.{shut as waits_shut, idle as waits_idle}
use Rattle.connection_loop.specs.Moments.{IsCaughtUp}
use Rattle.connection_loop.specs.Traffic.{IsShut, IsToCome}
use Rattle.connection_loop.specs.Resting.{IsAtRest, shut, idle, is_there, Tends}
use Rattle.connection_loop.specs.Held.{Holds, goes_on, left, ended}
use Rattle.connection_loop.specs.Standing.{Stands}
use Rattle.connection_loop.proofs.Talking.{Told, talk_at, talk_ends, ends_left, all_answered}
use Rattle.connection_loop.proofs.Standing.{holds_at}
use Rattle.connection_loop.proofs.Visited.{held_reaches}

module _ (options : Options) (base : ℕ) where
  module _ (c : ℕ) (log : Log) (given : List Answered) (client : Client) (is : IsClient client) (x : Connection) (holds : Holds options base MOST_UNSENT c log given client) where
    abbrev came : List ℕ
    came = received_of c log.entries

    abbrev went : List ℕ
    went = sent_of c log.entries

    some_due : {most : ℕ} → client.unsent ≢ [] → IsShut x → Told options base came went given (went ++ client.unsent) most → IsSettled options base x came went given
    some_due some is_shut told =
        let len = ap length told.due_is ∙ length-append went client.unsent in
        let more = some_length client.unsent some in
        inr (is_shut.whole, told.talk, waits_shut (omega (arith, len, more)) is_shut.shut)
      where
        some_length : (l : List ℕ) → l ≢ [] → 0 < length l
        some_length [] none = absurd (none refl)
        some_length (b ∷ l) none = omega arith

    settled_at : IsAtRest client x → IsSettled options base x came went given
    settled_at rest = elim rest as (λ _. IsSettled options base x came went given) [
      | shut some is_shut ↦ elim holds as (λ _. IsSettled options base x came went given) [
        | goes_on stays few at ↦ some_due some is_shut (talk_at options base at is.begun went (client.unsent, refl))
        | left leaves few ends ↦ some_due some is_shut (talk_ends options base ends went (client.unsent, refl))
        | ended leaves few at none over ↦ some_due some is_shut (talk_at options base at is.begun went (client.unsent, refl))
      ]
      | idle none reading more drained ↦
          let at = held_reaches options base MOST_UNSENT c holds reading none in
          let a = all_answered options base (subst (λ due. Reaches options base (position_of client) came given due) (append-nil went) at) is.begun more in
          inr (drained.whole, a.talk, waits_idle a.due_is drained.read drained.goes_on a.answered)
    ]

  -- a report of the c-th connection is to come, or it is settled
  abbrev IsLeft : ℕ → Log → List Given → Connection → Type 0
  IsLeft c log all x = IsToCome c (state_of log).later ⊎ IsSettled options base x (received_of c log.entries) (sent_of c log.entries) (given_to c all)

  -- so the front has caught up
  pub all_caught_up : (lacking : List ℕ) (log : Log) (all : List Given) (clients : List (Option Client)) → AreOpen clients (Some log) → Stands options base lacking log all clients
      → Tends log.script.piece (state_of log) clients → IsCaughtUp options base log.schedule log.script.piece log.entries all
  all_caught_up lacking log all clients are stands tends moving c = by (slice_get (connections_of log) c) refl
    where
      one : (x : Connection) → slice_get (connections_of log) c ≡ Some x → (b : Bool) → x.is_closed ≡ b → IsLeft c log all x
      one x is true closed = inr (inl closed)
      one x is false alive =
          let n = x.number in
          let under : is_under n x ≡ true = ap (λ b. b && not x.is_closed) (eq-eqb n n refl) ∙ ap not alive in
          let here : held n (connections_of log) ≡ Some c = tends.apart n c (ap (is_there n) is ∙ under) in
          let t = tends.each n c here in
          let holds = holds_at options base c here (stands.holds n t.client t.is_held) in
          elim t.rests as (λ _. IsLeft c log all x) [
            | inl come ↦ inl come
            | inr waits ↦ inr (settled_at c log (given_to c all) t.client (are n t.client t.is_held).0 x holds (subst (λ o. IfSome o (IsAtRest t.client)) is (waits moving)))
          ]

      by : (o : Option Connection) → slice_get (connections_of log) c ≡ o → IfSome o (IsLeft c log all)
      by None is = tt
      by (Some x) is = one x is x.is_closed refl

  -- What is kept of a client, where so much is counted for it

  module _ (c : ℕ) (log : Log) (given : List Answered) (client : Client) (counted : List ℕ) (n : ℕ) where
    abbrev Kept : Type 0
    Kept = (talk : Talk options base (received_of c log.entries) (sent_of c log.entries) given)
        × IsCounted counted n (over (length (kept_of talk)) (length (due_in talk) - length (sent_of c log.entries)))

    kept_by : {most : ℕ} (told : Told options base (received_of c log.entries) (sent_of c log.entries) given (sent_of c log.entries ++ client.unsent) most) → length (kept_of told.talk) ≤ length client.kept
        → IsCounted counted n (over (length client.kept) (length client.unsent)) → Kept
    kept_by told few enough =
        let due = ap length told.due_is ∙ length-append (sent_of c log.entries) client.unsent in
        (told.talk, (enough.0, enough.1, let most = enough.2 in omega (arith, due, few, most)))

    fewer : (b : Bool) (rest : List ℕ) → length (cond b [] rest) ≤ length rest
    fewer true rest = omega arith
    fewer false rest = omega arith

    kept_at : IsClient client → Holds options base MOST_UNSENT c log given client → IsCounted counted n (over (length client.kept) (length client.unsent)) → Kept
    kept_at is holds enough = elim holds as (λ _. Kept) [
      | goes_on stays few at ↦ let t = talk_at options base at is.begun (sent_of c log.entries) (client.unsent, refl) in
          kept_by t (let less = fewer (has_left t.talk.said) t.talk.rest in let most = t.few in omega (arith, less, most)) enough
      | left leaves few ends ↦ let t = talk_ends options base ends (sent_of c log.entries) (client.unsent, refl) in
          kept_by t (let none = ap (λ b. length (cond b [] t.talk.rest)) (ends_left options base ends (sent_of c log.entries) (client.unsent, refl)) in omega (arith, none)) enough
      | ended leaves few at none over ↦ let t = talk_at options base at is.begun (sent_of c log.entries) (client.unsent, refl) in
          kept_by t (let less = fewer (has_left t.talk.said) t.talk.rest in let most = t.few in omega (arith, less, most)) enough
    ]

  -- so in all no more is kept than may be
  pub all_within : (in_all : ℕ) (counted : List ℕ) (lacking : List ℕ) (log : Log) (all : List Given) (clients : List (Option Client)) → AreOpen clients (Some log) → Stands options base lacking log all clients
      → Tends log.script.piece (state_of log) clients → sum counted ≤ in_all → AreCountedIn counted clients → KeepsInAll options base in_all log.schedule log.entries all
  all_within in_all counted lacking log all clients are stands tends within each = record {
    counted = counted;
    within = within;
    each = λ n c here.
        let t = tends.each n c here in
        kept_at c log (given_to c all) t.client counted n (are n t.client t.is_held).0 (holds_at options base c here (stands.holds n t.client t.is_held)) (each n t.client t.is_held);
  }
