-- What is told of a read or a write at a place, told of the connection under a number.
use Rattle.std.proofs.Common.{◌≡◌, ℕ, List, sym, ap, subst, ◌∙◌}
use Rattle.std.specs.Prelude.{slice_get, Option, None, Some, Result, IfSome}
use Rattle.connections.specs.declared.connections.Input.{Input}
use Rattle.connections.specs.declared.connections.Broken.{Broken}
use Rattle.connections.specs.declared.schedule.Step.{Step}
use Rattle.connections.specs.Connection.{Connection}
use Rattle.connections.specs.State.{Entry, held, now_after}
use Rattle.connections.specs.Log.{Log, state_of, now_of, connections_of, with_entries, after_met, after_meeting_one}
use Rattle.connections.specs.Calls.{IsGiven, IsTaken, AfterMeeting, gave, took}
use Rattle.memory_connections.specs.Stage.{Played, played_connections}

both : (o : Option Connection) (P Q R : Connection → Type 0) → ((x : Connection) → P x → Q x → R x) → IfSome o P → IfSome o Q → IfSome o R
both None P Q R f p q = p
both (Some x) P Q R f p q = f x p q

one : (o : Option Connection) (P R : Connection → Type 0) → ((x : Connection) → P x → R x) → IfSome o P → IfSome o R
one None P R f p = p
one (Some x) P R f p = f x p

-- a step was met, and the schedule is what it was
pub record HasMet (old : Log) (played : Played) : Type 0 where
  pub schedule : played.schedule ≡ old.schedule
  pub entries : played.entries ≡ after_meeting_one (state_of old).later old.entries

met_is : (old : Log) (m : Played) → HasMet old m → m ≡ record { schedule = old.schedule; entries = after_meeting_one (state_of old).later old.entries; room = m.room }
met_is old m h =
    ap (λ (s : List Step). record { schedule = s; entries = m.entries; room = m.room }) h.schedule ∙ ap (λ (es : List Entry). record { schedule = old.schedule; entries = es; room = m.room }) h.entries

pub read_told : (old : Log) (number place most most' : ℕ) (out : List ℕ) (answer : Result Input Broken) (m n : Played) → held number (connections_of old) ≡ Some place → HasMet old m → most ≡ most'
    → IfSome (slice_get (played_connections m) place) (λ x. IsGiven x most out answer)
    → IfSome (slice_get (played_connections m) place) (λ x. n.entries ≡ gave (now_after m.schedule m.entries) place x answer m.entries) → n.schedule ≡ m.schedule
    → AfterMeeting number old (λ c x. IsGiven x most' out answer × (Some (record old { schedule = n.schedule; entries = n.entries }) ≡ Some (with_entries (gave (now_of (after_met old)) c x answer) (after_met old))))
read_told old number place most most' out answer m n at h same gives entries schedule =
    let is = met_is old m h in
    let g = subst (λ k. IfSome (slice_get (connections_of (after_met old)) place) (λ x. IsGiven x k out answer)) same (subst (λ (p : Played). IfSome (slice_get (played_connections p) place) (λ x. IsGiven x most out answer)) is gives) in
    let e = subst (λ (p : Played). IfSome (slice_get (played_connections p) place) (λ x. n.entries ≡ gave (now_after p.schedule p.entries) place x answer p.entries)) is entries in
    subst (λ o. IfSome o (λ c. IfSome (slice_get (connections_of (after_met old)) c) (λ x. IsGiven x most' out answer × (Some (record old { schedule = n.schedule; entries = n.entries }) ≡ Some (with_entries (gave (now_of (after_met old)) c x answer) (after_met old)))))) (sym at)
    (both (slice_get (connections_of (after_met old)) place) _ _ _ (λ x p q. (
      p,
      ap (λ (l : Log). Some l)
          (ap (λ (s : List Step). record old { schedule = s; entries = n.entries }) (schedule ∙ h.schedule) ∙ ap (λ (es : List Entry). record old { entries = es }) q),
    )) g e)

pub write_told : (old : Log) (number place most : ℕ) (bytes : List ℕ) (answer : Result ℕ Broken) (m n : Played) → held number (connections_of old) ≡ Some place → HasMet old m
    → IfSome (slice_get (played_connections m) place) (λ x. IsTaken x most bytes answer) → n.entries ≡ took place bytes answer m.entries → n.schedule ≡ m.schedule
    → AfterMeeting number old (λ c x. IsTaken x most bytes answer × (Some (record old { schedule = n.schedule; entries = n.entries }) ≡ Some (with_entries (took c bytes answer) (after_met old))))
write_told old number place most bytes answer m n at h takes entries schedule =
    let is = met_is old m h in
    let t = subst (λ (p : Played). IfSome (slice_get (played_connections p) place) (λ x. IsTaken x most bytes answer)) is takes in
    let e = entries ∙ ap (took place bytes answer) h.entries in
    subst (λ o. IfSome o (λ c. IfSome (slice_get (connections_of (after_met old)) c) (λ x. IsTaken x most bytes answer × (Some (record old { schedule = n.schedule; entries = n.entries }) ≡ Some (with_entries (took c bytes answer) (after_met old)))))) (sym at)
    (one (slice_get (connections_of (after_met old)) place) _ _ (λ x p. (
      p,
      ap (λ (l : Log). Some l)
          (ap (λ (s : List Step). record old { schedule = s; entries = n.entries }) (schedule ∙ h.schedule) ∙ ap (λ (es : List Entry). record old { entries = es }) e),
    )) t)
