-- What a link tells: the datagrams that it has left, and those that passed, sent and received in one list.
use Rattle.std.specs.Prelude.{◌≡◌, ℕ, List, [], ◌∷◌, ◌++◌, take, Option, Some, None, ⊤}
use Rattle.outside.specs.Traffic.{Datagram}

-- a datagram that was sent to a port, or one that was received, with the count of faults before it
pub data Passed : Type 0 where
  sent : ℕ → Datagram → ℕ → Passed
  received : Datagram → ℕ → Passed

-- what is left, and what passed, each in order
pub record Talk : Type 0 where
  pub left : List Datagram
  pub passed : List Passed

-- after one more datagram was sent
abbrev pub sent_one : ℕ → ℕ → Datagram → Talk → Talk
sent_one faults port bytes talk = record talk { passed = talk.passed ++ sent port bytes faults ∷ [] }

-- the next datagram was received, of which as much is given as there is room for
pub record ReceivesNext (old : Talk) (faults : ℕ) (given : List ℕ) (room : ℕ) (new : Option Talk) : Type 0 where
  pub datagram : Datagram
  pub later : List Datagram
  pub next : old.left ≡ datagram ∷ later
  pub cut : given ≡ take room datagram
  pub result : new ≡ Some (record { left = later; passed = old.passed ++ received datagram faults ∷ [] })

-- a fact of what was told before and is told after, where the link tells it; it goes on telling it
abbrev pub OnTalk : (Talk → Talk → Type 0) → Option Talk → Option Talk → Type 0
OnTalk P None after = ⊤
OnTalk P (Some before) None = ⊥
OnTalk P (Some before) (Some after) = P before after

-- the datagrams that were sent, with their ports
abbrev pub with_sent : Passed → List (ℕ × Datagram) → List (ℕ × Datagram)
with_sent (sent port bytes faults) later = (port, bytes) ∷ later
with_sent (received bytes faults) later = later

abbrev pub sent_in : List Passed → List (ℕ × Datagram)
sent_in [] = []
sent_in (one ∷ more) = with_sent one (sent_in more)

-- the datagrams that were received
abbrev pub received_by : Passed → List Datagram → List Datagram
received_by (sent port bytes faults) later = later
received_by (received bytes faults) later = bytes ∷ later

abbrev pub received_in : List Passed → List Datagram
received_in [] = []
received_in (one ∷ more) = received_by one (received_in more)

-- these datagrams passed: they are told behind the earlier ones, and those received were the next that were left
pub record Went (between : List Passed) (before after : Talk) : Type 0 where
  pub told : after.passed ≡ before.passed ++ between
  pub given : before.left ≡ received_in between ++ after.left

-- a fact of what passed between, and of what is left then
pub record Passes (P : List Passed → List Datagram → Type 0) (before after : Talk) : Type 0 where
  pub between : List Passed
  pub went : Went between before after
  pub fact : P between after.left
