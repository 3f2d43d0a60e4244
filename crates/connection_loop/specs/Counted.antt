-- How much is counted of what a front keeps of its clients.
use Rattle.std.specs.Prelude.{◌≡◌, ℕ, ◌+◌, ◌-◌, ◌≤◌, List, length, slice_get, sum, Option, Some, vec_len}
use Rattle.connection_loop.specs.declared.budget.Budget.{Budget}
use Rattle.connection_loop.specs.declared.budget.TheConstants.{FREE_LEN}
use Rattle.connection_loop.specs.declared.client.Client.{Client}
use Rattle.connection_loop.specs.declared.clients.Clients.{Clients}
use Rattle.connection_loop.specs.Clients.{at}

-- what is counted for all together is the sum, and no more than may be
pub record IsBudget (budget : Budget) : Type 0 where
  pub all : sum budget.counted.items ≡ budget.all
  pub within : budget.all ≤ budget.most

-- what is kept of a client above what is free: of what was received, and of what is unsent
abbrev pub over : ℕ → ℕ → ℕ
over kept unsent = (kept - FREE_LEN) + (unsent - FREE_LEN)

-- so much is counted under a number at least
abbrev pub IsCounted : List ℕ → ℕ → ℕ → Type 0
IsCounted counted n bytes = (k : ℕ) × (slice_get counted n ≡ Some k) × (bytes ≤ k)

-- no less is counted for a client than is kept of it above what is free
abbrev pub AreCountedIn : List ℕ → List (Option Client) → Type 0
AreCountedIn counted held = (n : ℕ) (client : Client) → at held n ≡ Some client → IsCounted counted n (over (length client.kept) (length client.unsent))

-- so, within the budget
pub record AreCounted (clients : Clients) : Type 0 where
  pub budget : IsBudget clients.budget
  pub places : vec_len clients.held ≤ vec_len clients.budget.counted
  pub each : AreCountedIn clients.budget.counted.items clients.held.items
