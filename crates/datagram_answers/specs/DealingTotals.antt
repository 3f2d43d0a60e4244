-- The totals of what fronts made of their datagrams.
use Rattle.std.specs.Prelude.{◌≡◌, ◌==◌, Bool, List, length, filter, sum_by}
use Rattle.fronts.specs.declared.totals.Totals.{Totals}
use Rattle.datagram_answers.specs.Dealing.{Dealing, turns_in}

-- whether a datagram was answered with no turn
abbrev pub has_no_turns : Dealing → Bool
has_no_turns dealing = length dealing.turns == 0

-- the datagrams received, the requests in those that were batches, and the others
pub record AreTotalsOf (fronts : List (List Dealing)) (totals : Totals) : Type 0 where
  pub batches : totals.batches ≡ sum_by length fronts
  pub requests : totals.requests ≡ sum_by (λ dealings. length (turns_in dealings)) fronts
  pub bad : totals.bad ≡ sum_by (λ dealings. length (filter has_no_turns dealings)) fronts
