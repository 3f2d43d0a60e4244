-- What a run of fronts comes to, in numbers.
use Rattle.std.specs.Prelude.{◌*◌, ◌+◌, ◌≤◌, ◌==◌, ℕ, if◌then◌else◌}
use Rattle.fronts.specs.declared.totals.Totals.{Totals}

-- totals after one more datagram of so many requests
abbrev pub counted : ℕ → Totals → Totals
counted requests totals = record {
  batches = totals.batches + 1;
  requests = totals.requests + requests;
  bad = totals.bad + (if requests == 0 then 1 else 0);
}

-- the totals of two
abbrev pub added : Totals → Totals → Totals
added a b = record { batches = a.batches + b.batches; requests = a.requests + b.requests; bad = a.bad + b.bad }

-- nothing was counted
abbrev pub none_counted : Totals
none_counted = record { batches = 0; requests = 0; bad = 0 }

-- the totals of so many datagrams at most
pub record IsUpTo (batches : ℕ) (totals : Totals) : Type 0 where
  pub datagrams : totals.batches ≤ batches
  pub requests : totals.requests ≤ 255 * batches
  pub refused : totals.bad ≤ batches
