-- What a front holds of its connections.
use Rattle.std.specs.Prelude.{◌≡◌, ℕ, ◌<◌, ◌≤◌, List, [], length, slice_get, Option, None, Some, IfSome}
use Rattle.memcached_text.specs.declared.limits.TheConstants.{MAX_WAITING_LEN}
use Rattle.memcached_requests.specs.Next.{next_of}
use Rattle.command_answers.specs.Exchange.{IsOpenAt}
use Rattle.connections.specs.Log.{Log}
use Rattle.connection_loop.specs.declared.client.Client.{Client}
use Rattle.connection_loop.specs.Open.{IsOpen}
use Rattle.connection_loop.specs.Paid.{IsPaid}

-- No more is kept than the longest that waits, and the command that it begins with is not answered, or in part. While bytes are to be dropped nothing is kept.
-- What is unanswered is paid for.
pub record IsClient (client : Client) : Type 0 where
  pub short : length client.kept ≤ MAX_WAITING_LEN
  pub begun : IsOpenAt (next_of client.kept) client.done
  pub dropped : 0 < client.dropping → client.kept ≡ []
  pub paid : IsPaid 0 client

abbrev pub flat : Option (Option Client) → Option Client
flat None = None
flat (Some held) = held

-- what is held under a number
abbrev pub at : List (Option Client) → ℕ → Option Client
at all n = flat (slice_get all n)

-- each that is held is open, and may be asked for again as often as is noted
abbrev pub AreOpen : List (Option Client) → Option Log → Type 0
AreOpen all log = (n : ℕ) (client : Client) → at all n ≡ Some client → IsClient client × IfSome log (IsOpen n client.asks)
