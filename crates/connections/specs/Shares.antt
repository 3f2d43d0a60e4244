-- The shares of places where connections come, as listeners give them out.
use Rattle.std.specs.Prelude.{◌≡◌, ℕ, zero, suc, ◌+◌, ◌&&◌, Bool, true, false, List, [], ◌++◌, length, slice_get, nat_lt, ◌==◌, Option, None, Some, is_some, IfSome, if◌then◌else◌}
use Rattle.connections.specs.Log.{Log}

-- the log of each share that was not given out yet
abbrev pub ShareLogs : Type 0
ShareLogs = ℕ → Option Log

-- so many shares from this one on were given out
abbrev pub without_shares : ℕ → ℕ → ShareLogs → ShareLogs
without_shares first count shares = λ n. if nat_lt n first then shares n else if nat_lt n (first + count) then None else shares n

-- this was left of a share
abbrev pub with_share : ℕ → Option Log → ShareLogs → ShareLogs
with_share share log shares = λ n. if n == share then log else shares n

-- something waits at each of so many shares from this one on
abbrev pub are_awaited : ℕ → ℕ → ShareLogs → Bool
are_awaited first zero shares = true
are_awaited first (suc count) shares = is_some (shares first) && are_awaited (suc first) count shares

-- what contracts see of a share at one moment
pub record ShareFacts : Type 0 where
  pub share : ℕ
  pub faults : ℕ
  pub has_ended : Bool
  pub log : Option Log

abbrev pub share_facts : {Port : Type 0} → (Port → ℕ) → (Port → ℕ) → (Port → Bool) → (Port → Option Log) → Port → ShareFacts
share_facts share faults has_ended log = λ c. record { share = share c; faults = faults c; has_ended = has_ended c; log = log c }

-- a share that was just given out, where this waited at all of them
pub record IsNewShare (waited : Option ShareLogs) (share : ℕ) (facts : ShareFacts) : Type 0 where
  pub share_is : facts.share ≡ share
  pub no_faults : facts.faults ≡ 0
  pub unended : facts.has_ended ≡ false
  pub fresh : IfSome facts.log (λ l. l.entries ≡ [])
  pub waited_is : IfSome waited (λ all. all share ≡ facts.log)

-- so many shares were given out behind those before, numbered from the first on
pub record GivesShares (waited : Option ShareLogs) (first count : ℕ) (old new : List ShareFacts) : Type 0 where
  pub more : List ShareFacts
  pub behind : new ≡ old ++ more
  pub many : length more ≡ count
  pub each : (k : ℕ) (facts : ShareFacts) → slice_get more k ≡ Some facts → IsNewShare waited (first + k) facts
