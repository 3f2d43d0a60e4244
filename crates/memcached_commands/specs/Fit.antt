-- What may be asked, and found.
use Rattle.std.specs.Prelude.{⊤, ℕ, ◌^◌, ◌<◌, ◌≤◌, List, length, Option, Some, None}
use Rattle.mica_words.specs.Item.{StoredFits}
use Rattle.memcached_text.specs.declared.limits.TheConstants.{MAX_TEXT_LEN}
use Rattle.memcached_text.specs.Fit.{IsFitKey, IsKept, IsWant}
use Rattle.memcached_text.specs.Lifetimes.{IsLifetime}
use Rattle.memcached_commands.specs.declared.ask.Initial.{Initial}
use Rattle.memcached_commands.specs.declared.ask.Ask.{Ask}
use Rattle.memcached_commands.specs.declared.asks.Asked.{Asked}
use Rattle.memcached_commands.specs.declared.ask.Ask.TheVariants.{GetTouch, Leased, Store, Join, Count, Touch, Mark}

-- a number of 64 bits to begin a count with, and a lifetime
pub record IsInitial (initial : Initial) : Type 0 where
  pub number : initial.number < 2 ^ 64
  pub lifetime : IsLifetime initial.lifetime

abbrev pub IsFitInitial : Option Initial → Type 0
IsFitInitial None = ⊤
IsFitInitial (Some initial) = IsInitial initial

-- a value is no longer than an item's may be, and numbers and lifetimes are such as a client may write
abbrev pub IsFitAsk : Ask → Type 0
IsFitAsk (GetTouch lifetime) = IsLifetime lifetime
IsFitAsk (Store wants flags lifetime value) = IsWant wants × (flags < 2 ^ 32) × IsLifetime lifetime × (length value ≤ MAX_TEXT_LEN)
IsFitAsk (Leased lease) = IsKept lease.touch × IsKept lease.vivify × IsKept lease.recache
IsFitAsk (Join side unique more) = length more ≤ MAX_TEXT_LEN
IsFitAsk (Count direction delta unique lifetime initial) = (delta < 2 ^ 64) × IsKept lifetime × IsFitInitial initial
IsFitAsk (Touch lifetime) = IsLifetime lifetime
IsFitAsk (Mark unique lifetime) = IsKept lifetime
IsFitAsk _ = ⊤

-- nothing is stored, or a value that the store takes
abbrev pub IsFitStored : Option (List ℕ) → Type 0
IsFitStored None = ⊤
IsFitStored (Some stored) = StoredFits stored

-- and its key is neither empty nor too long
abbrev pub IsFitAsked : Asked → Type 0
IsFitAsked asked = IsFitKey asked.key × IsFitAsk asked.ask
