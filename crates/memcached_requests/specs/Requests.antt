-- What a client wants.
use Rattle.std.specs.Prelude.{◌≤◌, ⊤, ℕ, Bool, false, List, [], ◌∷◌, Option, Some, None}
use Rattle.std.specs.List.{AllByRecursion}
use Rattle.memcached_text.specs.declared.fault.Fault.{Fault}
use Rattle.memcached_text.specs.declared.limits.TheConstants.{MAX_TEXT_LEN}
use Rattle.memcached_text.specs.Fit.{IsFitKey}
use Rattle.memcached_text.specs.Lifetimes.{IsDue}
use Rattle.memcached_commands.specs.declared.ask.Ask.TheVariants.{Spoil}
use Rattle.memcached_commands.specs.declared.ask.Says.TheVariants.{Refusal}
use Rattle.memcached_commands.specs.declared.asks.Asked.{Asked}
use Rattle.memcached_commands.specs.Answers.{shown_len}
use Rattle.memcached_commands.specs.Asks.{asked}
use Rattle.memcached_commands.specs.Fit.{IsFitAsked}
use Rattle.memcached_requests.specs.declared.request.Request.{Request}
use Rattle.memcached_requests.specs.declared.request.Request.TheVariants.{Keys, Flush, Stats, Said}
use Rattle.memcached_requests.specs.declared.request.Next.{Next}
use Rattle.memcached_requests.specs.declared.request.Next.TheVariants.{Whole, More}

-- what is asked of keys
abbrev pub asks_of : Request → List Asked
asks_of (Keys asks) = asks
asks_of _ = []

abbrev pub asks_in : Next → List Asked
asks_in (Whole request style len last) = asks_of request
asks_in More = []

-- the bytes that it takes, or that are dropped
abbrev pub len_of : Next → ℕ
len_of (Whole request style len last) = len
len_of More = 0

-- what ends a connection, so that nothing behind it is read
abbrev pub is_last : Next → Bool
is_last (Whole request style len last) = last
is_last More = false

-- what is refused; a set whose value is too large takes away the item of its key
abbrev pub refused : Fault → Option (List ℕ) → Request
refused fault None = Said (Refusal fault)
refused fault (Some key) = Keys (asked Spoil key ∷ [])

abbrev pub IsFitStale : Option (List ℕ) → Type 0
IsFitStale None = ⊤
IsFitStale (Some key) = IsFitKey key

-- keys, values, numbers and times are such as an item may have
abbrev pub IsFitRequest : Request → Type 0
IsFitRequest (Keys asks) = AllByRecursion IsFitAsked asks
IsFitRequest (Flush due) = IsDue due
IsFitRequest (Stats topic) = ⊤
IsFitRequest (Said says) = shown_len says ≤ MAX_TEXT_LEN

abbrev pub IsFitNext : Next → Type 0
IsFitNext (Whole request style len last) = IsFitRequest request
IsFitNext More = ⊤
