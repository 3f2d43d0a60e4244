-- What a user may rely on, whatever is asked.
use Rattle.std.specs.Prelude.{◌≡◌, ⊤, ℕ, ◌+◌, ◌==◌, ◌^◌, ◌<◌, ◌≤◌, ◌⊎◌, Bool, true, false, List, length, max, decimal, Option, Some, None, option_map, if◌then◌else◌}
use Rattle.mica_words.specs.Item.{StoredFits}
use Rattle.memcached_text.specs.declared.limits.TheConstants.{MAX_TEXT_LEN}
use Rattle.memcached_text.specs.declared.command.Wants.TheVariants.{AtLeast}
use Rattle.memcached_text.specs.declared.command.Direction.{Direction}
use Rattle.memcached_text.specs.declared.command.Direction.TheVariants.{Up, Down}
use Rattle.memcached_text.specs.declared.item.Item.{Item}
use Rattle.memcached_text.specs.declared.lifetime.Lifetime.{Lifetime}
use Rattle.memcached_text.specs.declared.lifetime.Lifetime.TheVariants.{Forever, Over, For, Until}
use Rattle.memcached_text.specs.declared.reply.Reply.TheVariants.{Exists}
use Rattle.memcached_text.specs.Item.{item_text, item_in, IsItem}
use Rattle.memcached_commands.specs.declared.moment.Moment.{Moment}
use Rattle.memcached_commands.specs.declared.ask.Lease.{Lease}
use Rattle.memcached_commands.specs.declared.ask.Initial.{Initial}
use Rattle.memcached_commands.specs.declared.ask.Left.{Left}
use Rattle.memcached_commands.specs.declared.ask.Ask.{Ask}
use Rattle.memcached_commands.specs.declared.ask.Ask.TheVariants.{GetTouch, Leased, Store, Join, Count, Touch, Delete, Mark}
use Rattle.memcached_commands.specs.declared.ask.Says.{Says}
use Rattle.memcached_commands.specs.declared.ask.Says.TheVariants.{Line, Stores, Number}
use Rattle.memcached_commands.specs.Moments.{found_in}
use Rattle.memcached_commands.specs.Changes.{ends_with_flush, becoming_of}
use Rattle.memcached_commands.specs.Counting.{number_in, counted}
use Rattle.memcached_commands.specs.Decide.{Becoming, stays, becomes, goes, kept_until, end_by, has_number, wins, leaves, decide}
use Rattle.memcached_commands.specs.Fit.{IsFitAsk}

-- an item whose numbers are of so many bits, and whose value is no longer than a client may store
pub record IsFitItem (item : Item) : Type 0 where
  pub numbers : IsItem item
  pub value : length item.value ≤ MAX_TEXT_LEN

abbrev pub IsFitFound : Option Item → Type 0
IsFitFound None = ⊤
IsFitFound (Some item) = IsFitItem item

-- an item that the store takes, and that is read as it was
pub record IsKept (item : Item) : Type 0 where
  pub fit : IsFitItem item
  pub fits : StoredFits (item_text item)
  pub reads : item_in (item_text item) ≡ item

abbrev pub BecomesKept : Becoming → Type 0
BecomesKept (becomes item) = IsKept item
BecomesKept _ = ⊤

-- What becomes of an item is taken by the store, and read as it was.
abbrev pub Fits : Type 0
Fits = (at : Moment) (ask : Ask) (found : Option Item) → at.unique < 2 ^ 62 → IsFitAsk ask → IsFitFound found
    → BecomesKept (ends_with_flush at (decide at ask found).becoming)

-- the time of an item has come, or a flush took it
pub data IsGone (at : Moment) (item : Item) : Type 0 where
  expired : 0 < item.expires → item.expires ≤ at.second → IsGone at item
  flushed : item.unique < at.flushed → IsGone at item

-- What is gone is as what never was, for each command.
abbrev pub LateIsNever : Type 0
LateIsNever = (at : Moment) (ask : Ask) (stored : List ℕ) → IsGone at (item_in stored)
    → decide at ask (found_in at (Some stored)) ≡ decide at ask None

-- the lifetime that is asked for, by what is found; none over a later item than was meant, which keeps its end
abbrev pub asked_lifetime : Ask → Option Item → Option Lifetime
asked_lifetime (GetTouch lifetime) found = Some lifetime
asked_lifetime (Leased lease) None = lease.vivify
asked_lifetime (Leased lease) (Some item) = lease.touch
asked_lifetime (Store (AtLeast unique) flags lifetime value) (Some item) = if unique == item.unique then Some lifetime else None
asked_lifetime (Store wants flags lifetime value) found = Some lifetime
asked_lifetime (Count direction delta unique lifetime initial) None = option_map (λ (i : Initial). i.lifetime) initial
asked_lifetime (Count direction delta unique lifetime initial) (Some item) = lifetime
asked_lifetime (Touch lifetime) found = Some lifetime
asked_lifetime (Mark unique lifetime) found = lifetime
asked_lifetime _ found = None

-- the second from which on an item of this lifetime may not be there, 0 where it is kept for ever
abbrev pub EndsAs : ℕ → Lifetime → ℕ → Type 0
EndsAs second Forever expires = expires ≡ 0
EndsAs second Over expires = ⊥
EndsAs second (For seconds) expires = (0 < expires) × (expires ≤ second + seconds)
EndsAs second (Until end) expires = (second < expires) × (expires ≡ end)

-- that of an item as it is asked for, and else that of the item before
abbrev pub EndsAsAsked : ℕ → Option Lifetime → Option Item → ℕ → Type 0
EndsAsAsked second (Some lifetime) found expires = EndsAs second lifetime expires
EndsAsAsked second None None expires = ⊥
EndsAsAsked second None (Some item) expires = expires ≡ item.expires

-- No item is kept for longer than was asked.
abbrev pub NeverLonger : Type 0
NeverLonger = (at : Moment) (ask : Ask) (found : Option Item) (item : Item) → IsFitAsk ask → (decide at ask found).becoming ≡ becomes item
    → EndsAsAsked at.second (asked_lifetime ask found) found item.expires

-- While a flush waits, no item is kept for longer than up to it.
abbrev pub EndsWithFlush : Type 0
EndsWithFlush = (at : Moment) (ask : Ask) (stored : Option (List ℕ)) (item : Item) → 0 < at.until → becoming_of at ask stored ≡ becomes item
    → (0 < item.expires) × (item.expires ≤ at.until)

-- the item before, but for its end
abbrev pub IsSameValue : Option Item → Item → Type 0
IsSameValue None item = ⊥
IsSameValue (Some old) item = (item.unique ≡ old.unique) × (item.flags ≡ old.flags) × (item.value ≡ old.value)

-- An item keeps its unique number only where it keeps its flags and its value, and else has the new one.
abbrev pub OneNumberOneValue : Type 0
OneNumberOneValue = (at : Moment) (ask : Ask) (found : Option Item) (item : Item) → (decide at ask found).becoming ≡ becomes item
    → (item.unique ≡ at.unique) ⊎ IsSameValue found item

-- Counted up, a number goes around at 2 ^ 64; counted down, it stops at 0.
pub record CountsAround (number delta : ℕ) : Type 0 where
  pub up : number + delta < 2 ^ 64 → counted Up delta number ≡ number + delta
  pub around : 2 ^ 64 ≤ number + delta → counted Up delta number + 2 ^ 64 ≡ number + delta
  pub down : delta ≤ number → counted Down delta number + delta ≡ number
  pub stops : number ≤ delta → counted Down delta number ≡ 0

-- A count that was answered is stored, unless it is to be gone at once: the next goes on from it. Its text is no shorter than before.
pub record CountsOn (at : Moment) (ask : Ask) (lifetime : Option Lifetime) (number : ℕ) (item : Item) : Type 0 where
  pub next : Item
  pub becoming : (decide at ask (Some item)).becoming ≡ kept_until (end_by at lifetime item) next
  pub reads : number_in next.value ≡ Some number
  pub len : length next.value ≡ max (length item.value) (length (decimal number))

abbrev pub CountsWrap : Type 0
CountsWrap = (number delta : ℕ) → number < 2 ^ 64 → delta < 2 ^ 64 → CountsAround number delta

abbrev pub CountsGoOn : Type 0
CountsGoOn = (at : Moment) (direction : Direction) (delta : ℕ) (unique : Option ℕ) (lifetime : Option Lifetime) (initial : Option Initial) (number : ℕ) (told : Option ℕ)
    (left : Left) (made : Bool) (item : Item) → (decide at (Count direction delta unique lifetime initial) (Some item)).says ≡ Number number told left made
    → CountsOn at (Count direction delta unique lifetime initial) lifetime number item

-- the unique number of the item that a command means
abbrev pub meant_number : Ask → Option ℕ
meant_number (Join side unique more) = unique
meant_number (Count direction delta unique lifetime initial) = unique
meant_number (Delete unique) = unique
meant_number (Mark unique lifetime) = unique
meant_number _ = None

-- A command that means an item of another number changes nothing.
abbrev pub ChangesWhatIsMeant : Type 0
ChangesWhatIsMeant = (at : Moment) (ask : Ask) (item : Item) → has_number (meant_number ask) item ≡ false → decide at ask (Some item) ≡ leaves (Line Exists)

-- the number that is told of a new item
abbrev pub told_number : Says → Option (Option ℕ)
told_number (Stores unique) = Some unique
told_number (Number number unique left made) = Some unique
told_number _ = None

-- it is that of the item that is left, and none where none is
abbrev pub IsTold : Option ℕ → Becoming → Type 0
IsTold (Some unique) (becomes item) = item.unique ≡ unique
IsTold None goes = ⊤
IsTold _ _ = ⊥

-- A number that is told of a new item is that of the item which the command left.
abbrev pub TellsNumber : Type 0
TellsNumber = (at : Moment) (ask : Ask) (found : Option Item) (unique : Option ℕ) → told_number (decide at ask found).says ≡ Some unique
    → IsTold unique (decide at ask found).becoming

-- Where a command leaves what it finds, what is decided does not depend on the number that a new value would get. So it may be answered by a look without a
-- hold, which does not know that number.
abbrev pub LeavesAlike : Type 0
LeavesAlike = (at : Moment) (ask : Ask) (found : Option Item) (unique : ℕ) → (decide at ask found).becoming ≡ stays
    → decide (record at { unique = unique }) ask found ≡ decide at ask found

-- One client wins: behind a win no other wins of the item that it left.
abbrev pub WinsOnce : Type 0
WinsOnce = (at later : Moment) (lease other : Lease) (item next : Item) → wins at lease item ≡ true
    → (decide at (Leased lease) (Some item)).becoming ≡ becomes next → wins later other next ≡ false

-- whether a command stores a value of its own
abbrev pub is_store : Ask → Bool
is_store (Store wants flags lifetime value) = true
is_store (Join side unique more) = true
is_store _ = false

-- A newer item is wanted of a stale one until something is stored: no other command takes its mark away.
abbrev pub StaysStale : Type 0
StaysStale = (at : Moment) (ask : Ask) (item next : Item) → is_store ask ≡ false → item.stale ≡ true → (decide at ask (Some item)).becoming ≡ becomes next
    → next.stale ≡ true
