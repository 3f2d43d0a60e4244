-- Lines with a block behind them: set, add, replace, append, prepend, cas, and ms.
use Rattle.std.specs.Prelude.{ℕ, Bool, false, List, ◌∷◌, Option, Some, None, option_map, option_and_then, if◌then◌else◌}
use Rattle.memcached_text.specs.declared.limits.TheConstants.{MAX_BLOCK_LEN}
use Rattle.memcached_text.specs.declared.fault.Fault.TheVariants.{Format, NotSupported}
use Rattle.memcached_text.specs.declared.command.Command.{Command}
use Rattle.memcached_text.specs.declared.command.Command.TheVariants as commands
use Rattle.memcached_text.specs.declared.command.Wants.TheVariants.{Whatever, Numbered}
use Rattle.memcached_text.specs.declared.storage_line.Verb.{Verb}
use Rattle.memcached_text.specs.declared.storage_line.Verb.TheVariants.{Store, Join}
use Rattle.memcached_text.specs.declared.storage_line.ItemLine.{ItemLine}
use Rattle.memcached_text.specs.declared.line.Line.{Line}
use Rattle.memcached_text.specs.declared.line.Line.TheVariants.{Storing}
use Rattle.memcached_text.specs.Lifetimes.{lifetime_of}
use Rattle.memcached_text.specs.Line.{is_key, refused, refused_with, quiet_tail}
use Rattle.memcached_text.specs.Numbers.{number_of}

infixl 10 ◌>>=◌
abbrev pub ◌>>=◌ : {A B : Type 0} → Option A → (A → Option B) → Option B
value >>= next = option_and_then next value

-- the bytes of the value in a block, where the word writes so many as a block may have
abbrev pub block_len : List ℕ → Option ℕ
block_len word = number_of MAX_BLOCK_LEN word

-- the item of these words; none where one is no key, or another no number
unfoldable pub item_of : Verb → List ℕ → List ℕ → List ℕ → Option ItemLine
item_of verb key flags expiry =
    if is_key key then (number_of 4294967295 flags >>= λ flags. lifetime_of expiry >>= λ lifetime.
    Some (record { verb = verb; key = key; flags = flags; lifetime = lifetime }))
    else None

-- the item of these words, to be stored in place of the item with a unique number
unfoldable pub numbered_item_of : List ℕ → List ℕ → List ℕ → List ℕ → Option ItemLine
numbered_item_of unique key flags expiry =
    number_of 18446744073709551615 unique >>= λ unique. item_of (Store (Numbered unique)) key flags expiry

-- a line that stores an item, whose words may be ill formed, with a value of so many bytes, which it may not tell
unfoldable pub stored : Option ItemLine → Option ℕ → Bool → Line
stored item None quiet = refused Format quiet
stored None (Some len) quiet = refused_with Format quiet len
stored (Some item) (Some len) quiet = Storing item len quiet

-- Each of the lines below is of the words behind a command's name. None where they are too few or too many.

-- a key, its flags, its expiry time and the length of its value, and whether a reply is wanted
unfoldable pub set_line : Verb → List (List ℕ) → Option Line
set_line verb (key ∷ flags ∷ expiry ∷ len ∷ tail) =
    option_map (stored (item_of verb key flags expiry) (block_len len)) (quiet_tail len tail)
set_line verb _ = None

-- the words of an item with a unique number behind the length
unfoldable pub cas_line : List (List ℕ) → Option Line
cas_line (key ∷ flags ∷ expiry ∷ len ∷ unique ∷ tail) =
    option_map (stored (numbered_item_of unique key flags expiry) (block_len len)) (quiet_tail unique tail)
cas_line _ = None

-- a line that is not supported, and has a block, which is dropped where its length is told
abbrev pub dropped : Option ℕ → Line
dropped None = refused Format false
dropped (Some len) = refused_with NotSupported false len

-- a key, the length of its value, and whatever else
unfoldable pub drop_meta_line : List (List ℕ) → Line
drop_meta_line (key ∷ len ∷ tail) = dropped (block_len len)
drop_meta_line _ = refused Format false

-- the command of an item's line, with the value of its block
abbrev pub command_by : Verb → ItemLine → List ℕ → Bool → Command
command_by (Store wants) item value quiet = commands.Store wants item.key item.flags item.lifetime value quiet
command_by (Join side) item value quiet = commands.Join side item.key value quiet

abbrev pub command_of : ItemLine → List ℕ → Bool → Command
command_of item value quiet = command_by item.verb item value quiet

-- the key whose item must not stay where the value is not taken: that of a set alone
abbrev pub stale_by : Verb → List ℕ → Option (List ℕ)
stale_by (Store Whatever) key = Some key
stale_by _ key = None

abbrev pub stale_of : ItemLine → Option (List ℕ)
stale_of item = stale_by item.verb item.key
