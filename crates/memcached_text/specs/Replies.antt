-- The texts of replies.
use Rattle.std.specs.Prelude.{◌≡◌, ⊤, ℕ, ◌^◌, ◌<◌, ◌≤◌, Bool, true, false, List, [], ◌∷◌, ◌++◌, length, flat_map, codes, decimal, Option, Some, None}
use Rattle.std.specs.List.{AllByRecursion}
use Rattle.memcached_text.specs.declared.limits.TheConstants.{MAX_TEXT_LEN}
use Rattle.memcached_text.specs.declared.fault.Fault.{Fault}
use Rattle.memcached_text.specs.declared.fault.Fault.TheVariants.{Unknown, Format, DeleteUsage, ExpiryFormat, DeltaFormat, BadBlock, TooLarge, NotNumber, NotSupported}
use Rattle.memcached_text.specs.declared.reply.Reply.{Reply}
use Rattle.memcached_text.specs.declared.reply.Reply.TheVariants.{Stored, NotStored, Exists, NoRoom, NoRoomToCount, Deleted, NotFound, Touched, End, Version, Done, Noop, Reset, LongLine}
use Rattle.memcached_text.specs.Lines.{Lacks}

-- the line of a reply
abbrev pub reply_text : Reply → List ℕ
reply_text Stored = codes "STORED\r\n"
reply_text NotStored = codes "NOT_STORED\r\n"
reply_text Exists = codes "EXISTS\r\n"
reply_text NoRoom = codes "SERVER_ERROR out of memory storing object\r\n"
reply_text NoRoomToCount = codes "SERVER_ERROR out of memory\r\n"
reply_text Deleted = codes "DELETED\r\n"
reply_text NotFound = codes "NOT_FOUND\r\n"
reply_text Touched = codes "TOUCHED\r\n"
reply_text End = codes "END\r\n"
reply_text Version = codes "VERSION 1.6.18\r\n"
reply_text Done = codes "OK\r\n"
reply_text Noop = codes "MN\r\n"
reply_text Reset = codes "RESET\r\n"
reply_text LongLine = codes "CLIENT_ERROR line too long\r\n"

-- the line that is replied to what is refused
abbrev pub fault_text : Fault → List ℕ
fault_text Unknown = codes "ERROR\r\n"
fault_text Format = codes "CLIENT_ERROR bad command line format\r\n"
fault_text DeleteUsage = codes "CLIENT_ERROR bad command line format.  Usage: delete <key> [noreply]\r\n"
fault_text ExpiryFormat = codes "CLIENT_ERROR invalid exptime argument\r\n"
fault_text DeltaFormat = codes "CLIENT_ERROR invalid numeric delta argument\r\n"
fault_text BadBlock = codes "CLIENT_ERROR bad data chunk\r\n"
fault_text TooLarge = codes "SERVER_ERROR object too large for cache\r\n"
fault_text NotNumber = codes "CLIENT_ERROR cannot increment or decrement non-numeric value\r\n"
fault_text NotSupported = codes "ERROR\r\n"

-- the number that a count gave
unfoldable pub number_text : ℕ → List ℕ
number_text number = decimal number ++ codes "\r\n"

-- one line of what is counted
unfoldable pub stat_text : List ℕ → List ℕ → List ℕ
stat_text name value = codes "STAT " ++ name ++ 32 ∷ value ++ codes "\r\n"

-- a space and the unique number, where there is one
abbrev pub unique_text : Option ℕ → List ℕ
unique_text None = []
unique_text (Some unique) = 32 ∷ decimal unique

-- The value of a key: a line with the key, the flags, the length of the data and the unique number where it is asked
-- for, and then the data.
unfoldable pub value_text : List ℕ → ℕ → List ℕ → Option ℕ → List ℕ
value_text key flags bytes unique =
    codes "VALUE " ++ key ++ 32 ∷ decimal flags ++ 32 ∷ decimal (length bytes) ++ unique_text unique
    ++ codes "\r\n" ++ bytes ++ codes "\r\n"

-- a value that a get found
pub record FoundValue : Type 0 where
  pub key : List ℕ
  pub flags : ℕ
  pub value : List ℕ
  pub unique : Option ℕ

-- the reply to a get: the values that it found, and an end
abbrev pub found_text : List FoundValue → List ℕ
found_text founds =
    flat_map (λ found. value_text found.key found.flags found.value found.unique) founds ++ reply_text End

-- a unique number stands there exactly where it is asked for
abbrev pub HasUnique : Bool → Option ℕ → Type 0
HasUnique true (Some unique) = unique < 2 ^ 64
HasUnique false None = ⊤
HasUnique _ _ = ⊥

-- a value that may be found, by a get that asks for unique numbers or not
pub record IsFound (asks : Bool) (found : FoundValue) : Type 0 where
  pub no_space : Lacks 32 found.key
  pub flags : found.flags < 2 ^ 32
  pub value : length found.value ≤ MAX_TEXT_LEN
  pub unique : HasUnique asks found.unique

-- a client reads the reply to its get in one way, and finds where it ends
abbrev pub IsOneReply : Type 0
IsOneReply = (asks : Bool) (a b : List FoundValue) (x y : List ℕ) → AllByRecursion (IsFound asks) a → AllByRecursion (IsFound asks) b
    → found_text a ++ x ≡ found_text b ++ y → (a ≡ b) × (x ≡ y)
