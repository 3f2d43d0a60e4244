-- The texts of replies to meta commands, as functions of their flags.
use Rattle.std.specs.Prelude.{ℕ, ◌+◌, ◌==◌, ◌||◌, ◌&&◌, Bool, true, false, List, [], ◌∷◌, ◌++◌, length, codes, decimal, Option, Some, None, if◌then◌else◌}
use Rattle.memcached_text.specs.declared.limits.TheConstants.{HEADER_LEN}
use Rattle.memcached_text.specs.declared.reply.Reply.{Reply}
use Rattle.memcached_text.specs.declared.reply.Reply.TheVariants.{NotStored, Exists, NoRoom, NoRoomToCount, Deleted, NotFound, Touched}
use Rattle.memcached_text.specs.declared.item.Item.{Item}
use Rattle.memcached_text.specs.Replies.{reply_text, fault_text}
use Rattle.memcached_commands.specs.declared.ask.Left.{Left}
use Rattle.memcached_commands.specs.declared.ask.Says.{Says}
use Rattle.memcached_commands.specs.declared.ask.Says.TheVariants as says
use Rattle.memcached_meta.specs.declared.fault.MetaFault.{MetaFault}
use Rattle.memcached_meta.specs.declared.fault.MetaFault.TheVariants as faults
use Rattle.memcached_meta.specs.declared.line.Verb.{Verb}
use Rattle.memcached_meta.specs.declared.line.Verb.TheVariants.{Get, Store, Delete, Count, Debug}
use Rattle.memcached_meta.specs.declared.reply.Shown.{Shown}
use Rattle.memcached_meta.specs.Asks.{or_else_this}
use Rattle.memcached_meta.specs.Flags.{is_flag, has_flag}
use Rattle.memcached_meta.specs.Lines.{is_base64}

-- what is replied to what is refused
abbrev pub meta_fault_text : MetaFault → List ℕ
meta_fault_text (faults.Line fault) = fault_text fault
meta_fault_text faults.FlagTwice = codes "CLIENT_ERROR duplicate flag\r\n"
meta_fault_text faults.UnknownFlag = codes "CLIENT_ERROR invalid flag\r\n"
meta_fault_text faults.FlagFormat = codes "CLIENT_ERROR bad token in command line format\r\n"
meta_fault_text faults.InitialFormat = codes "CLIENT_ERROR invalid numeric initial value\r\n"
meta_fault_text faults.DeltaFormat = codes "CLIENT_ERROR invalid numeric delta value\r\n"
meta_fault_text faults.LongOpaque = codes "CLIENT_ERROR opaque token too long\r\n"
meta_fault_text faults.LongMode = codes "CLIENT_ERROR incorrect length for M token\r\n"
meta_fault_text faults.StoreMode = codes "CLIENT_ERROR invalid mode for ms M token\r\n"
meta_fault_text faults.CountMode = codes "CLIENT_ERROR invalid mode for ma M token\r\n"
meta_fault_text faults.BadFlag = codes "CLIENT_ERROR invalid or duplicate flag\r\n"
meta_fault_text faults.KeyFormat = codes "CLIENT_ERROR error decoding key\r\n"

-- Flags

-- what a flag tells, where that is a number
abbrev pub told : List ℕ → Option ℕ → List ℕ
told letter None = []
told letter (Some number) = letter ++ decimal number

-- the seconds that are left, and -1 for ever
abbrev pub left_text : Option ℕ → List ℕ
left_text None = codes " t-1"
left_text (Some seconds) = told (codes " t") (Some seconds)

-- before or behind what sets the time
abbrev pub told_left : Option Left → Bool → List ℕ
told_left None late = []
told_left (Some left) false = left_text left.before
told_left (Some left) true = left_text left.after

-- the key as the client wrote it, and `b` where it wrote base64
abbrev pub key_text : Bool → List ℕ → List ℕ
key_text base64 word = codes " k" ++ (word ++ (if base64 then codes " b" else []))

-- what is told for a flag: the opaque and the key whatever came of the command
abbrev pub flag_text : List ℕ → Bool → Shown → Bool → List ℕ → List ℕ
flag_text word base64 shown late flag =
    if is_flag (codes "s") flag then told (codes " s") shown.len
    else (if is_flag (codes "t") flag then told_left shown.left late
    else (if is_flag (codes "c") flag then told (codes " c") shown.unique
    else (if is_flag (codes "f") flag then told (codes " f") shown.flags
    else (if is_flag (codes "k") flag then key_text base64 word
    else (if is_flag (codes "O") flag then 32 ∷ flag else [])))))

-- where the time of an item is set
abbrev pub sets_time : List ℕ → Bool
sets_time flag = is_flag (codes "T") flag || is_flag (codes "N") flag

-- for each flag in order
unfoldable pub flags_text : List ℕ → Bool → Shown → Bool → List (List ℕ) → List ℕ
flags_text word base64 shown late [] = []
flags_text word base64 shown late (flag ∷ flags) =
    flag_text word base64 shown late flag ++ flags_text word base64 shown (late || sets_time flag) flags

-- Lines

-- the first words of a reply that has a value, and of one that has none; and the value behind its line
abbrev pub head_text : Bool → ℕ → List ℕ
head_text true len = codes "VA " ++ decimal len
head_text false len = codes "HD"

abbrev pub block_text : Bool → List ℕ → List ℕ
block_text true value = codes "\r\n" ++ (value ++ codes "\r\n")
block_text false value = codes "\r\n"

-- up to what is told for the last flag, where a value would have so many bytes
abbrev pub front_text : List ℕ → List (List ℕ) → Shown → ℕ → List ℕ
front_text word flags shown len = head_text (has_flag (codes "v") flags) len ++ flags_text word (is_base64 flags) shown false flags

abbrev pub valued_text : List ℕ → List (List ℕ) → Shown → List ℕ → List ℕ → List ℕ
valued_text word flags shown marks value = front_text word flags shown (length value) ++ (marks ++ block_text (has_flag (codes "v") flags) value)

abbrev pub mark : Bool → List ℕ → List ℕ
mark true text = text
mark false text = []

-- whether an item was won before, is stale, and is won now
abbrev pub marks_text : Item → Bool → List ℕ
marks_text item wins = mark item.won (codes " Z") ++ (mark item.stale (codes " X") ++ mark wins (codes " W"))

abbrev pub shown_item : Item → Left → Shown
shown_item item left = record { len = Some (length item.value); flags = Some item.flags; unique = Some item.unique; left = Some left }

abbrev pub shown_count : Option ℕ → Left → Shown
shown_count unique left = record { len = None; flags = None; unique = Some (or_else_this 0 unique); left = Some left }

-- the two letters of what came of a command
abbrev pub status_text : Reply → List ℕ
status_text NotStored = codes "NS"
status_text Exists = codes "EX"
status_text NotFound = codes "NF"
status_text _ = codes "HD"

-- a store tells also its number, which is 0 where nothing was stored
abbrev pub shown_status : Verb → ℕ → Shown
shown_status Store unique = record { len = None; flags = None; unique = Some unique; left = None }
shown_status _ unique = record { len = None; flags = None; unique = None; left = None }

abbrev pub line_text : Verb → List ℕ → List (List ℕ) → List ℕ → ℕ → List ℕ
line_text verb word flags status unique = status ++ (flags_text word (is_base64 flags) (shown_status verb unique) false flags ++ codes "\r\n")

-- the second at which an item ends, and -1 where it does not
abbrev pub expiry_text : ℕ → List ℕ
expiry_text expires = if expires == 0 then codes "-1" else decimal expires

-- what `me` tells of an item: its key as the client wrote it, and numbers by their names
abbrev pub debugged_text : List ℕ → List ℕ
debugged_text word = codes "ME " ++ (word ++ codes " exp=")

abbrev pub numbers_text : Item → List ℕ
numbers_text item = told (codes " cas=") (Some item.unique) ++ (told (codes " size=") (Some (HEADER_LEN + length item.value)) ++ codes "\r\n")

abbrev pub debug_text : List ℕ → Item → List ℕ
debug_text word item = debugged_text word ++ (expiry_text item.expires ++ numbers_text item)

-- What is said to a meta command of this key and of these flags. What finds no room is told as to classic commands.
unfoldable pub said_text : Verb → List ℕ → List (List ℕ) → Says → List ℕ
said_text verb word flags says.Nothing = line_text verb word flags (codes "EN") 0
said_text verb word flags (says.Leases item left wins) = valued_text word flags (shown_item item left) (marks_text item wins) item.value
said_text verb word flags (says.Number number unique left made) = valued_text word flags (shown_count unique left) [] (decimal number)
said_text verb word flags (says.Shows item) = debug_text word item
said_text verb word flags (says.Line NoRoom) = reply_text NoRoom
said_text verb word flags (says.Line NoRoomToCount) = reply_text NoRoomToCount
said_text verb word flags (says.Line reply) = line_text verb word flags (status_text reply) 0
said_text verb word flags (says.Stores unique) = line_text verb word flags (codes "HD") (or_else_this 0 unique)
said_text verb word flags (says.Refusal fault) = fault_text fault

-- what a quiet command leaves out: what went as it should, and a get that found nothing
abbrev pub is_expected : Says → Bool
is_expected says.Nothing = true
is_expected (says.Stores unique) = true
is_expected (says.Number number unique left made) = true
is_expected (says.Line Deleted) = true
is_expected (says.Line Touched) = true
is_expected _ = false

abbrev pub hides : List (List ℕ) → Says → Bool
hides flags said = is_expected said && has_flag (codes "q") flags

-- how a meta command is replied to: by its verb, its key as the client wrote it, and its flags
pub record Manner : Type 0 where
  pub verb : Verb
  pub word : List ℕ
  pub flags : List (List ℕ)

-- What is replied.
unfoldable pub meta_text : Manner → Says → List ℕ
meta_text m said = if hides m.flags said then [] else said_text m.verb m.word m.flags said
