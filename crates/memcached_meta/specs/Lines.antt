-- What the line of a meta command says by itself.
use Rattle.std.specs.Prelude.{ℕ, ◌||◌, ◌&&◌, not, Bool, true, false, List, [], ◌∷◌, length, nat_lt, codes, bytes_eq, Option, Some, None, if◌then◌else◌}
use Rattle.std.specs.List.{list_any}
use Rattle.memcached_text.specs.declared.fault.Fault.TheVariants.{Unknown, Format}
use Rattle.memcached_text.specs.Line.{is_short, is_key}
use Rattle.memcached_text.specs.Numbers.{number_of}
use Rattle.memcached_commands.specs.Keys.{spelled}
use Rattle.memcached_meta.specs.declared.fault.MetaFault.{MetaFault}
use Rattle.memcached_meta.specs.declared.fault.MetaFault.TheVariants as faults
use Rattle.memcached_meta.specs.declared.line.Verb.{Verb}
use Rattle.memcached_meta.specs.declared.line.Verb.TheVariants.{Get, Store, Delete, Count, Debug}
use Rattle.memcached_meta.specs.declared.line.Meta.{Meta}
use Rattle.memcached_meta.specs.declared.line.MetaLine.{MetaLine}
use Rattle.memcached_meta.specs.declared.line.MetaLine.TheVariants.{Whole, Storing, Refused}
use Rattle.memcached_meta.specs.Flags.{argument_of, has_flag, flags_fault, or_else}

-- the verb of a name, where it is a meta command's
abbrev pub verb_of : List ℕ → Option Verb
verb_of name =
    if bytes_eq name (codes "mg") then Some Get
    else (if bytes_eq name (codes "ms") then Some Store
    else (if bytes_eq name (codes "md") then Some Delete
    else (if bytes_eq name (codes "ma") then Some Count
    else (if bytes_eq name (codes "me") then Some Debug else None))))

abbrev pub is_base64 : List (List ℕ) → Bool
is_base64 flags = has_flag (codes "b") flags

-- Faults

-- the modes of `ms` and of `ma`
abbrev pub is_store_mode : List ℕ → Bool
is_store_mode mode = list_any (λ letter. bytes_eq mode (letter ∷ [])) (codes "SERAP")

abbrev pub is_count_mode : List ℕ → Bool
is_count_mode mode = list_any (λ letter. bytes_eq mode (letter ∷ [])) (codes "I+D-")

-- a mode that a command does not have
abbrev pub mode_fault : Verb → Option (List ℕ) → Option MetaFault
mode_fault Store (Some mode) = if is_store_mode mode then None else Some faults.StoreMode
mode_fault Count (Some mode) = if is_count_mode mode then None else Some faults.CountMode
mode_fault verb mode = None

-- `md` and `ma` tell one fault of all flags but an opaque, and `me` tells one of all
abbrev pub told_fault : Verb → MetaFault → MetaFault
told_fault Delete faults.LongOpaque = faults.LongOpaque
told_fault Count faults.LongOpaque = faults.LongOpaque
told_fault Delete fault = faults.BadFlag
told_fault Count fault = faults.BadFlag
told_fault Debug fault = faults.Line Format
told_fault verb fault = fault

abbrev pub told_by : Verb → Option MetaFault → Option MetaFault
told_by verb None = None
told_by verb (Some fault) = Some (told_fault verb fault)

-- a key has some bytes, and not too many
abbrev pub is_fit_key : List ℕ → Bool
is_fit_key key = nat_lt 0 (length key) && is_short key

abbrev pub key_fault : Verb → List ℕ → Option MetaFault
key_fault verb key = if is_fit_key key then None else Some (told_fault verb faults.KeyFormat)

-- Why a meta command is refused: its key, its flags, its key as base64, its mode, in this order. Nothing is asked then.
unfoldable pub meta_fault : Verb → List ℕ → List (List ℕ) → Option MetaFault
meta_fault verb word flags =
    if not (nat_lt 0 (length word) && is_key word) then Some (faults.Line Format)
    else or_else (told_by verb (flags_fault flags)) (or_else (key_fault verb (spelled (is_base64 flags) word)) (mode_fault verb (argument_of (codes "M") flags)))

-- Lines

abbrev pub meta_of : Verb → List ℕ → List (List ℕ) → Meta
meta_of verb word flags = record { verb = verb; word = word; flags = flags; value = [] }

-- by its fault, the line of a command that has no block, and of one that has a block with a value of so many bytes
abbrev pub keyed : Meta → Option MetaFault → MetaLine
keyed meta None = Whole meta
keyed meta (Some fault) = Refused fault None

abbrev pub storing : Meta → ℕ → Option MetaFault → MetaLine
storing meta len None = Storing meta len
storing meta len (Some fault) = Refused fault (Some len)

abbrev pub keyed_line : Verb → List ℕ → List (List ℕ) → MetaLine
keyed_line verb word flags = keyed (meta_of verb word flags) (meta_fault verb word flags)

-- the bytes of the value in a block, where the word writes so many as a block may have
abbrev pub block_len : List ℕ → Option ℕ
block_len word = number_of 2147483645 word

-- a store's block is dropped where its length is told
abbrev pub stored_line : List ℕ → List (List ℕ) → Option ℕ → MetaLine
stored_line word flags None = Refused (faults.Line Format) None
stored_line word flags (Some len) = storing (meta_of Store word flags) len (meta_fault Store word flags)

-- the line of a store, by the words behind its key
unfoldable pub storing_line : List ℕ → List (List ℕ) → MetaLine
storing_line word [] = Refused (faults.Line Format) None
storing_line word (len ∷ flags) = stored_line word flags (block_len len)

-- the flags of `me`: its first one, where that is `b`; all others are of no effect
abbrev pub debug_flags : List (List ℕ) → List (List ℕ)
debug_flags [] = []
debug_flags (word ∷ words) = if bytes_eq word (codes "b") then codes "b" ∷ [] else []

-- a line of this verb, by the words behind its name
unfoldable pub line_of : Verb → List (List ℕ) → MetaLine
line_of Debug [] = Refused (faults.Line Format) None
line_of verb [] = Refused (faults.Line Unknown) None
line_of Store (word ∷ words) = storing_line word words
line_of Debug (word ∷ words) = keyed_line Debug word (debug_flags words)
line_of verb (word ∷ words) = keyed_line verb word words
