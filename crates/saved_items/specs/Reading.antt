-- Reading from left to right, with the first fault that is met.
use Rattle.std.specs.Prelude.{◌≡◌, ◌<◌, ℕ, zero, suc, ◌+◌, ◌/◌, ◌%◌, ◌^◌, ◌&&◌, not, Bool, true, false, List, [], ◌∷◌, ◌++◌, length, take, drop, Option, Some, None, Result, Ok, Err, nat_lt, ◌==◌, if◌then◌else◌}
use Rattle.std.specs.Int.{w64, from_le_bytes}
use Rattle.std.specs.List.{list_all}
use Rattle.mica_words.specs.declared.item.TheConstants.{MAX_STORED_LEN}
use Rattle.mica_words.specs.Packing.{packed}
use Rattle.saved_items.specs.declared.items.TheConstants.{MAGIC, MAX_SAVED_KEY_LEN, MAX_PARTITIONS}
use Rattle.saved_items.specs.declared.blocks.TheConstants.{CONTENT_LEN, BLOCK_LEN, FIRST_SUM}
use Rattle.saved_items.specs.declared.fault.SavedFault.{SavedFault}
use Rattle.saved_items.specs.declared.fault.SavedFault.TheVariants as faults
use Rattle.saved_items.specs.declared.items.Head.{Head}
use Rattle.saved_items.specs.declared.items.Hashing.{Hashing}
use Rattle.saved_items.specs.declared.items.Hashing.TheVariants.{Papers, Secret}
use Rattle.saved_items.specs.declared.items.SavedMode.{SavedMode}
use Rattle.saved_items.specs.declared.items.SavedMode.TheVariants.{Cache, Store}
use Rattle.saved_items.specs.declared.items.Closing.{Closing}
use Rattle.saved_items.specs.declared.items.Lengths.{Lengths}
use Rattle.saved_items.specs.Items.{Pair, Entry, Keeps, Closes, left_after, close_after}
use Rattle.saved_items.specs.Blocks.{content_sum}

-- Where blocks stop: the file ends behind a block, or within one, or a block has another sum.
pub data Stop : Type 0 where
  AtEnd : Stop
  Within : Stop
  OtherSum : Stop

-- The content of the blocks up to the first that is not whole or has another sum, and which it is.
pub record Stream : Type 0 where
  pub content : List ℕ
  pub stop : Stop

abbrev pub with_front : List ℕ → Stream → Stream
with_front front stream = record { content = front ++ stream.content; stop = stream.stop }

-- the sum that the block at the front tells
abbrev pub told_sum : List ℕ → ℕ
told_sum file = from_le_bytes w64 (take 8 (drop CONTENT_LEN file))

-- the sum behind the block at the front, where it is the one that the block tells
abbrev pub sum_after : ℕ → List ℕ → Option ℕ
sum_after sum block = let next = content_sum sum (take CONTENT_LEN block) in if told_sum block == next then Some next else None

-- of at most so many blocks
unfoldable pub blocks_at : ℕ → ℕ → List ℕ → Stream
blocks_at zero sum file = record { content = []; stop = Within }
blocks_at (suc n) sum file =
    if length file == 0 then record { content = []; stop = AtEnd }
    else if nat_lt (length file) BLOCK_LEN then record { content = []; stop = Within }
    else if told_sum file == content_sum sum (take CONTENT_LEN file) then with_front (take CONTENT_LEN file) (blocks_at n (content_sum sum (take CONTENT_LEN file)) (drop BLOCK_LEN file))
    else record { content = []; stop = OtherSum }

-- of a file behind content with this sum
unfoldable pub stream_at : ℕ → List ℕ → Stream
stream_at sum file = blocks_at (length file / BLOCK_LEN + 1) sum file

-- the fault where more is wanted than there is
abbrev pub stop_fault : Stop → SavedFault
stop_fault AtEnd = faults.Short
stop_fault Within = faults.Short
stop_fault OtherSum = faults.Sum

infixl 10 ◌>>=◌
abbrev pub ◌>>=◌ : {A B : Type 0} → Result A SavedFault → (A → Result B SavedFault) → Result B SavedFault
(Ok x) >>= f = f x
(Err e) >>= f = Err e

-- So many bytes, and what is behind them.
abbrev pub bytes_at : ℕ → Stream → Result (List ℕ × Stream) SavedFault
bytes_at n stream =
    if nat_lt (length stream.content) n then Err (stop_fault stream.stop)
    else Ok (take n stream.content, record { content = drop n stream.content; stop = stream.stop })

abbrev pub hashing_in : ℕ → ℕ → ℕ → Option Hashing
hashing_in kind k0 k1 = if kind == 1 then Some (Secret k0 k1) else if (kind == 0) && (k0 == 0) && (k1 == 0) then Some Papers else None

abbrev pub mode_in : ℕ → Option SavedMode
mode_in word = if word == 0 then Some Cache else if word == 1 then Some Store else None

-- a head whose first word is right
abbrev pub head_of : ℕ → ℕ → Option Hashing → Option SavedMode → Result Head SavedFault
head_of second partitions (Some hashing) (Some mode) =
    if nat_lt 0 partitions && nat_lt partitions (MAX_PARTITIONS + 1)
    then Ok (record { second = second; hashing = hashing; mode = mode; partitions = partitions })
    else Err faults.Head
head_of second partitions None mode = Err faults.Head
head_of second partitions (Some hashing) None = Err faults.Head

abbrev pub head_in : List ℕ → Result Head SavedFault
head_in (magic ∷ second ∷ kind ∷ k0 ∷ k1 ∷ mode ∷ partitions ∷ []) =
    if not (magic % 2 ^ 32 == MAGIC % 2 ^ 32) then Err faults.Magic
    else if not (magic == MAGIC) then Err faults.Version
    else head_of second partitions (hashing_in kind k0 k1) (mode_in mode)
head_in words = Err faults.Head

-- the three words behind the one that closes a partition
abbrev pub closing_in : List ℕ → Result Closing SavedFault
closing_in (written ∷ next ∷ until ∷ []) = if nat_lt 0 next && nat_lt next (2 ^ 62) then Ok (record { written = written; next = next; until = until }) else Err faults.Count
closing_in words = Err faults.Count

-- the lengths and marks in the word of a pair, where it is one
abbrev pub lengths_in : ℕ → Option Lengths
lengths_in word =
    if nat_lt (word % 2 ^ 8) (MAX_SAVED_KEY_LEN + 1) && (word / 2 ^ 11 % 2 ^ 21 == 0) && nat_lt (word / 2 ^ 32) (MAX_STORED_LEN + 1)
    then Some (record { key_len = word % 2 ^ 8; value_len = word / 2 ^ 32; reads = word / 2 ^ 8 % 4; is_long = (word / 2 ^ 10 % 2 == 1) })
    else None

-- The readers, each of which gives what it read and what is behind.

abbrev pub word_at : Stream → Result (ℕ × Stream) SavedFault
word_at stream = bytes_at 8 stream >>= λ bytes. Ok (from_le_bytes w64 bytes.0, bytes.1)

abbrev pub with_rest : {A : Type 0} → Stream → Result A SavedFault → Result (A × Stream) SavedFault
with_rest rest (Ok x) = Ok (x, rest)
with_rest rest (Err fault) = Err fault

unfoldable pub head_at : Stream → Result (Head × Stream) SavedFault
head_at stream = bytes_at 56 stream >>= λ bytes. with_rest bytes.1 (head_in (packed bytes.0))

-- the key and the value behind the word of a pair
unfoldable pub texts_at : Option Lengths → Stream → Result (Pair × Stream) SavedFault
texts_at None stream = Err faults.Length
texts_at (Some lengths) stream = bytes_at lengths.key_len stream >>= λ key. bytes_at lengths.value_len key.1 >>= λ value.
    Ok (record { key = key.0; value = value.0; reads = lengths.reads; is_long = lengths.is_long }, value.1)

-- what closes a partition, behind its word
unfoldable pub closing_at : Stream → Result (Closing × Stream) SavedFault
closing_at stream = bytes_at 24 stream >>= λ bytes. with_rest bytes.1 (closing_in (packed bytes.0))

abbrev pub behind_word : ℕ → ℕ → Stream → Result (Entry × Stream) SavedFault
behind_word close word stream =
    if not (word % 2 ^ 8 == 0) then (texts_at (lengths_in word) stream >>= λ pair. Ok (Keeps pair.0, pair.1))
    else if word == close then (closing_at stream >>= λ closing. Ok (Closes closing.0, closing.1))
    else Err faults.Count

-- a pair, or the closing of a partition whose pairs so far are closed by this word
unfoldable pub entry_at : ℕ → Stream → Result (Entry × Stream) SavedFault
entry_at close stream = word_at stream >>= λ word. behind_word close word.0 word.1

abbrev pub is_at_end : Stop → Bool
is_at_end AtEnd = true
is_at_end Within = false
is_at_end OtherSum = false

-- zeros to the end of the last block, and nothing behind it
abbrev pub only_zeros : Stream → Bool
only_zeros stream = is_at_end stream.stop && nat_lt (length stream.content) CONTENT_LEN && list_all (λ byte. byte == 0) stream.content

-- Behind the last entry stands the end, or this fault.
abbrev pub EndsWith : ℕ → ℕ → Stream → Option SavedFault → Type 0
EndsWith zero close stream None = only_zeros stream ≡ true
EndsWith zero close stream (Some fault) = (only_zeros stream ≡ false) × (fault ≡ faults.Trailing)
EndsWith (suc n) close stream None = ⊥
EndsWith (suc n) close stream (Some fault) = entry_at close stream ≡ Err fault

-- The stream, in which so many partitions are still to be closed, has these entries, and then the end or this fault.
abbrev pub HasEntries : ℕ → ℕ → Stream → List Entry → Option SavedFault → Type 0
HasEntries n close stream [] end = EndsWith n close stream end
HasEntries n close stream (entry ∷ entries) end =
    (0 < n) × (rest : Stream) × (entry_at close stream ≡ Ok (entry, rest)) × HasEntries (left_after n entry) (close_after close entry) rest entries end

-- The file has this head and these entries, and then the end or this fault.
pub record ReadsAs (file : List ℕ) (head : Head) (entries : List Entry) (end : Option SavedFault) : Type 0 where
  pub rest : Stream
  pub begins : head_at (stream_at FIRST_SUM file) ≡ Ok (head, rest)
  pub goes_on : HasEntries head.partitions 0 rest entries end
