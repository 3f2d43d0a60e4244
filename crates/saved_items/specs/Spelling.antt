-- The one text of saved items.
use Rattle.std.specs.Prelude.{◌≡◌, ℕ, ◌+◌, ◌*◌, ◌<◌, ◌^◌, Bool, if◌then◌else◌, List, [], ◌∷◌, ◌++◌, length, replicate}
use Rattle.std.specs.List.{flat_map, AllByRecursion}
use Rattle.std.specs.Int.{w64, to_le_bytes}
use Rattle.saved_items.specs.declared.items.TheConstants.{MAGIC}
use Rattle.saved_items.specs.declared.blocks.TheConstants.{CONTENT_LEN, FIRST_SUM}
use Rattle.saved_items.specs.declared.items.Head.{Head}
use Rattle.saved_items.specs.declared.items.Hashing.{Hashing}
use Rattle.saved_items.specs.declared.items.Hashing.TheVariants.{Papers, Secret}
use Rattle.saved_items.specs.declared.items.SavedMode.{SavedMode}
use Rattle.saved_items.specs.declared.items.SavedMode.TheVariants.{Cache, Store}
use Rattle.saved_items.specs.Items.{Pair, Entry, Keeps, Closes, SavedItems, SavedFits, close_after}
use Rattle.saved_items.specs.Blocks.{blocks_text, joined, FillsBlock}

-- a number in 8 bytes, the lowest first
abbrev pub word_text : ℕ → List ℕ
word_text word = to_le_bytes w64 word

abbrev pub words_text : List ℕ → List ℕ
words_text words = flat_map word_text words

-- 0, or 1 and the two words of the secret
abbrev pub hashing_words : Hashing → List ℕ
hashing_words Papers = 0 ∷ 0 ∷ 0 ∷ []
hashing_words (Secret k0 k1) = 1 ∷ k0 ∷ k1 ∷ []

abbrev pub mode_word : SavedMode → ℕ
mode_word Cache = 0
mode_word Store = 1

-- seven words
abbrev pub head_words : Head → List ℕ
head_words head = (MAGIC ∷ head.second ∷ []) ++ hashing_words head.hashing ++ mode_word head.mode ∷ head.partitions ∷ []

abbrev pub bit : Bool → ℕ
bit b = if b then 1 else 0

-- 8 bits of the key's length, 2 of reads, 1 for the long log, 21 that are 0, 32 of the value's length
abbrev pub pair_word : Pair → ℕ
pair_word pair = length pair.key + 2 ^ 8 * pair.reads + 2 ^ 10 * bit pair.is_long + 2 ^ 32 * length pair.value

abbrev pub pair_text : Pair → List ℕ
pair_text pair = word_text (pair_word pair) ++ pair.key ++ pair.value

-- a pair, or four words behind the pairs of a partition
abbrev pub entry_text : ℕ → Entry → List ℕ
entry_text close (Keeps pair) = pair_text pair
entry_text close (Closes closing) = words_text (close ∷ closing.written ∷ closing.next ∷ closing.until ∷ [])

abbrev pub entries_text : ℕ → List Entry → List ℕ
entries_text close [] = []
entries_text close (entry ∷ entries) = entry_text close entry ++ entries_text (close_after close entry) entries

-- the head, and what is kept of each partition
abbrev pub items_text : SavedItems → List ℕ
items_text saved = words_text (head_words saved.head) ++ entries_text 0 saved.entries

-- The file has these items: it is whole blocks with their sums, whose content is the text of the items and zeros to the end of the last block.
pub record SpellsSaved (file : List ℕ) (saved : SavedItems) : Type 0 where
  pub fits : SavedFits saved
  pub contents : List (List ℕ)
  pub whole : AllByRecursion FillsBlock contents
  pub blocks : file ≡ blocks_text FIRST_SUM contents
  pub zeros : ℕ
  pub few : zeros < CONTENT_LEN
  pub content : joined contents ≡ items_text saved ++ replicate zeros 0
