-- The sizes of partitions for so much memory: as many items of 16 bytes of key and 64 of value as it has room for.
use Rattle.std.specs.Prelude.{ℕ, zero, suc, ◌+◌, ◌-◌, ◌*◌, ◌/◌, min, nat_le, if◌then◌else◌}
use Rattle.std.specs.Int.{div_ceil}
use Rattle.mica_words.specs.declared.hashing.Hashing.TheVariants.{Fnv1a}
use Rattle.partition_model.specs.declared.options.Mode.{Mode}
use Rattle.partition_model.specs.declared.options.Mode.TheVariants.{Cache, Store}
use Rattle.partition_model.specs.declared.options.Options.{Options}
use Rattle.partition_model.specs.declared.options.TheConstants.{MOST_WORDS}
use Rattle.partition_words.specs.declared.shape.Shape.{Shape}
use Rattle.partition_sizes.specs.declared.bytes.TheConstants.{HEAP_BYTES}
use Rattle.partition_sizes.specs.declared.sizes.TheConstants.{FEW_PARTITIONS_MEMORY, PARTITION_MEMORY, PROGRAM_BYTES, ITEM_WORDS, INDEX_BYTES}
use Rattle.partition_sizes.specs.declared.sizes.Sizes.{Sizes}
use Rattle.partition_sizes.specs.Bytes.{partition_bytes}

-- options with these sizes
abbrev pub with_sizes : Sizes → Options → Options
with_sizes sizes options = record options { partitions = sizes.partitions; buckets = sizes.buckets; spares = sizes.spares; words = sizes.words }

-- how many partitions share the memory: one for each 32 MiB, up to 16; where there is much, 64
abbrev pub partitions_for : ℕ → ℕ
partitions_for memory = if nat_le memory FEW_PARTITIONS_MEMORY then min (memory / PARTITION_MEMORY) 16 else 64

-- how many bytes each of them has, where the program leaves them all the rest
abbrev pub share_of : ℕ → ℕ
share_of memory = (memory - PROGRAM_BYTES) / partitions_for memory

-- the bytes of a word of its items, with what the heap of a store has beside it
abbrev pub word_bytes : Mode → ℕ
word_bytes Cache = 8
word_bytes Store = 8 + HEAP_BYTES

-- how many items so many bytes have room for
abbrev pub items_for : Mode → ℕ → ℕ
items_for mode bytes = bytes / (ITEM_WORDS * word_bytes mode + INDEX_BYTES)

-- the first of a number and its doubles that is at least another, or the last after so many doublings
unfoldable pub doubled_to : ℕ → ℕ → ℕ → ℕ
doubled_to zero number least = number
doubled_to (suc more) number least = if nat_le least number then number else doubled_to more (2 * number) least

-- the least power of two of buckets that have ten items each at most
abbrev pub buckets_for : ℕ → ℕ
buckets_for items = doubled_to 24 1 (div_ceil items 10)

-- a spare for eight buckets, in store mode
abbrev pub spares_for : Mode → ℕ → ℕ
spares_for Cache buckets = 0
spares_for Store buckets = buckets / 8

-- a partition with no words for items yet
abbrev pub without_words : Mode → ℕ → ℕ → Shape
without_words mode buckets spares = record { mode = mode; buckets = buckets; spares = spares; words = 0; wear = 1; hashing = Fnv1a }

-- as many words for items as there are bytes left
abbrev pub words_for : Mode → ℕ → ℕ → ℕ → ℕ
words_for mode bytes buckets spares = min ((bytes - partition_bytes (without_words mode buckets spares)) / word_bytes mode) MOST_WORDS

-- of partitions with so many bytes each
abbrev pub sizes_in : Mode → ℕ → ℕ → Sizes
sizes_in mode partitions bytes =
    let buckets = buckets_for (items_for mode bytes) in
    let spares = spares_for mode buckets in
    record { partitions = partitions; buckets = buckets; spares = spares; words = words_for mode bytes buckets spares }

-- the sizes for a mode and so much memory
abbrev pub sizes_for : Mode → ℕ → Sizes
sizes_for mode memory = sizes_in mode (partitions_for memory) (share_of memory)
