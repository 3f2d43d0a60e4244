-- What a partition is made of, row by row, and how many bytes that takes.
use Rattle.std.specs.Prelude.{ℕ, ◌+◌, ◌*◌, List, [], ◌∷◌, map, sum}
use Rattle.partition_model.specs.declared.options.Mode.{Mode}
use Rattle.partition_model.specs.declared.options.Mode.TheVariants.{Cache, Store}
use Rattle.partition_model.specs.declared.options.Options.{Options}
use Rattle.partition_words.specs.declared.shape.Shape.{Shape}
use Rattle.partition_words.specs.Shape.{shape_of}
use Rattle.partition_words.specs.Layout.{word_count}
use Rattle.partition_sizes.specs.declared.bytes.TheConstants.{HEAP_BYTES, LISTS_BYTES, SPARE_BYTES, READS_BYTES}
use Rattle.partition_sizes.specs.declared.bytes.Row.{Row}
use Rattle.partition_sizes.specs.declared.bytes.Row.TheVariants.{Table, HeapWords, HeapLists, Spares, Reads}

-- of a table, whose words have eight bytes
abbrev pub table_bytes : Shape → ℕ
table_bytes shape = 8 * word_count shape

-- of a row
abbrev pub row_bytes : Shape → Row → ℕ
row_bytes shape Table = table_bytes shape
row_bytes shape HeapWords = HEAP_BYTES * shape.words
row_bytes shape HeapLists = LISTS_BYTES
row_bytes shape Spares = SPARE_BYTES * shape.spares
row_bytes shape Reads = READS_BYTES * shape.buckets

-- the rows of a partition: a cache has counts of reads beside its table, and a store a heap and spares
abbrev pub rows_of : Mode → List Row
rows_of Cache = Table ∷ Reads ∷ []
rows_of Store = Table ∷ HeapWords ∷ HeapLists ∷ Spares ∷ []

-- of a partition: of all its rows
abbrev pub partition_bytes : Shape → ℕ
partition_bytes shape = sum (map (row_bytes shape) (rows_of shape.mode))

-- of all partitions
abbrev pub bytes_of : Options → ℕ
bytes_of options = options.partitions * partition_bytes (shape_of options)

-- at a start, when there is a row of zeros for one table more
abbrev pub start_bytes : Options → ℕ
start_bytes options = bytes_of options + table_bytes (shape_of options)
