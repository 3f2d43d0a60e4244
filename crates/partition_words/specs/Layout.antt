-- Where words stand. Word 0 is the stamp. Each main bucket has its epoch, its entries and a link, and
-- then each spare bucket its entries and a link. Then come the item words.
use Rattle.std.specs.Prelude.{ℕ, ◌+◌, ◌*◌, ◌%◌, ◌<◌, min}
use Rattle.mica_words.specs.declared.entry.TheConstants.{SLOTS}
use Rattle.partition_words.specs.declared.shape.Shape.{Shape}
use Rattle.partition_words.specs.declared.shape.WordAt.{WordAt}
use Rattle.partition_words.specs.declared.shape.WordAt.TheVariants.{Stamp, Epoch, Entry, Link, Item}
use Rattle.partition_words.specs.Shape.{IsMain, IsBucket}

abbrev pub stamp_at : ℕ
stamp_at = 0

-- a bucket's entries and its link
abbrev pub bucket_words : ℕ
bucket_words = SLOTS + 1

-- those of a main bucket, with its epoch
abbrev pub main_words : ℕ
main_words = bucket_words + 1

-- the place of a main bucket's epoch
abbrev pub epoch_at : ℕ → ℕ
epoch_at b = 1 + main_words * b

-- The place of a bucket's first entry. Before it stand the stamp, the entries and the link of each bucket below,
-- and the epoch of each main bucket up to it.
abbrev pub entries_at : Shape → ℕ → ℕ
entries_at shape b = 1 + bucket_words * b + min (b + 1) shape.buckets

-- the place of a slot's entry
abbrev pub entry_at : Shape → ℕ → ℕ → ℕ
entry_at shape b slot = entries_at shape b + slot

-- the place of a bucket's link
abbrev pub link_at : Shape → ℕ → ℕ
link_at shape b = entries_at shape b + SLOTS

-- the item words go round
abbrev pub item_at : Shape → ℕ → ℕ
item_at shape p = 1 + main_words * shape.buckets + bucket_words * shape.spares + p % shape.words

-- how many words a table of the shape has
abbrev pub word_count : Shape → ℕ
word_count shape = 1 + main_words * shape.buckets + bucket_words * shape.spares + shape.words

-- the place of each kind of word
abbrev pub place_at : Shape → WordAt → ℕ
place_at shape Stamp = stamp_at
place_at shape (Epoch b) = epoch_at b
place_at shape (Entry b slot) = entry_at shape b slot
place_at shape (Link b) = link_at shape b
place_at shape (Item p) = item_at shape p

-- the bucket and the slot are in range
abbrev pub IsInside : Shape → WordAt → Type 0
IsInside shape Stamp = Unit {0}
IsInside shape (Epoch b) = IsMain shape b
IsInside shape (Entry b slot) = IsBucket shape b × (slot < SLOTS)
IsInside shape (Link b) = IsBucket shape b
IsInside shape (Item p) = Unit {0}
