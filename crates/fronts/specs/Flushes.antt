-- Flushes of a partition.
use Rattle.std.specs.Prelude.{◌≡◌, ℕ, suc, ◌+◌, ◌<◌, ◌==◌, ◌&&◌, Bool, true, false, List, [], ◌∷◌, length, drop, count_by, nat_lt, if◌then◌else◌}
use Rattle.std.specs.Int.{w64, from_le_bytes}
use Rattle.mica_words.specs.declared.hashing.Hashing.{Hashing}
use Rattle.mica_words.specs.Hash.{bucket_of}
use Rattle.mica_words.specs.Mark.{has_marks, is_mark}
use Rattle.partition_model.specs.declared.write.Op.{Op}
use Rattle.partition_model.specs.declared.write.Op.TheVariants.{Put, Add, Touch, Del}
use Rattle.partition_model.specs.declared.write.Write.{Write}
use Rattle.partition_model.specs.History.{History}
use Rattle.fronts.specs.declared.flushes.TheConstants.{FLUSH_LEN}
use Rattle.fronts.specs.declared.flushes.Flush.{Flush}
use Rattle.fronts.specs.declared.flushes.Flushes.{Flushes}
use Rattle.fronts.specs.declared.flushes.KeptFlushes.{KeptFlushes}

abbrev pub is_delete : Op → Bool
is_delete Put = false
is_delete Add = false
is_delete Touch = false
is_delete Del = true

-- whether a delete of the key flushes: it is a mark, where there are marks, which no client of connections can name
abbrev pub marks : Hashing → List ℕ → Bool
marks hashing key = is_mark key && has_marks hashing

-- whether its key is in bucket 0 of so many
abbrev pub is_in_first : Hashing → ℕ → Write → Bool
is_in_first hashing buckets write = bucket_of hashing write.key buckets == 0

-- An accepted delete of a mark flushes its partition: what was written before it is not there any more. The machine accepts it in both modes, it needs no
-- room, and a log that has gone round does not lose it. All marks are in bucket 0 (`MarksLie`), so its epoch tells who reads without a hold whether there is
-- one more.
abbrev pub is_flush : Hashing → ℕ → Write → Bool
is_flush hashing buckets write = is_in_first hashing buckets write && is_delete write.op && marks hashing write.key

-- When it does so: at the second that stands behind the first byte, which names the partition, and behind that stands the one at which it was asked for.
unfoldable pub flush_in : List ℕ → Flush
flush_in key =
    if nat_lt (length key) FLUSH_LEN then record { due = 0; asked = 0 }
    else record { due = from_le_bytes w64 (drop 1 key); asked = from_le_bytes w64 (drop 9 key) }

-- how many of the writes are flushed at a second
abbrev pub flushed_at : ℕ → Flushes → ℕ
flushed_at second flushes = if nat_lt second flushes.due then flushes.before else flushes.after

-- the second of a flush that waits; 0 where none does
abbrev pub waits_at : ℕ → Flushes → ℕ
waits_at second flushes = if nat_lt second flushes.due then flushes.due else 0

-- A flush more, which is the n-th write. It takes the place of one that waits. What was flushed when it was asked for stays so.
abbrev pub flushes_then : ℕ → Flush → Flushes → Flushes
flushes_then n flush flushes = record { before = flushed_at flush.asked flushes; due = flush.due; after = n }

abbrev pub no_flushes : Flushes
no_flushes = record { before = 0; due = 0; after = 0 }

-- the flushes with one write more, which is the n-th
abbrev pub with_write : Hashing → ℕ → ℕ → Write → Flushes → Flushes
with_write hashing buckets n write flushes = if is_flush hashing buckets write then flushes_then n (flush_in write.key) flushes else flushes

-- the flushes of a history, where n writes stand before it, and these flushes among them
abbrev pub flushes_from : Hashing → ℕ → ℕ → Flushes → History → Flushes
flushes_from hashing buckets n flushes [] = flushes
flushes_from hashing buckets n flushes (write ∷ later) = flushes_from hashing buckets (suc n) (with_write hashing buckets (suc n) write flushes) later

-- what the flushes of a history come to, in a partition of so many buckets
abbrev pub flushes_in : Hashing → ℕ → History → Flushes
flushes_in hashing buckets history = flushes_from hashing buckets 0 no_flushes history

-- What is kept of a history's flushes, with how many of its writes are in their bucket.
pub record AreKept (hashing : Hashing) (buckets : ℕ) (history : History) (kept : KeptFlushes) : Type 0 where
  pub some : 0 < buckets
  pub hashing_is : kept.hashing ≡ hashing
  pub buckets_are : kept.buckets ≡ buckets
  pub in_first : kept.in_first ≡ count_by (is_in_first hashing buckets) history
  pub flushes : kept.flushes ≡ flushes_in hashing buckets history

-- and with one write more, which is the n-th
abbrev pub kept_then : ℕ → Write → KeptFlushes → KeptFlushes
kept_then n write kept = record {
  hashing = kept.hashing;
  buckets = kept.buckets;
  in_first = kept.in_first + (if is_in_first kept.hashing kept.buckets write then 1 else 0);
  flushes = with_write kept.hashing kept.buckets n write kept.flushes;
}
