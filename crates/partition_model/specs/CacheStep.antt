-- The step of a partition in cache mode: a circular log and a lossy index. It is a function, whose rules stand in order.
use Rattle.std.specs.Prelude.{ℕ, ◌+◌, ◌*◌, ◌<◌, ◌≤◌, ◌==◌, Bool, true, false, not, ◌&&◌, ◌||◌, List, [], ◌∷◌, ◌++◌, Option, Some, None, is_some, filter, map, count_by, if◌then◌else◌, nat_le}
use Rattle.mica_words.specs.Hash.{bucket_of}
use Rattle.mica_words.specs.declared.entry.TheConstants.{SLOTS}
use Rattle.mica_words.specs.Item.{item_size}
use Rattle.mica_words.specs.Stamp.{tail_of}
use Rattle.partition_model.specs.declared.options.Options.{Options}
use Rattle.partition_model.specs.declared.write.Write.{Write}
use Rattle.partition_model.specs.declared.write.Op.{Op}
use Rattle.partition_model.specs.declared.write.Op.TheVariants.{Put, Add, Touch, Del}
use Rattle.partition_model.specs.declared.write.Outcome.{Outcome}
use Rattle.partition_model.specs.declared.write.Outcome.TheVariants.{Stored, Deleted, Absent, Touched, FullBlock, Worn, Exists}
use Rattle.partition_model.specs.Write.{size_of}
use Rattle.partition_model.specs.Cache.{Record, Cache, has_key, record_of, is_live}
use Rattle.partition_model.specs.Limits.{is_at_end}
use Rattle.partition_model.specs.Rooms.{keeps}

-- as many writes were accepted as the partition may bear, or its log has come to its end
abbrev pub is_worn : Options → Cache → Bool
is_worn options cache = nat_le options.wear cache.accepted || is_at_end cache.stamp

-- whether a put may be kept in this record's room: its item keeps the room, and the log will not have passed it
abbrev pub may_keep : Options → Cache → Write → Record → Bool
may_keep options cache write held = keeps (size_of write) held.room && is_live options.words (cache.stamp + 1) held.offset

-- the record, where a put may keep its place
abbrev pub kept_if : Options → Cache → Write → Option Record → Option Record
kept_if options cache write None = None
kept_if options cache write (Some held) = if may_keep options cache write held then Some held else None

-- the record in whose room a put is kept, if it is
abbrev pub kept_record : Options → Cache → Write → Option Record
kept_record options cache write = kept_if options cache write (record_of cache write.key)

-- the records of other keys
abbrev pub others : List ℕ → List Record → List Record
others key records = filter (λ held. not (has_key key held)) records

-- a new record of the key with this value: at the tail, in a room of its item's size
abbrev pub new_record : Cache → List ℕ → List ℕ → Record
new_record cache key value = record { key = key; value = value; offset = tail_of cache.stamp; room = item_size key value }

-- a put that is kept in place: the record has the new value
abbrev pub after_rewrite : Cache → Write → Cache
after_rewrite cache write = record cache {
  records = map (λ held. if has_key write.key held then record held { value = write.value } else held) cache.records;
  stamp = cache.stamp + 1;
}

-- a record is appended: the one that its key had goes, and this one comes last
abbrev pub after_append : Cache → Record → Cache
after_append cache new = record cache {
  records = others new.key cache.records ++ new ∷ [];
  stamp = cache.stamp + 65536 * new.room;
}

-- a put, by the record that keeps it, if one does
abbrev pub after_put : Option Record → Cache → Write → Cache
after_put None cache write = after_append cache (new_record cache write.key write.value)
after_put (Some held) cache write = after_rewrite cache write

-- a touch, by the key's record, if it has one: its value is appended anew
abbrev pub after_touch : Option Record → Cache → Write → Cache
after_touch None cache write = record cache { stamp = cache.stamp + 1 }
after_touch (Some held) cache write = after_append cache (new_record cache write.key held.value)

-- a delete: the key's record goes
abbrev pub after_delete : Cache → Write → Cache
after_delete cache write = record cache { records = others write.key cache.records; stamp = cache.stamp + 1 }

-- the state after an accepted write, before the log passes records
abbrev pub after_op : Op → Options → Cache → Write → Cache
after_op Put options cache write = after_put (kept_record options cache write) cache write
after_op Add options cache write = after_append cache (new_record cache write.key write.value)
after_op Touch options cache write = after_touch (record_of cache write.key) cache write
after_op Del options cache write = after_delete cache write

-- the write itself, before the log passes and the index displaces
abbrev pub after_write : Options → Cache → Write → Cache
after_write options cache write = after_op write.op options cache write

-- then each record goes that the log has passed, by the new tail
abbrev pub without_passed : Options → Cache → Cache
without_passed options cache =
    record cache { records = filter (λ held. is_live options.words cache.stamp held.offset) cache.records }

-- whether the record's key is in the bucket
abbrev pub is_in_bucket : Options → ℕ → Record → Bool
is_in_bucket options bucket held = bucket_of options.hashing held.key options.buckets == bucket

-- the records without the first that passes the test
abbrev pub without_first : (Record → Bool) → List Record → List Record
without_first test [] = []
without_first test (held ∷ records) = if test held then records else (held ∷ without_first test records)

-- then, where the written key's bucket has more records than entries, its first goes
abbrev pub without_displaced : Options → List ℕ → Cache → Cache
without_displaced options key cache =
    let here : Record → Bool = is_in_bucket options (bucket_of options.hashing key options.buckets) in
    record cache { records = if count_by here cache.records == SLOTS + 1 then without_first here cache.records else cache.records }

-- the state after an accepted write
unfoldable pub after : Options → Cache → Write → Cache
after options cache write =
    record (without_displaced options write.key (without_passed options (after_write options cache write))) { accepted = cache.accepted + 1 }

-- the reply to a write that is to store an item, which may not be longer than the log
abbrev pub reply_to_item : Options → Write → Outcome
reply_to_item options write = if nat_le (size_of write) options.words then Stored else FullBlock

-- the reply before the partition is worn, by whether the key has a record
abbrev pub reply_of : Op → Options → Write → Bool → Outcome
reply_of Put options write found = reply_to_item options write
reply_of Add options write true = Exists
reply_of Add options write false = reply_to_item options write
reply_of Touch options write true = Touched
reply_of Touch options write false = Absent
reply_of Del options write true = Deleted
reply_of Del options write false = Absent

-- the machine's reply
unfoldable pub reply : Options → Cache → Write → Outcome
reply options cache write =
    if is_worn options cache then Worn else reply_of write.op options write (is_some (record_of cache write.key))

-- the offset is one of the record's item
abbrev pub IsInItem : Option Record → ℕ → Type 0
IsInItem None p = ⊥
IsInItem (Some held) p = (held.offset ≤ p) × (p < held.offset + item_size held.key held.value)

-- The offset is one of the words of the item that the write stores, which is what its key then has. A delete stores none, nor does a touch
-- of a key without a record.
abbrev pub IsOfItem : Options → Cache → Write → ℕ → Type 0
IsOfItem options cache write p = IsInItem (record_of (after_write options cache write) write.key) p
