-- The step of a partition in store mode: segregated fit and a chained index. It is a relation with one choice.
use Rattle.std.specs.Prelude.{◌≡◌, ℕ, ◌+◌, ◌-◌, ◌*◌, ◌%◌, ◌<◌, ◌≤◌, ◌⊎◌, List, Option, Some, None, IsSome, IsSomeAnd, if◌then◌else◌}
use Rattle.std.specs.FinMap.{get, insert, remove, len}
use Rattle.mica_words.specs.Hash.{bucket_of}
use Rattle.mica_words.specs.declared.entry.TheConstants.{SLOTS}
use Rattle.partition_model.specs.declared.options.Options.{Options}
use Rattle.partition_model.specs.declared.write.Write.{Write}
use Rattle.partition_model.specs.declared.write.Op.{Op}
use Rattle.partition_model.specs.declared.write.Op.TheVariants.{Put, Add, Touch, Del}
use Rattle.partition_model.specs.declared.write.Outcome.{Outcome}
use Rattle.partition_model.specs.declared.write.Outcome.TheVariants.{Stored, Deleted, Absent, Touched, FullSpare, FullBlock, Worn, Exists}
use Rattle.partition_model.specs.Write.{GivesValue, Replaces, size_of}
use Rattle.partition_model.specs.Rooms.{keeps}
use Rattle.partition_model.specs.Store.{Cell, Store, rooms, keys_in, spares_in_use}

-- as many writes were accepted as the partition may bear
abbrev pub IsWorn : Options → Store → Type 0
IsWorn options store = options.wear ≤ store.accepted

-- the key has a room that the new item needs no more of
abbrev pub FitsRoom : Store → Write → Type 0
FitsRoom store write = IsSomeAnd (get store.cells write.key) (λ cell. size_of write ≤ cell.room)

-- how many keys the key's bucket has
abbrev pub keys_beside : Options → Store → List ℕ → ℕ
keys_beside options store key = keys_in options.hashing options.buckets (bucket_of options.hashing key options.buckets) store.cells

-- the key is new, its bucket and the spares behind it are full, and no other spare is left
pub record NeedsSpare (options : Options) (store : Store) (key : List ℕ) : Type 0 where
  pub is_new : get store.cells key ≡ None
  pub some : 0 < keys_beside options store key
  pub full : keys_beside options store key % SLOTS ≡ 0
  pub none_left : spares_in_use options.hashing options.buckets store.cells ≡ options.spares

-- there are words enough for the item, where a key that grows counts with its old room too
abbrev pub HasWords : Options → Store → Write → Type 0
HasWords options store write = rooms store.cells + size_of write ≤ options.words

-- Some layout of the rooms leaves no block of the item's size: n rooms part the free words into n + 1 blocks at most.
abbrev pub MayLackBlock : Options → Store → Write → Type 0
MayLackBlock options store write = options.words ≤ (len store.cells + 1) * (size_of write - 1) + rooms store.cells

-- the write is to store its value: its operation gives one, and replaces the one that the key may have
abbrev pub Stores : Store → Write → Type 0
Stores store write = GivesValue write.op × (Replaces write.op ⊎ (get store.cells write.key ≡ None))

-- a write that is to store a value which neither fits the key's room nor needs a spare that is lacking
pub record NeedsBlock (options : Options) (store : Store) (write : Write) : Type 0 where
  pub stores : Stores store write
  pub no_room : ¬ (FitsRoom store write)
  pub has_spare : ¬ (NeedsSpare options store write.key)

-- which outcomes a write may have before the partition is worn; the choice is between `Stored` and `FullBlock`
abbrev pub AllowsUnworn : Options → Store → Write → Outcome → Type 0
AllowsUnworn options store write Stored =
    Stores store write × (FitsRoom store write ⊎ (NeedsBlock options store write × HasWords options store write))
AllowsUnworn options store write FullSpare = GivesValue write.op × NeedsSpare options store write.key
AllowsUnworn options store write FullBlock = NeedsBlock options store write × MayLackBlock options store write
AllowsUnworn options store write Deleted = (write.op ≡ Del) × IsSome (get store.cells write.key)
AllowsUnworn options store write Touched = (write.op ≡ Touch) × IsSome (get store.cells write.key)
AllowsUnworn options store write Absent = ¬ (GivesValue write.op) × (get store.cells write.key ≡ None)
AllowsUnworn options store write Worn = ⊥
AllowsUnworn options store write Exists = (write.op ≡ Add) × IsSome (get store.cells write.key)

-- which outcomes a write may have
abbrev pub Allows : Options → Store → Write → Outcome → Type 0
Allows options store write Worn = IsWorn options store
Allows options store write outcome = ¬ (IsWorn options store) × AllowsUnworn options store write outcome

-- the room of a key after a put: the one that it has where the item keeps it, else the item's size
abbrev pub room_after : Option Cell → ℕ → ℕ
room_after None size = size
room_after (Some cell) size = if keeps size cell.room then cell.room else size

-- the state after an accepted write that gives a key this cell
abbrev pub after_cell : Store → List ℕ → Cell → Store
after_cell store key cell = record { cells = insert store.cells key cell; stamp = store.stamp + 1; accepted = store.accepted + 1 }

-- the state after an accepted put or add
abbrev pub after_put : Store → Write → Store
after_put store write =
    after_cell store write.key (record { value = write.value; room = room_after (get store.cells write.key) (size_of write) })

-- the state after a touch, which changes no key
abbrev pub after_touch : Store → Store
after_touch store = record store { stamp = store.stamp + 1; accepted = store.accepted + 1 }

-- the state after an accepted delete
abbrev pub after_delete : Store → Write → Store
after_delete store write =
    record { cells = remove store.cells write.key; stamp = store.stamp + 1; accepted = store.accepted + 1 }

-- the cells after an accepted write of each operation
abbrev pub after_op : Op → Store → Write → Store
after_op Put store write = after_put store write
after_op Add store write = after_put store write
after_op Touch store write = after_touch store
after_op Del store write = after_delete store write

-- the state after an accepted write
unfoldable pub after : Store → Write → Store
after store write = after_op write.op store write
