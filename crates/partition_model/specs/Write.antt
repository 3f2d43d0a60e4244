-- Writes and their outcomes.
use Rattle.std.specs.Prelude.{◌≡◌, ℕ, Bool, true, false, List, []}
use Rattle.mica_words.specs.Item.{KeyFits, StoredFits, ValueFits, item_size}
use Rattle.mica_words.specs.Packing.{AreBytes}
use Rattle.partition_model.specs.declared.write.Op.{Op}
use Rattle.partition_model.specs.declared.write.Op.TheVariants.{Put, Add, Touch, Del}
use Rattle.partition_model.specs.declared.write.Write.{Write}
use Rattle.partition_model.specs.declared.write.Outcome.{Outcome}
use Rattle.partition_model.specs.declared.write.Outcome.TheVariants.{Stored, Deleted, Absent, Touched, FullSpare, FullBlock, Worn, Exists}

-- the write of these parts
abbrev pub write_of : Op → List ℕ → List ℕ → Write
write_of op key value = record { op = op; key = key; value = value }

-- the operations that give their key a value
abbrev pub GivesValue : Op → Type 0
GivesValue Put = Unit {0}
GivesValue Add = Unit {0}
GivesValue Touch = ⊥
GivesValue Del = ⊥

-- those of them that replace the value that the key has
abbrev pub Replaces : Op → Type 0
Replaces Put = Unit {0}
Replaces Add = ⊥
Replaces Touch = ⊥
Replaces Del = ⊥

-- what a write's operation says of its value: a touch and a delete have none
abbrev pub HasValueOf : Op → List ℕ → Type 0
HasValueOf Put value = StoredFits value
HasValueOf Add value = StoredFits value
HasValueOf Touch value = value ≡ []
HasValueOf Del value = value ≡ []

-- a write whose key and value are bytes that fit, with no value where the operation has none
pub record IsWrite (write : Write) : Type 0 where
  pub key : KeyFits write.key
  pub key_bytes : AreBytes write.key
  pub value : HasValueOf write.op write.value
  pub value_bytes : AreBytes write.value

-- a write whose value traces and datagrams may have
abbrev pub IsShort : Write → Type 0
IsShort write = ValueFits write.value

-- the words of a write's item
abbrev pub size_of : Write → ℕ
size_of write = item_size write.key write.value

-- whether the write was done; a refused write changes nothing
abbrev pub is_accepted : Outcome → Bool
is_accepted Stored = true
is_accepted Deleted = true
is_accepted Absent = true
is_accepted Touched = true
is_accepted FullSpare = false
is_accepted FullBlock = false
is_accepted Worn = false
is_accepted Exists = false
