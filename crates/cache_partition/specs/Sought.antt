-- What the words tell of a key before a write.
use Rattle.std.specs.Prelude.{◌≡◌, ℕ, Bool, true, false, List, Option, None, IfSome, MatchOption, is_some, option_map}
use Rattle.mica_words.specs.Hash.{hash_of}
use Rattle.partition_model.specs.declared.options.Options.{Options}
use Rattle.partition_model.specs.declared.write.Write.{Write}
use Rattle.partition_model.specs.Cache.{record_of}
use Rattle.partition_model.specs.CacheStep.{kept_record, new_record, after_append, after_write, reply_of}
use Rattle.partition_model.specs.Write.{is_accepted}
use Rattle.partition_model.specs.History.{State, cache_state, store_state}
use Rattle.partition_words.specs.declared.state.OwnerState.{OwnerState}
use Rattle.partition_words.specs.OwnerState.{stamp_in, options_in, state_in, bucket_in}
use Rattle.cache_partition.specs.declared.seeking.Sought.{Sought}
use Rattle.lossy_index.specs.Slot.{offset_in, IsSlotOf, HasNoSlot}

-- The hash and the bucket are the key's, the slot is its slot there, if it has one, the offset is the one in the slot's
-- entry, and the stamp is the one now.
pub record IsSought (o : OwnerState) (key : List ℕ) (sought : Sought) : Type 0 where
  pub hash : sought.hash ≡ hash_of o.shape.hashing key
  pub bucket : sought.bucket ≡ bucket_in o key
  pub found : MatchOption sought.slot (HasNoSlot o sought.bucket key) (IsSlotOf o sought.bucket key)
  pub offset : IfSome sought.slot (λ slot. sought.offset ≡ offset_in o sought.bucket slot)
  pub stamp : sought.stamp ≡ stamp_in o

abbrev pub kept_offset_by : Options → State → Write → Option ℕ
kept_offset_by options (cache_state s) write = option_map (λ held. held.offset) (kept_record options s write)
kept_offset_by options (store_state s) write = None

-- the offset of the record in whose room a put is kept, if it is
abbrev pub kept_offset : OwnerState → Write → Option ℕ
kept_offset o write = kept_offset_by (options_in o) (state_in o) write

abbrev pub had_record_by : State → List ℕ → Bool
had_record_by (cache_state s) key = is_some (record_of s key)
had_record_by (store_state s) key = false

-- whether the log has a record of the key
abbrev pub had_record : OwnerState → List ℕ → Bool
had_record o key = had_record_by (state_in o) key

-- the machine of a partition that is not worn accepts the write
abbrev pub IsAcceptable : OwnerState → Write → Type 0
IsAcceptable o write = is_accepted (reply_of write.op (options_in o) write (had_record o write.key)) ≡ true

abbrev pub AppendsBy : Options → State → Write → List ℕ → Type 0
AppendsBy options (cache_state s) write value = after_write options s write ≡ after_append s (new_record s write.key value)
AppendsBy options (store_state s) write value = ⊥

-- the write appends a record of its key, with this value
abbrev pub AppendsValue : OwnerState → Write → List ℕ → Type 0
AppendsValue o write value = AppendsBy (options_in o) (state_in o) write value
