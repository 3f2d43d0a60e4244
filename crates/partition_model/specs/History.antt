-- Histories of a partition, in both modes: lists of accepted writes.
use Rattle.std.specs.Prelude.{◌≡◌, ℕ, true, ◌==◌, List, [], ◌∷◌, ◌++◌, Option, fold, count_by, if◌then◌else◌}
use Rattle.mica_words.specs.Hash.{bucket_of}
use Rattle.partition_model.specs.declared.options.Options.{Options}
use Rattle.partition_model.specs.declared.options.Mode.{Mode}
use Rattle.partition_model.specs.declared.options.Mode.TheVariants.{Cache as CacheMode, Store as StoreMode}
use Rattle.partition_model.specs.declared.write.Write.{Write}
use Rattle.partition_model.specs.declared.write.Outcome.{Outcome}
use Rattle.partition_model.specs.Write.{is_accepted}
use Rattle.partition_model.specs.Cache as cache
use Rattle.partition_model.specs.CacheStep as cache_step
use Rattle.partition_model.specs.Store as store
use Rattle.partition_model.specs.StoreStep as store_step

-- the state of a partition's machine, in its mode
pub data State : Type 0 where
  cache_state : cache.Cache → State
  store_state : store.Store → State

-- the empty machine of a mode
abbrev pub start : Mode → State
start CacheMode = cache_state cache.start
start StoreMode = store_state store.start

-- the state after an accepted write
abbrev pub after : Options → State → Write → State
after options (cache_state s) write = cache_state (cache_step.after options s write)
after options (store_state s) write = store_state (store_step.after s write)

-- the outcomes that the machine may give to a write
abbrev pub Allows : Options → State → Write → Outcome → Type 0
Allows options (cache_state s) write outcome = outcome ≡ cache_step.reply options s write
Allows options (store_state s) write outcome = store_step.Allows options s write outcome

-- the stamp of a state
abbrev pub stamp_in : State → ℕ
stamp_in (cache_state s) = s.stamp
stamp_in (store_state s) = s.stamp

-- how many writes a state has accepted
abbrev pub accepted_in : State → ℕ
accepted_in (cache_state s) = s.accepted
accepted_in (store_state s) = s.accepted

-- the value of a key, if it has one
abbrev pub value_in : State → List ℕ → Option (List ℕ)
value_in (cache_state s) key = cache.value_in s key
value_in (store_state s) key = store.value_in s key

-- One step of the machine: an outcome that it may give, and the state after it. A refused write changes nothing.
pub record IsStep (options : Options) (old : State) (write : Write) (outcome : Outcome) (new : State) : Type 0 where
  pub allowed : Allows options old write outcome
  pub result : new ≡ (if is_accepted outcome then after options old write else old)

-- the accepted writes of a partition, in order
abbrev pub History : Type 0
History = List Write

-- the state that a history leaves
abbrev pub state_of : Options → History → State
state_of options history = fold (after options) (start options.mode) history

-- the stamp after a history
abbrev pub stamp_of : Options → History → ℕ
stamp_of options history = stamp_in (state_of options history)

-- the value of a key after a history, if it has one
abbrev pub answer_of : Options → History → List ℕ → Option (List ℕ)
answer_of options history key = value_in (state_of options history) key

-- the machine may give this outcome to the write after the history
abbrev pub MayGive : Options → History → Write → Outcome → Type 0
MayGive options history write outcome = Allows options (state_of options history) write outcome

-- the machine may accept the write after the history
abbrev pub IsAcceptedAfter : Options → History → Write → Type 0
IsAcceptedAfter options history write =
    (outcome : Outcome) × (is_accepted outcome ≡ true) × MayGive options history write outcome

-- each write is accepted behind those before it
abbrev pub IsHistoryFrom : Options → History → History → Type 0
IsHistoryFrom options before [] = Unit {0}
IsHistoryFrom options before (write ∷ later) =
    IsAcceptedAfter options before write × IsHistoryFrom options (before ++ write ∷ []) later

-- each write is accepted by the machine from the state that the writes before it leave
abbrev pub IsHistory : Options → History → Type 0
IsHistory options history = IsHistoryFrom options [] history

-- the second history begins with the first
abbrev pub IsPrefix : History → History → Type 0
IsPrefix begun all = (later : History) × (all ≡ begun ++ later)

-- the prefix of a history that has the stamp
pub record IsCut (options : Options) (history : History) (stamp : ℕ) (cut : History) : Type 0 where
  pub begins : IsPrefix cut history
  pub stamped : stamp_of options cut ≡ stamp

-- how many of the writes are to keys of the bucket
abbrev pub writes_to_bucket : Options → History → ℕ → ℕ
writes_to_bucket options history bucket = count_by (λ write. bucket_of options.hashing write.key options.buckets == bucket) history
