-- What contracts see of a partition's machine, in either mode.
use Rattle.std.specs.Prelude.{◌≡◌, List, ℕ, Some, None, length, filter, slice_get}
use Rattle.std.specs.List.{AllByRecursion}
use Rattle.partition_model.specs.declared.options.Options.{Options}
use Rattle.partition_model.specs.declared.write.Write.{Write}
use Rattle.partition_model.specs.declared.write.Outcome.{Outcome}
use Rattle.partition_model.specs.Cache.{Record, Cache, is_live}
use Rattle.partition_model.specs.Records.{AreRising}
use Rattle.partition_model.specs.CacheStep.{is_in_bucket}
use Rattle.partition_model.specs.History.{History, IsStep, State, cache_state, state_of, stamp_in, value_in}
use Rattle.partition_model.specs.Options.{IsValid}
use Rattle.partition_model.specs.Write.{IsWrite}
use Rattle.mica_trace.specs.declared.report.Line.{Line}
use Rattle.mica_trace.specs.declared.report.Line.TheVariants.{Hit, Miss}
use Rattle.report_check.specs.declared.cache_buckets.CacheBuckets.{CacheBuckets}
use Rattle.report_check.specs.declared.machine.Machine.{Machine}
use Rattle.report_check.specs.declared.machine.Machine.TheVariants.{Cache as OfCache, Store as OfStore}

-- Cache mode, bucket by bucket

abbrev pub in_bucket : Options → ℕ → List Record → List Record
in_bucket options bucket records = filter (is_in_bucket options bucket) records

-- what a partition's state has of a bucket, with the stamp and the count of all
abbrev pub bucket_part : Options → ℕ → Cache → Cache
bucket_part options bucket cache = record cache { records = in_bucket options bucket cache.records }

-- A bucket has the live records of the partition whose bucket it is, oldest first, behind some that the log has passed.
pub record HasPart (options : Options) (bucket : ℕ) (cache held : Cache) : Type 0 where
  pub rising : AreRising held.records
  pub live : filter (λ r. is_live options.words cache.stamp r.offset) held.records ≡ in_bucket options bucket cache.records

-- a state that a history of writes leaves
abbrev pub IsReachable : Options → Cache → Type 0
IsReachable options cache = (history : History) × AllByRecursion IsWrite history × (state_of options history ≡ cache_state cache)

-- the buckets of a partition in this state
pub record AreBuckets (cache : Cache) (machine : CacheBuckets) : Type 0 where
  pub valid : IsValid machine.options
  pub reached : IsReachable machine.options cache
  pub stamp : machine.stamp ≡ cache.stamp
  pub accepted : machine.accepted ≡ cache.accepted
  pub many : length machine.buckets.items ≡ machine.options.buckets
  pub each : (bucket : ℕ) (held : Cache) → slice_get machine.buckets.items bucket ≡ Some held → HasPart machine.options bucket cache held

-- the write has the outcome, and the buckets are as it leaves them
pub record TakesInBuckets (cache : Cache) (write : Write) (outcome : Outcome) (old new : CacheBuckets) : Type 0 where
  pub now : Cache
  pub step : IsStep old.options (cache_state cache) write outcome (cache_state now)
  pub buckets : AreBuckets now new
  pub options : new.options ≡ old.options

-- Both modes

abbrev pub options_in : Machine → Options
options_in (OfCache m) = m.options
options_in (OfStore m) = m.options

-- the machine is in the state
abbrev pub IsAt : State → Machine → Type 0
IsAt state (OfCache m) = (cache : Cache) × (state ≡ cache_state cache) × AreBuckets cache m
IsAt state (OfStore m) = m.state ≡ state

-- the write has the outcome, and the machine is in the state that it leaves
pub record TakesWrite (state : State) (write : Write) (outcome : Outcome) (old new : Machine) : Type 0 where
  pub now : State
  pub step : IsStep (options_in old) state write outcome now
  pub at : IsAt now new
  pub options : options_in new ≡ options_in old

-- the machine of a partition after a history
pub record IsAfter (options : Options) (history : History) (machine : Machine) : Type 0 where
  pub options_are : options_in machine ≡ options
  pub at : IsAt (state_of options history) machine

-- the line gives the stamp of the state, and the answer that it has for the key
abbrev pub AnswersIn : State → List ℕ → Line → Type 0
AnswersIn state key (Hit stamp value) = (stamp ≡ stamp_in state) × (Some value ≡ value_in state key)
AnswersIn state key (Miss stamp) = (stamp ≡ stamp_in state) × (None ≡ value_in state key)
AnswersIn state key _ = ⊥
