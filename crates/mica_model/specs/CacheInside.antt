-- What the cache machine's fields stand for.
use Rattle.std.specs.Prelude.{◌≡◌, ℕ, List}
use Rattle.std.specs.List.{AllByRecursion}
use Rattle.partition_model.specs.declared.options.Mode.TheVariants.{Cache as CacheMode}
use Rattle.mica_model.specs.declared.cache_machine.CacheMachine.TheInside.{Inside}
use Rattle.mica_model.specs.CacheFields.{notes_of, fate_in}
use Rattle.partition_model.specs.Fate.{fate_of}
use Rattle.partition_model.specs.History.{IsHistory, state_of, cache_state}
use Rattle.mica_model.specs.Logged.{Logged}
use Rattle.partition_model.specs.Options.{IsValid}
use Rattle.partition_model.specs.Write.{IsWrite}

abbrev pub logged_of : Inside → Logged
logged_of machine = record { options = machine.options; history = machine.log.items }

-- a lawful history, the state that it leaves, and the fates that it gives
pub record IsMachine (machine : Inside) : Type 0 where
  pub valid : IsValid machine.options
  pub mode : machine.options.mode ≡ CacheMode
  pub lawful : IsHistory machine.options machine.log.items
  pub writes : AllByRecursion IsWrite machine.log.items
  pub state : state_of machine.options machine.log.items ≡ cache_state machine.state
  pub fates : (key : List ℕ) → fate_of machine.options machine.log.items key ≡ fate_in (notes_of machine.fates) key
