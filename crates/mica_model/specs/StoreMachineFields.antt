-- What the fields of a store machine mean.
use Rattle.std.specs.Prelude.{◌≡◌, ◌≤◌}
use Rattle.mica_model.specs.declared.store_machine.StoreMachine.TheInside.{Inside}
use Rattle.partition_model.specs.Options.{IsValid}
use Rattle.partition_model.specs.Store.{rooms, spares_in_use}
use Rattle.partition_model.specs.History.{store_state}
use Rattle.mica_model.specs.Machine.{Machine}

abbrev pub machine_of : Inside → Machine
machine_of a =
    record { options = a.options; state = store_state (record { cells = a.table.cells; stamp = a.stamp; accepted = a.accepted }) }

-- what is in use is within the options
pub record IsMachine (a : Inside) : Type 0 where
  pub valid : IsValid a.options
  pub hashing : a.table.hashing ≡ a.options.hashing
  pub buckets : a.table.buckets ≡ a.options.buckets
  pub words : rooms a.table.cells ≤ a.options.words
  pub spares : spares_in_use a.options.hashing a.options.buckets a.table.cells ≤ a.options.spares
  pub stamp : a.stamp ≡ a.accepted
  pub accepted : a.accepted ≤ a.options.wear
