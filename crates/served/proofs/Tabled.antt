-- A server with its tables is one that served.
use Rattle.std.proofs.Common.{ℕ, Option, Some, None, List}
use Rattle.outside.specs.PortStates.{PortStates}
use Rattle.partition_model.specs.declared.options.Options.{Options}
use Rattle.partition_model.specs.History.{History}
use Rattle.partition_table.specs.declared.tables.KeptSeat.{KeptSeat}
use Rattle.server_words.specs.declared.ports.PortOptions.{PortOptions}
use Rattle.fronts.specs.declared.totals.Totals.{Totals}
use Rattle.served.specs.Others.{Others}
use Rattle.served.specs.Served.{ServesAndCounts}
use Rattle.served.specs.Beside.{ServesOnTables}
use Rattle.served.specs.NetRun.{NetFacts, OnPorts, HasServed, HasServedOnTables}

on_ports_as : (P Q : PortStates → PortStates → Type 0) → ((a b : PortStates) → P a b → Q a b) → (a b : Option PortStates) → OnPorts P a b → OnPorts Q a b
on_ports_as P Q f None b p = p
on_ports_as P Q f (Some a) None p = absurd p
on_ports_as P Q f (Some a) (Some b) p = f a b p

pub has_served : (others : Others) (options : Options) (origin : ℕ → History) (ports : PortOptions) (totals : Totals) (kept : List KeptSeat) (before after : NetFacts)
    → HasServedOnTables others options origin ports totals kept before after → HasServed others options origin ports totals before after
has_served others options origin ports totals kept before after h = record {
  served = on_ports_as (ServesOnTables others options origin ports totals kept) (ServesAndCounts others options origin ports totals)
      (λ a b s. record { fronts = s.fronts; runs = s.runs; served = s.served; counted = s.counted }) before.ports after.ports h.served;
  no_fault = h.no_fault;
}
