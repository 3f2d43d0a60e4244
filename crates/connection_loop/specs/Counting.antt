-- What a front counts of the reports of its port.
use Rattle.std.specs.Prelude.{ℕ, ◌+◌}
use Rattle.memcached_stats.specs.declared.counter.Counter.TheVariants as counters
use Rattle.memcached_stats.specs.Tallies.{Numbers, lifted, raised}
use Rattle.connections.specs.declared.connections.Event.{Event}
use Rattle.connections.specs.declared.connections.Event.TheVariants.{Opened, TurnedAway, Ready}

-- A connection that came has a place, by its number. One that was turned away was never open: it is counted among those that were rejected, and nowhere else. One that there was no memory for is, too.
abbrev pub counted_for : Event → ℕ → Numbers → Numbers
counted_for (Opened number) lacked tally = lifted counters.Structures (number + 1) (raised counters.Rejected lacked (raised counters.Opened 1 tally))
counted_for TurnedAway lacked tally = raised counters.Rejected 1 tally
counted_for (Ready number) lacked tally = raised counters.Lacked lacked tally

-- those that there was no memory for were closed
abbrev pub tally_after_report : Event → ℕ → Numbers → Numbers
tally_after_report event lacked tally = raised counters.Closed lacked (counted_for event lacked tally)
