-- What a front has counted for itself.
use Rattle.std.specs.Prelude.{ℕ, ◌+◌, ◌*◌, min, max, List, replicate, slice_get, slice_set, unwrap_or, Option, None, Some}
use Rattle.outside.specs.Faults.{LAST_COUNT}
use Rattle.memcached_stats.specs.declared.counter.Counter.{Counter}
use Rattle.memcached_stats.specs.declared.counter.TheConstants.{COUNTERS}
use Rattle.memcached_stats.specs.declared.tally.TheConstants.{MOST_NUMBERS}
use Rattle.memcached_stats.specs.Figures.{place_of_counter}

-- what a tally counts: the counters, and two numbers of each partition
abbrev pub Numbers : Type 0
Numbers = List ℕ

-- nothing was counted
abbrev pub none_tallied : Numbers
none_tallied = replicate MOST_NUMBERS 0

-- the number at a place, or none
abbrev pub number_at : ℕ → Numbers → ℕ
number_at place tally = unwrap_or (slice_get tally place) 0

-- with this number there
abbrev pub put_at : ℕ → ℕ → Numbers → Numbers
put_at place number tally = slice_set tally place number

-- a counter was raised by so many, up to the greatest number that there is room for
abbrev pub raised : Counter → ℕ → Numbers → Numbers
raised counter by tally = put_at (place_of_counter counter) (min (number_at (place_of_counter counter) tally + by) LAST_COUNT) tally

-- it is this number at least
abbrev pub lifted : Counter → ℕ → Numbers → Numbers
lifted counter least tally = put_at (place_of_counter counter) (max (number_at (place_of_counter counter) tally) least) tally

-- by one, where there is a counter
abbrev pub counted : Option Counter → Numbers → Numbers
counted None tally = tally
counted (Some counter) tally = raised counter 1 tally

-- so many writes a partition has accepted, with this stamp
abbrev pub noted : ℕ → ℕ → ℕ → Numbers → Numbers
noted partition writes stamp tally = put_at (COUNTERS + 2 * partition + 1) stamp (put_at (COUNTERS + 2 * partition) writes tally)
