-- What is counted of a partition's history.
use Rattle.std.specs.Prelude.{ℕ, length}
use Rattle.partition_model.specs.declared.options.Options.{Options}
use Rattle.partition_model.specs.History.{History, stamp_of, writes_to_bucket}
use Rattle.fronts.specs.declared.changing.When.{When}
use Rattle.fronts.specs.Flushes.{flushed_at, waits_at, flushes_in}
use Rattle.locked_front.specs.declared.counts.HistoryCounts.{HistoryCounts}

-- its stamp, how many writes it has, how many of them are in the bucket of flushes, and what its flushes come to
abbrev pub counts_after : Options → History → HistoryCounts
counts_after options history = record {
  stamp = stamp_of options history;
  written = length history;
  in_first = writes_to_bucket options history 0;
  flushes = flushes_in options.hashing options.buckets history;
}

-- when a decision is made at a second, where so much was counted
abbrev pub when_by : ℕ → HistoryCounts → When
when_by second counts = record {
  second = second;
  written = counts.written;
  flushed = flushed_at second counts.flushes;
  until = waits_at second counts.flushes;
}
