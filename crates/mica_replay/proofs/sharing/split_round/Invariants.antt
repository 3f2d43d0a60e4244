use Rattle.std.proofs.Common.{◌≡◌, ◌≤◌, ◌+◌, ◌-◌, ℕ, map, take, drop}
use Rattle.mica_trace.specs.Rounds.{writes_of}
use Rattle.mica_trace.specs.RoundReport.{gets_in}
use Rattle.mica_replay.specs.Each.{Each}
use Rattle.mica_replay.specs.RoundRun.{reader_part}
use Rattle.mica_replay.specs.Feeds.{writes_for}
use Rattle.mica_replay.specs.LineNumbers.{homes_of}
use Rattle.mica_replay.specs.Shares.{HasGets}
use Rattle.mica_replay.proofs.sharing.split_round.Given as goal

abbrev pub invariant-loop-number : goal.invariant-loop-number
invariant-loop-number g l = record {
  gets : l.gets ≡ l.first + gets_in (take (l.number - l.from) (drop l.from l.trace));
  homes : l.homes.items ≡ homes_of l.options (take (l.number - l.from) (drop l.from l.trace));
  few : l.gets ≤ l.first + (l.number - l.from);
  queues : l.jobs.queues ≡ l.options.partitions;
  writes : (p : ℕ) → writes_for p l.jobs.feeds ≡ writes_of l.options p (take (l.number - l.from) (drop l.from l.trace));
  readers : Each (HasGets l.options l.trace l.first (take (l.number - l.from) (drop l.from l.trace)))
      (map (λ r. reader_part g.R.ReaderWords.reader g.R.ReaderWords.home r) l.fn.readers.items) (map (λ r. reader_part g.R.ReaderWords.reader g.R.ReaderWords.home r) l.readers.items);
}
