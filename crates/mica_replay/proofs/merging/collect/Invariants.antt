use Rattle.std.proofs.Common.{◌≡◌, Some, map, take}
use Rattle.std.specs.Vec.Iter.{into_iter_items}
use Rattle.list_laws.proofs.UpTo.{UpTo}
use Rattle.mica_replay.specs.RoundRun.{reader_part, found_of}
use Rattle.mica_replay.specs.Shares.{KeepsGets}
use Rattle.mica_replay.proofs.merging.collect.Given as goal

abbrev pub invariant-loop-q : goal.invariant-loop-q
invariant-loop-q g l = record {
  found : map found_of (take l.q (map (λ r. reader_part g.R.ReaderWords.reader g.R.ReaderWords.home r) l.initial.readers.items)) ≡ map (λ it. Some (into_iter_items it)) l.found.items;
  kept : UpTo KeepsGets l.q (map (λ r. reader_part g.R.ReaderWords.reader g.R.ReaderWords.home r) l.initial.readers.items)
      (map (λ r. reader_part g.R.ReaderWords.reader g.R.ReaderWords.home r) l.readers.items);
}
