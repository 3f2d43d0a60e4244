use Rattle.std.proofs.Common.{◌≡◌, ◌≤◌, map, take, length, vec_capacity}
use Rattle.mica_replay.specs.LineNumbers.{lines_at}
use Rattle.mica_replay.specs.ReaderGets.{HaveRead}
use Rattle.mica_replay.proofs.reader.run_reader.Given as goal

abbrev pub invariant-loop-number : goal.invariant-loop-number
invariant-loop-number g l = record {
  read : HaveRead l.options (lines_at l.trace (take l.number-index l.gets)) l.found.items
      (map (λ s. g.R.ReaderWords.reader s) l.initial.seats.items) (map (λ s. g.R.ReaderWords.reader s) l.seats.items);
  homes : map (λ s. g.R.ReaderWords.home s) l.seats.items ≡ map (λ s. g.R.ReaderWords.home s) l.initial.seats.items;
  room : length l.gets ≤ vec_capacity l.found;
  found : length l.found.items ≡ l.number-index;
  call : l.call ≡ l.number-index;
}
