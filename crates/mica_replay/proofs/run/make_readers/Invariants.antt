use Rattle.std.proofs.Common.{◌≡◌, ℕ, Some, [], map, length, slice_get}
use Rattle.mica_replay.specs.RoundRun.{ReaderPart, reader_part}
use Rattle.mica_replay.proofs.run.make_readers.Given as goal

abbrev pub invariant-loop-q : goal.invariant-loop-q
invariant-loop-q g l = record {
  many : length l.readers.items ≡ l.q;
  none : (i : ℕ) (t : ReaderPart) → slice_get (map (λ r. reader_part g.R.ReaderWords.reader g.R.ReaderWords.home r) l.readers.items) i ≡ Some t → t.seats ≡ [];
}
