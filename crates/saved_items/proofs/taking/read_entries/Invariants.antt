use Rattle.std.proofs.Common.{◌≡◌, ◌≤◌, false}
use Rattle.saved_items.specs.Reader.{stream_of}
use Rattle.saved_items.proofs.Takes.{HasTaken}
use Rattle.saved_items.proofs.taking.read_entries.Given as goal

abbrev pub invariant-loop-turn : goal.invariant-loop-turn
invariant-loop-turn g l = record {
  unended : g.S.Source.has_ended l.source ≡ false;
  rises : g.S.Source.faults l.fn.source ≤ g.S.Source.faults l.source;
  so_far : HasTaken g.T.TakesEntries.takes l.fn.taker l.taker l.fn.partitions (stream_of (g.S.Source.left l.fn.source) l.fn.reader) l._turn l.left l.close (stream_of (g.S.Source.left l.source) l.reader);
}
