use Rattle.std.proofs.Common.{◌≡◌, ◌≤◌, false, vec_len, ◌-◌}
use Rattle.saved_items.specs.Moves.{Yields}
use Rattle.saved_items.specs.Reader.{stream_of}
use Rattle.saved_items.proofs.stream.read_bytes.Given as goal

abbrev pub invariant-loop-source : goal.invariant-loop-source
invariant-loop-source g l = record {
  within : vec_len l.out ≤ l.count;
  yielded : Yields (stream_of (g.S.Source.left l.fn.source) l.fn.reader) (stream_of (g.S.Source.left l.source) l.reader) l.out.items;
  rises : g.S.Source.faults l.fn.source ≤ g.S.Source.faults l.source;
  unended : g.S.Source.has_ended l.source ≡ false;
}

abbrev pub decreases-loop-source : goal.decreases-loop-source
decreases-loop-source g l = l.count - vec_len l.out
