use Rattle.std.proofs.Common.{◌≡◌, ◌≤◌, ◌++◌, ℕ, List, length}
use Rattle.saved_items.specs.Spiller.{PutsBytes}
use Rattle.saved_items.proofs.writing.put_bytes.Given as goal

-- what was put, and what is left, are the bytes
abbrev pub invariant-loop-rest : goal.invariant-loop-rest
invariant-loop-rest g l = record {
  close : l.spiller.close ≡ l.fn.spiller.close;
  rises : g.K.Sink.faults l.fn.sink ≤ g.K.Sink.faults l.sink;
  put : (bytes : List ℕ) × (l.fn.bytes ≡ bytes ++ l.rest) × PutsBytes (g.K.Sink.taken l.fn.sink) (g.K.Sink.taken l.sink) l.fn.spiller l.spiller bytes;
}

abbrev pub decreases-loop-rest : goal.decreases-loop-rest
decreases-loop-rest g l = length l.rest
