use Rattle.std.proofs.Common.{◌≡◌, ◌∙◌, inl, inr, arith}
use Rattle.saved_items.specs.Reader.{stream_of}
use Rattle.saved_items.proofs.Causes.{handed_cause, same_cause}
use Rattle.saved_items.proofs.Takes.{taken_then, ends_all, ends_fault, stops_at, refuses_next}
use Rattle.saved_items.proofs.taking.read_entries.Goals as goal

pub returns-then-left-eq0-clause-all : goal.returns-then-left-eq0-clause-all
returns-then-left-eq0-clause-all g c =
    ends_all g.T.TakesEntries.takes c.args.taker.now c.args.partitions (stream_of (g.S.Source.left c.args.source.now) c.args.reader.now) c.loop-turn.taker c.loop-turn._turn c.loop-turn.left c.loop-turn.close
    (stream_of (g.S.Source.left c.loop-turn.source) c.loop-turn.reader) c.loop-turn.invariant.so_far c.read_end.result (omega arith) c.read_end.ensures.ends

pub returns-then-left-eq0-clause-fault : goal.returns-then-left-eq0-clause-fault
returns-then-left-eq0-clause-fault g c =
    ends_fault g.T.TakesEntries.takes c.args.taker.now c.args.partitions (stream_of (g.S.Source.left c.args.source.now) c.args.reader.now) c.loop-turn.taker c.loop-turn._turn c.loop-turn.left c.loop-turn.close
    (stream_of (g.S.Source.left c.loop-turn.source) c.loop-turn.reader) c.loop-turn.invariant.so_far c.read_end.result (omega arith) c.read_end.ensures.ends

pub returns-then-left-eq0-clause-cause : goal.returns-then-left-eq0-clause-cause
returns-then-left-eq0-clause-cause g c = same_cause _ _ _ ⊥ _ c.loop-turn.invariant.rises (λ no. absurd no) c.read_end.result c.read_end.ensures.cause

pub returns-in_err-closed-clause-fault : goal.returns-in_err-closed-clause-fault
returns-in_err-closed-clause-fault g c =
    stops_at g.T.TakesEntries.takes c.args.taker.now c.args.partitions (stream_of (g.S.Source.left c.args.source.now) c.args.reader.now) c.loop-turn.taker c.loop-turn._turn c.loop-turn.left c.loop-turn.close
    (stream_of (g.S.Source.left c.loop-turn.source) c.loop-turn.reader) c.loop-turn.invariant.so_far c.take_entry.new.taker c.in_err-closed.field-0.0 c.from_residual.result c.from_residual.ensures.1 (omega arith)
    c.in_err-closed.ensures.fault

pub returns-in_err-closed-clause-cause : goal.returns-in_err-closed-clause-cause
returns-in_err-closed-clause-cause g c =
    handed_cause _ _ _ _ _ c.loop-turn.invariant.rises
    (λ refused. inl (refuses_next g.T.TakesEntries.takes c.args.taker.now c.args.partitions (stream_of (g.S.Source.left c.args.source.now) c.args.reader.now) c.loop-turn.taker c.loop-turn._turn
    c.loop-turn.left c.loop-turn.close (stream_of (g.S.Source.left c.loop-turn.source) c.loop-turn.reader) c.loop-turn.invariant.so_far g.T.TakesEntries.refuses c.take_entry.new.taker refused.0
    (stream_of (g.S.Source.left c.take_entry.new.source) c.take_entry.new.reader) (omega arith) refused.1 refused.2))
    c.in_err-closed.field-0.0 c.from_residual.result c.from_residual.ensures.1 c.in_err-closed.ensures.cause

pub returns-clause-cause : goal.returns-clause-cause
returns-clause-cause g c =
    let so_far = c.loop-turn.invariant.so_far in
    let last : c.loop-turn._turn ≡ 18446744073709551615 = omega arith in
    inr (so_far.entries, so_far.took, so_far.many ∙ last)

pub loop-turn-preserved : goal.loop-turn-preserved
loop-turn-preserved g c = record {
  unended = c.in_ok-closed.ensures.open;
  rises = omega (arith, c.take_entry.ensures.never_fall, c.loop-turn.invariant.rises);
  so_far = taken_then g.T.TakesEntries.takes c.args.taker.now c.args.partitions (stream_of (g.S.Source.left c.args.source.now) c.args.reader.now) c.loop-turn.taker c.loop-turn._turn c.loop-turn.left
      c.loop-turn.close (stream_of (g.S.Source.left c.loop-turn.source) c.loop-turn.reader) c.loop-turn.invariant.so_far c.take_entry.new.taker c.left_behind-left.result c.close_behind-close.result
      c.in_ok-closed.closed (stream_of (g.S.Source.left c.take_entry.new.source) c.take_entry.new.reader) (omega arith) c.in_ok-closed.ensures.takes c.left_behind-left.ensures c.close_behind-close.ensures;
}
