use Rattle.std.proofs.Common.{◌≡◌, [], length, sym, subst, arith}
use Rattle.std.specs.Prelude.{slice_range}
use Rattle.std.proofs.lemmas.List.{append-nil}
use Rattle.saved_items.specs.declared.fault.SavedFault.TheVariants as faults
use Rattle.saved_items.specs.Moves.{Yields}
use Rattle.saved_items.specs.Reader.{rest_of, stream_of}
use Rattle.saved_items.proofs.Causes.{handed_cause}
use Rattle.saved_items.proofs.Streams.{yields_trans, yields_rest, yields_reads, yields_none, stops_result, stops_for_memory}
use Rattle.saved_items.proofs.stream.read_bytes.Goals as goal

pub loop-source-preserved : goal.loop-source-preserved
loop-source-preserved g c =
    let so_far = c.loop-source.invariant in
    let made = c.in_ok-make_ready.ensures in
    let gave = c.in_ok-give.ensures in
    let out = c.loop-source.out.items in
    let reader = c.make_ready.new.reader in
    let left = g.S.Source.left c.make_ready.new.source in
    let bytes = slice_range reader.block.items reader.at c.give.new.reader.at in
    let first = stream_of (g.S.Source.left c.args.source.now) c.args.reader.now in
    let ready : Yields first (stream_of left reader) out =
    subst (Yields first (stream_of left reader)) (append-nil out) (yields_trans first (stream_of (g.S.Source.left c.loop-source.source) c.loop-source.reader) (stream_of left reader) out [] so_far.yielded made.same) in
    let given : Yields (stream_of left reader) (stream_of left c.give.new.reader) bytes = yields_rest left reader.sum c.give.new.reader.sum (rest_of reader) bytes (rest_of c.give.new.reader) gave.sum gave.rest in
    record {
      within = omega (arith, gave.len, gave.most, gave.some, so_far.within);
      yielded = subst (Yields first (stream_of left c.give.new.reader)) (sym gave.out) (yields_trans first (stream_of left reader) (stream_of left c.give.new.reader) out bytes ready given);
      rises = omega (arith, c.make_ready.ensures.never_fall, so_far.rises);
      unended = made.open;
    }

pub returns-clause-read : goal.returns-clause-read
returns-clause-read g c =
    let so_far = c.loop-source.invariant in
    let long : length c.loop-source.out.items ≡ c.args.count = omega (arith, so_far.within, c.loop-source.out.ok.0) in
    yields_reads tt (stream_of (g.S.Source.left c.args.source.now) c.args.reader.now) (stream_of (g.S.Source.left c.loop-source.source) c.loop-source.reader) c.args.count c.loop-source.out.items so_far.yielded long

pub returns-in_err-make_ready-clause-read : goal.returns-in_err-make_ready-clause-read
returns-in_err-make_ready-clause-read g c =
    stops_result (λ (u : Unit {0}). c.loop-source.out.items) c.in_err-make_ready.field-0.0 c.from_residual.result (stream_of (g.S.Source.left c.args.source.now) c.args.reader.now) (stream_of (g.S.Source.left c.loop-source.source) c.loop-source.reader)
    (stream_of (g.S.Source.left c.make_ready.new.source) c.make_ready.new.reader) c.args.count c.loop-source.out.items c.from_residual.ensures.1 c.loop-source.invariant.yielded c.in_err-make_ready.ensures.stops
    (omega (arith, c.loop-source-test.true, c.len.ensures, c.loop-source.out.ok.0))

pub returns-in_err-give-clause-read : goal.returns-in_err-give-clause-read
returns-in_err-give-clause-read g c =
    let first = stream_of (g.S.Source.left c.args.source.now) c.args.reader.now in
    stops_result (λ (u : Unit {0}). c.give.new.out.items) faults.NoMemory c.from_residual-in_err-give.result first first (stream_of (g.S.Source.left c.make_ready.new.source) c.give.new.reader) c.args.count []
    c.from_residual-in_err-give.ensures.1 (yields_none first) (stops_for_memory first) (omega (arith, c.loop-source-test.true))

pub returns-in_err-make_ready-clause-cause : goal.returns-in_err-make_ready-clause-cause
returns-in_err-make_ready-clause-cause g c =
    handed_cause (g.S.Source.faults c.args.source.now) (g.S.Source.faults c.loop-source.source) (g.S.Source.faults c.make_ready.new.source) ⊥ ⊥ c.loop-source.invariant.rises (λ no. no)
    c.in_err-make_ready.field-0.0 c.from_residual.result c.from_residual.ensures.1 c.in_err-make_ready.ensures.cause
