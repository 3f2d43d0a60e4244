use Rattle.std.proofs.Common.{◌<◌, ◌+◌, ℕ, List, length, take, drop, refl, sym, ap, subst, arith}
use Rattle.std.proofs.lemmas.Option.{slice_get_read}
use Rattle.std.proofs.lemmas.Nat.{pow_pos}
use Rattle.partition_model.specs.declared.write.Write.{Write}
use Rattle.partition_words.specs.declared.state.OwnerState.{OwnerState}
use Rattle.fronts.specs.Flushes.{AreKept}
use Rattle.locked_server.proofs.Fills.{FilledBy, filled_none, filled_more, refuses, taken_more, split_at}
use Rattle.locked_server.proofs.filling.fill.Goals as goal

pub none-flushes-requires : goal.none-flushes-requires
none-flushes-requires g c = subst (λ (n : ℕ). 0 < n) (sym c.requires.valid.buckets.2) (pow_pos c.requires.valid.buckets.0)

pub loop-write-init : goal.loop-write-init
loop-write-init g c = record {
  filled = filled_none c.args.options.now c.args.number (g.P.Partition.owner c.args.part.now) c.requires.made;
  flushes = subst (λ (o : OwnerState). AreKept o.shape.hashing o.shape.buckets o.history c.none-flushes.result) (sym c.requires.made) c.none-flushes.ensures;
}

pub fill_one-requires-clause-hashing : goal.fill_one-requires-clause-hashing
fill_one-requires-clause-hashing g c = ap (λ (o : OwnerState). o.shape.hashing) c.loop-write.invariant.filled.filled.state

pub loop-write-preserved : goal.loop-write-preserved
loop-write-preserved g c =
    let writes = c.args.filling.now in
    let k = c.loop-write.write-index in
    let write = c.write-item.result in
    let at = slice_get_read writes (length writes) k write refl (omega (arith, c.loop-write-test.true)) c.write-item.is in
    record {
      filled = subst (λ (l : List Write). FilledBy c.args.options.now c.args.number l (g.P.Partition.owner c.fill_one.new.part)) (sym (taken_more writes k write at))
          (filled_more c.args.options.now c.args.number (take k writes) write (g.P.Partition.owner c.loop-write.part) (g.P.Partition.owner c.fill_one.new.part) c.loop-write.invariant.filled
          c.if-not-fill_one.ensures.own c.if-not-fill_one.ensures.other);
      flushes = c.fill_one.ensures.flushes;
    }

pub returns-then-not-fill_one-clause-refused : goal.returns-then-not-fill_one-clause-refused
returns-then-not-fill_one-clause-refused g c =
    let writes = c.args.filling.now in
    let k = c.loop-write.write-index in
    let write = c.write-item.result in
    let at = slice_get_read writes (length writes) k write refl (omega (arith, c.loop-write-test.true)) c.write-item.is in
    refuses c.args.options.now c.args.number (take k writes) (drop (k + 1) writes) write writes (g.P.Partition.owner c.loop-write.part) (g.P.Partition.owner c.fill_one.new.part)
    (split_at writes k write at) c.loop-write.invariant.filled c.if-not-fill_one.ensures.own c.if-not-fill_one.ensures.other
