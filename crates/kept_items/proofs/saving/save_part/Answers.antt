use Rattle.std.proofs.Common.{◌∙◌, arith}
use Rattle.std.proofs.lemmas.Result.{on_ok_weaker}
use Rattle.kept_items.proofs.Walked.{so_far_then, so_far_end, none_left}
use Rattle.kept_items.proofs.saving.save_part.Goals as goal

pub loop-more-preserved : goal.loop-more-preserved
loop-more-preserved g c =
    let now = g.K.Sink.taken c.loop-more.sink in
    let next = g.K.Sink.taken c.save_next.new.sink in
    let rest = g.W.Walks.rest c.loop-more.walk in
    let left = g.W.Walks.rest c.save_next.new.walk in
    record {
      same = c.save_next.ensures.same ∙ c.loop-more.invariant.same;
      rises = omega (arith, c.save_next.ensures.never_fall, c.loop-more.invariant.rises);
      so_far = so_far_then c.args.at.now c.args.closing (g.K.Sink.taken c.args.sink.now) now c.args.spiller.now c.loop-more.spiller (g.W.Walks.rest c.args.walk.now) rest c.loop-more.invariant.so_far
          next c.save_next.new.spiller left c.in_ok-more.more c.in_ok-more.ensures.saves;
      none = none_left now next c.loop-more.spiller c.save_next.new.spiller c.args.at.now rest left c.in_ok-more.more c.in_ok-more.ensures.saves;
    }

pub returns-clause-saves : goal.returns-clause-saves
returns-clause-saves g c =
    on_ok_weaker c.close_partition.result
    (so_far_end c.args.at.now c.args.closing (g.K.Sink.taken c.args.sink.now) (g.K.Sink.taken c.loop-more.sink) c.args.spiller.now c.loop-more.spiller (g.W.Walks.rest c.args.walk.now)
    (g.W.Walks.rest c.loop-more.walk) c.loop-more.invariant.so_far (g.K.Sink.taken c.close_partition.new.sink) c.close_partition.new.spiller (c.loop-more.invariant.none c.loop-more-test.false))
    c.close_partition.ensures.saves
