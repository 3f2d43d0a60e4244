use Rattle.std.proofs.Common.{ap, subst, sym, length, arith}
use Rattle.block_heap.specs.Slots.{AreApart}
use Rattle.block_heap.proofs.ListLaws.{keeps_none, no_slots}
use Rattle.block_heap.proofs.lists.FreeLists.new.Goals as goal

pub invariant_of-result : goal.invariant_of-result
invariant_of-result c = record {
  lists = keeps_none c.args.words c.loop-rank.links.items c.in_ok-filled.filled c.requires (omega (arith, c.loop-rank.invariant.count)) c.in_ok-filled.ensures (λ rank few. c.loop-rank.invariant.rings rank (omega arith));
  slots = record {
    within = omega (arith, c.loop-rank.invariant.count);
    enough = omega (arith, c.loop-rank.invariant.room);
    spare_enough = omega (arith, c.in_ok-spares.ensures.capacity);
    few = omega (arith, c.loop-rank.invariant.count, ap length c.in_ok-spares.ensures.items);
    apart = subst AreApart (sym c.in_ok-spares.ensures.items) tt;
    nodes = λ slot among. absurd (let lt = among.1 in omega (arith, ap length c.in_ok-spares.ensures.items));
    unlisted = λ slot among. absurd (let lt = among.1 in omega (arith, ap length c.in_ok-spares.ensures.items));
  };
}

pub returns-clause-empty : goal.returns-clause-empty
returns-clause-empty c = λ rank few. no_slots c.args.words c.loop-rank.links.items rank few (c.loop-rank.invariant.rings rank (omega arith))

pub returns-clause-count : goal.returns-clause-count
returns-clause-count c = omega (arith, c.loop-rank.invariant.count)
