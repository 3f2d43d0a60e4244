use Rattle.std.proofs.Common.{◌≡◌, ◌≤◌, ◌+◌, ◌*◌, ◌++◌, length}
use Rattle.memcached_stats.specs.Figures.{wear_in}
use Rattle.memcached_stats.specs.Stats.{wear_text}
use Rattle.memcached_stats.proofs.lines.put_wears.Given as goal

abbrev pub invariant-loop-partition : goal.invariant-loop-partition
invariant-loop-partition l = record {
  text : l.out.items ≡ l.initial.out.items ++ wear_text l.style 0 l.partition (wear_in l.fn.wears);
  short : length l.out.items ≤ length l.initial.out.items + 176 * l.partition;
}
