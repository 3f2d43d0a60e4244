-- What a pass tells of a queue and its end.
use Rattle.std.specs.Prelude.{ℕ}
use Rattle.atomic_table.specs.Seated.{TableId}
use Rattle.atomic_table.specs.declared.badge.Badge.{Badge}
use Rattle.crossbeam_channel.specs.declared.flavors.array.Key.{Key}
use Rattle.crossbeam_channel.specs.Claims.{Pass, view}
use Rattle.ruled_queue.specs.declared.rule.PassView.{PassView}

-- how many messages may wait in a queue
abbrev pub capacity : ℕ
capacity = 64

-- which queue an end belongs to
abbrev pub Queue : Type 0 → Type 0
Queue T = TableId × Badge (Key T)

module _ {T S : Type 0} where
  -- the queue that a pass is for
  abbrev pub queue_of : Pass T (PassView T S) → Queue T
  queue_of p = (p.table_id, p.me.0.of)

  -- what the holder of a pass knows
  abbrev pub known : Pass T (PassView T S) → PassView T S
  known p = view p
