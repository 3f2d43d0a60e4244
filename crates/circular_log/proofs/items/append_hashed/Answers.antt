use Rattle.std.proofs.Common.{rules}
use Rattle.circular_log.proofs.MarkedItem.{can_store}
use Rattle.circular_log.proofs.items.append_hashed.Goals as goal

pub write_item_hashed-requires-clause-allowed : goal.write_item_hashed-requires-clause-allowed
write_item_hashed-requires-clause-allowed g c = search (rules, can_store)
