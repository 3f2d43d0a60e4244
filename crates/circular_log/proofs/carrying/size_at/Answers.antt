use Rattle.std.proofs.Common.{rules}
use Rattle.circular_log.proofs.LoadedValue.{key_len_is, value_len_is}
use Rattle.circular_log.proofs.carrying.size_at.Goals as goal

pub item_size-requires-clause-key : goal.item_size-requires-clause-key
item_size-requires-clause-key g c = search (rules, key_len_is)

pub item_size-requires-clause-value : goal.item_size-requires-clause-value
item_size-requires-clause-value g c = search (rules, value_len_is)

pub returns-clause-size : goal.returns-clause-size
returns-clause-size g c key cell item = search (rules, key_len_is, value_len_is)
