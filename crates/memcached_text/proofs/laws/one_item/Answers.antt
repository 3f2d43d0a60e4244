use Rattle.memcached_text.proofs.ItemLaws as items
use Rattle.memcached_text.proofs.laws.one_item.Goals as goal

pub returns : goal.returns
returns c = items.one_item
