use Rattle.std.proofs.Common.{rules}
use Rattle.partition_words.proofs.DiaryKeeps.{happens_at}
use Rattle.partition_words.proofs.Inside.{event_inside}
use Rattle.partition_words.proofs.plain.happen.Goals as goal

pub store-requires : goal.store-requires
store-requires g c = (search rules, search rules, happens_at _ _ c.args.seat.now.me _ 0 0 c.requires.allowed)

pub returns-clause-inside : goal.returns-clause-inside
returns-clause-inside g c = event_inside c.args.seat.now.me.0.owner c.store.ensures.2.1 _ c.requires.allowed
