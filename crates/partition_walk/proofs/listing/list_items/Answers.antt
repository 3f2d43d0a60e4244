use Rattle.std.proofs.Common.{eqb}
use Rattle.std.proofs.lemmas.List.Filters.{dedup_is}
use Rattle.partition_walk.proofs.Added.{are_listed}
use Rattle.partition_walk.proofs.listing.list_items.Goals as goal

pub returns-clause-listed : goal.returns-clause-listed
returns-clause-listed g c =
    are_listed (g.W.OwnerWords.owner c.args.words.now) c.list_chains.new.offsets.items c.sort_unstable.new.self.items c.dedup.new.self.items c.in_ok-list_chains.ensures.listed
    c.sort_unstable.ensures.permutation c.sort_unstable.ensures.sorted (dedup_is eqb c.sort_unstable.new.self.items c.dedup.new.self.items c.dedup.ensures.filtered)
