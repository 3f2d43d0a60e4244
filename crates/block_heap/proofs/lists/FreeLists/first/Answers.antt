use Rattle.std.proofs.Common.{◌≡◌, subst}
use Rattle.block_heap.specs.Lists.{list_of, left_from}
use Rattle.block_heap.proofs.ListLaws.{first_slot}
use Rattle.block_heap.proofs.lists.FreeLists.first.Goals as goal

pub returns : goal.returns
returns c = subst (λ v. left_from (list_of v) c.checked_sub.result ≡ list_of v c.args.rank) c.self.view_is
    (first_slot c.self.inside.words c.self.inside.links.items c.self.inside.filled c.self.invariant.lists c.args.rank c.requires c.index.result.now c.checked_sub.result c.index.ensures c.checked_sub.ensures)
