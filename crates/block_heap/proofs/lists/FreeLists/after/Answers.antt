use Rattle.std.proofs.Common.{◌≡◌, sym, subst, arith}
use Rattle.std.specs.List.{Contains}
use Rattle.block_heap.specs.Links.{node_of}
use Rattle.block_heap.specs.Lists.{list_of, left_from}
use Rattle.block_heap.proofs.ListLaws.{node_there, next_slot}
use Rattle.block_heap.proofs.lists.FreeLists.after.Goals as goal

pub index-requires : goal.index-requires
index-requires c =
    let listed = subst (λ v. Contains (list_of v c.requires.rank) c.args.slot) (sym c.self.view_is) c.requires.among in
    let within = (node_there c.self.inside.words c.self.inside.links.items c.self.inside.filled c.self.invariant.lists c.requires.rank c.requires.few c.args.slot listed).within in
    omega arith

pub returns : goal.returns
returns c =
    let listed = subst (λ v. Contains (list_of v c.requires.rank) c.args.slot) (sym c.self.view_is) c.requires.among in
    subst (λ v. left_from (list_of v) c.checked_sub.result ≡ list_of v (node_of c.args.slot)) c.self.view_is
    (next_slot c.self.inside.words c.self.inside.links.items c.self.inside.filled c.self.invariant.lists c.requires.rank c.requires.few c.args.slot listed c.index.result.now c.checked_sub.result c.index.ensures c.checked_sub.ensures)
