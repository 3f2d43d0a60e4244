use Rattle.std.proofs.Common.{◌∙◌, sym, ap, subst, arith}
use Rattle.std.specs.List.{Contains}
use Rattle.block_heap.specs.declared.links.Link.{Link}
use Rattle.block_heap.specs.Links.{node_of}
use Rattle.block_heap.specs.Lists.{list_of, place_in}
use Rattle.block_heap.proofs.LinkLaws.{read_link}
use Rattle.block_heap.proofs.SlotLaws.{listed_node}
use Rattle.block_heap.proofs.lists.FreeLists.place.Goals as goal

pub index-requires : goal.index-requires
index-requires c =
    let within = listed_node c.self.inside.words c.self.inside.links.items c.self.inside.filled c.requires.rank c.args.slot c.self.invariant.lists c.requires.few
    (subst (λ v. Contains (list_of v c.requires.rank) c.args.slot) (sym c.self.view_is) c.requires.among) in
    omega arith

pub returns : goal.returns
returns c =
    let within = listed_node c.self.inside.words c.self.inside.links.items c.self.inside.filled c.requires.rank c.args.slot c.self.invariant.lists c.requires.few
    (subst (λ v. Contains (list_of v c.requires.rank) c.args.slot) (sym c.self.view_is) c.requires.among) in
    ap (λ (l : Link). l.place) (read_link c.self.inside.links.items (node_of c.args.slot) c.index.result.now within c.index.ensures) ∙ ap (λ v. place_in v c.args.slot) c.self.view_is
