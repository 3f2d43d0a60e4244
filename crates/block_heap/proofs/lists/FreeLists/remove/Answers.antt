use Rattle.std.proofs.Common.{◌+◌, ◌<◌, sym, ap, ◌∙◌, subst, arith}
use Rattle.std.specs.List.{Contains}
use Rattle.block_heap.specs.declared.links.Link.{Link}
use Rattle.block_heap.specs.Lists.{list_of, count_of, place_in}
use Rattle.block_heap.proofs.LinkLaws.{read_link}
use Rattle.block_heap.proofs.ListLaws.{Left, Node, node_there, left}
use Rattle.block_heap.proofs.SlotLaws.{spare_more}
use Rattle.block_heap.proofs.lists.FreeLists.remove.Goals as goal
use Rattle.block_heap.proofs.lists.FreeLists.remove.Goals.{After-self, After-set}

abbrev node : (c : After-self) → Node c.self.inside.words c.self.inside.links.items c.self.inside.filled c.self.invariant.lists c.args.rank c.requires.rank c.args.slot (subst (λ v. Contains (list_of v c.args.rank) c.args.slot) (sym c.self.view_is) c.requires.listed)
node c = node_there c.self.inside.words c.self.inside.links.items c.self.inside.filled c.self.invariant.lists c.args.rank c.requires.rank c.args.slot _

pub index-link-requires : goal.index-link-requires
index-link-requires c = (let within = (node (goal.at.index-link-requires c).After-self).within in omega arith)

pub join-requires-clause-node : goal.join-requires-clause-node
join-requires-clause-node c =
    let at = node (goal.at.join-requires-clause-node c).After-self in
    let prev = ap (λ (l : Link). l.prev) (read_link c.self.inside.links.items (c.args.slot + 1152) c.index-link.result.now at.within c.index-link.ensures) in
    (let within = at.before_within in omega arith)

pub join-requires-clause-after : goal.join-requires-clause-after
join-requires-clause-after c =
    let at = node (goal.at.join-requires-clause-after c).After-self in
    let next = ap (λ (l : Link). l.next) (read_link c.self.inside.links.items (c.args.slot + 1152) c.index-link.result.now at.within c.index-link.ensures) in
    (let within = at.after_within in omega arith)

abbrev now : (c : After-set) → Left c.self.inside.words c.self.inside.links.items c.join.new.links.items c.set.new.self c.args.rank c.args.slot
now c =
    left c.self.inside.words c.self.inside.links.items c.self.inside.filled c.self.invariant.lists c.args.rank c.requires.rank c.args.slot (subst (λ v. Contains (list_of v c.args.rank) c.args.slot) (sym c.self.view_is) c.requires.listed)
    c.join.new.links.items c.index-link.result.now c.index.result.now c.set.new.self c.index-link.ensures c.join.ensures.joined
    c.index.ensures c.set.ensures.here c.set.ensures.others

pub push_reserved-requires : goal.push_reserved-requires
push_reserved-requires c =
    let some = subst (λ v. 0 < count_of v) (sym c.self.view_is) c.requires.some in
    omega (arith, c.self.invariant.slots.few, c.self.invariant.slots.within, c.self.invariant.slots.spare_enough)

pub invariant_of-self : goal.invariant_of-self
invariant_of-self c =
    let now = now (goal.at.invariant_of-self c).After-set in
    record {
      lists = now.all.keeps;
      slots = spare_more c.self.inside.words c.self.inside.links.items c.join.new.links.items _ _ c.self.inside.filled c.self.inside.spares.items c.push_reserved.new.self.items _ _ c.args.rank c.args.slot c.set.new.self
          c.self.invariant.lists c.self.invariant.slots c.requires.rank (subst (λ v. Contains (list_of v c.args.rank) c.args.slot) (sym c.self.view_is) c.requires.listed) now c.join.ensures.joined.len c.push_reserved.ensures.items
          (omega (arith, c.join.ensures.capacity)) (omega (arith, c.push_reserved.ensures.capacity)) (subst (λ v. 0 < count_of v) (sym c.self.view_is) c.requires.some);
    }

pub returns-clause-removed : goal.returns-clause-removed
returns-clause-removed c =
    let without = (now (goal.at.returns-clause-removed c).After-set).without in
    record { before = without.before; after = without.after; was = ap (λ v. list_of v c.args.rank) (sym c.self.view_is) ∙ without.was; now = without.now }

pub returns-clause-others : goal.returns-clause-others
returns-clause-others c = λ other less ne. (now (goal.at.returns-clause-others c).After-set).all.others other less ne ∙ ap (λ v. list_of v other) c.self.view_is

pub returns-clause-count : goal.returns-clause-count
returns-clause-count c =
    let some = subst (λ v. 0 < count_of v) (sym c.self.view_is) c.requires.some in
    omega (arith, c.join.ensures.joined.len, c.push_reserved.ensures.len, ap count_of c.self.view_is)

pub returns-clause-stay : goal.returns-clause-stay
returns-clause-stay c = λ other. c.join.ensures.joined.places other ∙ ap (λ v. place_in v other) c.self.view_is
