use Rattle.std.proofs.Common.{◌≡◌, ◌+◌, ◌<◌, ◌≤◌, ◌∷◌, ◌++◌, [], length, sym, ap, ◌∙◌, subst, arith}
use Rattle.std.specs.List.{Contains}
use Rattle.block_heap.specs.declared.links.Link.{Link}
use Rattle.block_heap.specs.Slots.{most_slots}
use Rattle.block_heap.specs.Lists.{list_of, count_of, place_in, IsListed, IsUnlisted}
use Rattle.block_heap.proofs.ListLaws.{Changed, last_node, adds_last, added, head_link}
use Rattle.block_heap.proofs.SlotLaws.{got_unlisted, got_longer, got_within, got_count, got_kept}
use Rattle.block_heap.proofs.lists.FreeLists.add.Goals as goal
use Rattle.block_heap.proofs.lists.FreeLists.add.Goals.{After-slot_for-slot, After-set}

abbrev within : (c : After-slot_for-slot) → length c.slot_for-slot.new.links.items ≤ most_slots c.self.inside.words + 1152
within c = got_within c.self.inside.words c.self.inside.links.items c.slot_for-slot.new.links.items _ c.self.inside.filled c.self.inside.spares.items c.slot_for-slot.new.spares.items _
    c.slot_for-slot.result c.args.place c.self.invariant.lists c.self.invariant.slots c.slot_for-slot.ensures.slot
    (subst (λ v. count_of v < most_slots v.0) (sym c.self.view_is) c.requires.spare)

abbrev unlisted : (c : After-set) → IsUnlisted (list_of (c.self.inside.words, c.self.inside.links.items, c.self.inside.spares.items)) c.slot_for-slot.result
unlisted c = got_unlisted c.self.inside.words c.self.inside.links.items c.slot_for-slot.new.links.items _ c.self.inside.filled c.self.inside.spares.items c.slot_for-slot.new.spares.items _
    c.slot_for-slot.result c.args.place c.self.invariant.lists c.self.invariant.slots c.slot_for-slot.ensures.slot

pub slot_for-slot-requires-clause-limit : goal.slot_for-slot-requires-clause-limit
slot_for-slot-requires-clause-limit c = omega (arith, c.self.invariant.slots.within, c.self.invariant.lists.limit)

pub slot_for-slot-requires-clause-within : goal.slot_for-slot-requires-clause-within
slot_for-slot-requires-clause-within c = c.self.invariant.slots.nodes

pub returns-clause-few : goal.returns-clause-few
returns-clause-few c =
    let within = within (goal.at.returns-clause-few c).After-slot_for-slot in
    omega (arith, c.slot_for-slot.ensures.slot.within, c.self.invariant.lists.limit)

pub slot_for-slot-requires-clause-room : goal.slot_for-slot-requires-clause-room
slot_for-slot-requires-clause-room c = λ none. (let more = subst (λ v. count_of v < most_slots v.0) (sym c.self.view_is) c.requires.spare in omega (arith, c.self.invariant.slots.enough, c.self.invariant.slots.within))

pub join-requires-clause-node : goal.join-requires-clause-node
join-requires-clause-node c =
    let last = ap (λ (l : Link). l.prev) (head_link c.self.inside.words c.self.inside.links.items c.self.inside.filled c.self.invariant.lists c.args.rank c.requires.rank c.index.result.now c.index.ensures) in
    let within = (last_node c.self.inside.words c.self.inside.links.items c.self.inside.filled c.self.invariant.lists c.args.rank c.requires.rank).1 in
    let longer = got_longer c.self.inside.words c.self.inside.links.items c.slot_for-slot.new.links.items _ c.self.inside.filled c.self.inside.spares.items c.slot_for-slot.new.spares.items _
    c.slot_for-slot.result c.args.place c.self.invariant.lists c.self.invariant.slots c.slot_for-slot.ensures.slot in
    omega arith

abbrev now : (c : After-set) → Changed c.self.inside.words c.self.inside.links.items c.join-2.new.links.items c.set.new.self c.args.rank
    (list_of (c.self.inside.words, c.self.inside.links.items, c.self.inside.spares.items) c.args.rank ++ c.slot_for-slot.result ∷ [])
now c =
    let room = subst (λ v. length (list_of v c.args.rank) < v.0) (sym c.self.view_is) c.requires.room in
    let unlisted = unlisted c in
    let got = c.slot_for-slot.ensures.slot in
    added c.self.inside.words c.self.inside.links.items c.self.inside.filled c.self.invariant.lists c.args.rank c.requires.rank c.join-2.new.links.items c.slot_for-slot.result c.set.new.self unlisted room
    (adds_last c.self.inside.words c.self.inside.links.items c.self.inside.filled c.self.invariant.lists c.args.rank c.requires.rank c.slot_for-slot.new.links.items c.join.new.links.items c.join-2.new.links.items c.slot_for-slot.result
    c.index.result.now unlisted got.within (got_longer c.self.inside.words c.self.inside.links.items c.slot_for-slot.new.links.items _ c.self.inside.filled c.self.inside.spares.items c.slot_for-slot.new.spares.items _ c.slot_for-slot.result c.args.place c.self.invariant.lists c.self.invariant.slots c.slot_for-slot.ensures.slot) got.next got.prev c.index.ensures c.join.ensures.joined c.join-2.ensures.joined)
    c.set.ensures.here c.set.ensures.others

pub invariant_of-self : goal.invariant_of-self
invariant_of-self c =
    let at = (goal.at.invariant_of-self c).After-set in
    let now = now at in
    record {
      lists = now.keeps;
      slots = got_kept c.self.inside.words c.self.inside.links.items c.slot_for-slot.new.links.items _ c.self.inside.filled c.self.inside.spares.items c.slot_for-slot.new.spares.items _
          c.slot_for-slot.result c.args.place c.self.invariant.lists c.self.invariant.slots c.slot_for-slot.ensures.slot c.join-2.new.links.items _ _ c.args.rank
          (c.join-2.ensures.joined.len ∙ c.join.ensures.joined.len) (omega (arith, c.slot_for-slot.ensures.capacity, c.join.ensures.capacity, c.join-2.ensures.capacity)) (omega (arith, c.slot_for-slot.ensures.spare_capacity))
          (subst (λ v. count_of v < most_slots v.0) (sym c.self.view_is) c.requires.spare) now.own now.others;
    }

pub returns-clause-added : goal.returns-clause-added
returns-clause-added c = (now (goal.at.returns-clause-added c).After-set).own ∙ ap (λ v. list_of v c.args.rank ++ c.slot_for-slot.result ∷ []) c.self.view_is

pub returns-clause-others : goal.returns-clause-others
returns-clause-others c = λ other less ne. (now (goal.at.returns-clause-others c).After-set).others other less ne ∙ ap (λ v. list_of v other) c.self.view_is

pub returns-clause-count : goal.returns-clause-count
returns-clause-count c =
    let count = got_count c.self.inside.words c.self.inside.links.items c.slot_for-slot.new.links.items _ c.self.inside.filled c.self.inside.spares.items c.slot_for-slot.new.spares.items _
    c.slot_for-slot.result c.args.place c.self.invariant.lists c.self.invariant.slots c.slot_for-slot.ensures.slot in
    omega (arith, c.join-2.ensures.joined.len, c.join.ensures.joined.len, ap count_of c.self.view_is)

pub returns-clause-here : goal.returns-clause-here
returns-clause-here c = c.join-2.ensures.joined.places c.slot_for-slot.result ∙ c.join.ensures.joined.places c.slot_for-slot.result ∙ c.slot_for-slot.ensures.slot.here

pub returns-clause-stay : goal.returns-clause-stay
returns-clause-stay c = λ slot listed.
    let there = subst (λ v. IsListed (list_of v) slot) (sym c.self.view_is) listed in
    let none = unlisted (goal.at.returns-clause-stay c).After-set in
    let ne : slot ≡ c.slot_for-slot.result → ⊥ = λ e. none there.rank there.few (subst (Contains (list_of (c.self.inside.words, c.self.inside.links.items, c.self.inside.spares.items) there.rank)) e there.among) in
    c.join-2.ensures.joined.places slot ∙ c.join.ensures.joined.places slot ∙ c.slot_for-slot.ensures.slot.others slot ne ∙ ap (λ v. place_in v slot) c.self.view_is
