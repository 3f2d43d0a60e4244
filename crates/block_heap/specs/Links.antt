-- Lists of slots, told by links from node to node. The first 1152 nodes are the heads of the lists, and each slot has one of the
-- nodes behind them, which knows a place too.
use Rattle.std.specs.Prelude.{◌≡◌, ◌≢◌, ℕ, zero, suc, ◌+◌, ◌-◌, ◌<◌, nat_lt, if◌then◌else◌, List, [], ◌∷◌, length, slice_index_or}
use Rattle.block_heap.specs.declared.links.Link.{Link}

abbrev pub node_of : ℕ → ℕ
node_of slot = slot + 1152

-- the link of a node
abbrev pub link_of : List Link → ℕ → Link
link_of links node = slice_index_or links node (record { next = 0; prev = 0; place = 0 })

abbrev pub next_of : List Link → ℕ → ℕ
next_of links node = (link_of links node).next

abbrev pub prev_of : List Link → ℕ → ℕ
prev_of links node = (link_of links node).prev

-- the place of a slot
abbrev pub place_of : List Link → ℕ → ℕ
place_of links slot = (link_of links (node_of slot)).place

-- the slots after a node, up to the next head, and so many at most
unfoldable pub slots_after : List Link → ℕ → ℕ → List ℕ
slots_after links zero node = []
slots_after links (suc most) node =
    if nat_lt (next_of links node) 1152 then []
    else (next_of links node - 1152) ∷ slots_after links most (next_of links node)

-- from a node on the links lead over these slots to the end, and back
abbrev pub LeadOver : List Link → ℕ → List ℕ → ℕ → Type 0
LeadOver links node [] end = (next_of links node ≡ end) × (prev_of links end ≡ node)
LeadOver links node (slot ∷ slots) end =
    (next_of links node ≡ node_of slot) × (prev_of links (node_of slot) ≡ node) × (node_of slot < length links)
    × LeadOver links (node_of slot) slots end

-- one node comes after another now, and nothing else has changed
pub record AreJoined (old new : List Link) (node after : ℕ) : Type 0 where
  pub next : next_of new node ≡ after
  pub prev : prev_of new after ≡ node
  pub others_next : (other : ℕ) → other ≢ node → next_of new other ≡ next_of old other
  pub others_prev : (other : ℕ) → other ≢ after → prev_of new other ≡ prev_of old other
  pub places : (slot : ℕ) → place_of new slot ≡ place_of old slot
  pub len : length new ≡ length old
