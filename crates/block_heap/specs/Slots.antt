-- Slots of free blocks: each has a node, and those that are in no list are spare.
use Rattle.std.specs.Prelude.{◌≡◌, ◌≢◌, ◌⊎◌, ℕ, ◌+◌, ◌/◌, ◌<◌, List, [], ◌∷◌, ◌++◌, length, Contains}
use Rattle.block_heap.specs.declared.links.Link.{Link}
use Rattle.block_heap.specs.Links.{node_of, link_of, next_of, prev_of, place_of}

-- a node knows the place now, and nothing else has changed
pub record IsPlaced (old new : List Link) (node place : ℕ) : Type 0 where
  pub next : (other : ℕ) → next_of new other ≡ next_of old other
  pub prev : (other : ℕ) → prev_of new other ≡ prev_of old other
  pub here : (link_of new node).place ≡ place
  pub others : (other : ℕ) → other ≢ node → (link_of new other).place ≡ (link_of old other).place
  pub len : length new ≡ length old

-- how many slots a heap of so many words has: no two of its free blocks touch
abbrev pub most_slots : ℕ → ℕ
most_slots words = (words + 1) / 2

-- the last spare slot is taken
pub record IsReused (old new : List Link) (old_spares spares : List ℕ) (slot : ℕ) : Type 0 where
  pub was : old_spares ≡ spares ++ slot ∷ []
  pub len : length new ≡ length old

-- there is no spare slot, and one more has a node
pub record IsNew (old new : List Link) (old_spares spares : List ℕ) (slot : ℕ) : Type 0 where
  pub were_none : old_spares ≡ []
  pub none : spares ≡ []
  pub here : node_of slot ≡ length old
  pub len : length new ≡ length old + 1

-- a slot has the place now, and no list has changed
pub record IsSlotFor (old new : List Link) (old_spares spares : List ℕ) (slot place : ℕ) : Type 0 where
  pub within : node_of slot < length new
  pub next : (node : ℕ) → next_of new node ≡ next_of old node
  pub prev : (node : ℕ) → prev_of new node ≡ prev_of old node
  pub here : place_of new slot ≡ place
  pub others : (other : ℕ) → other ≢ slot → place_of new other ≡ place_of old other
  pub from : IsReused old new old_spares spares slot ⊎ IsNew old new old_spares spares slot

-- no number stands twice
abbrev pub AreApart : List ℕ → Type 0
AreApart [] = Unit {0}
AreApart (x ∷ xs) = (¬ (Contains xs x)) × AreApart xs
