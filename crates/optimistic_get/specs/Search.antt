-- A search for a key through the entries of a chain.
use Rattle.std.specs.Prelude.{◌≡◌, ◌≢◌, ℕ, ◌+◌, ◌*◌, ◌<◌, ◌≤◌, ◌⊎◌, List, [], ◌∷◌, Contains, Option, Some, None}
use Rattle.mica_words.specs.declared.entry.TheConstants.{SLOTS}
use Rattle.mica_words.specs.Hash.{tag_of}
use Rattle.mica_words.specs.Entry.{entry_tag, entry_offset}
use Rattle.mica_words.specs.Item.{largest_stored_item}
use Rattle.partition_model.specs.declared.options.Mode.TheVariants.{Store}
use Rattle.partition_words.specs.declared.shape.Shape.{Shape}
use Rattle.partition_words.specs.declared.reader.ReaderState.{ReaderState}
use Rattle.partition_words.specs.Layout.{bucket_words, entry_at}
use Rattle.partition_words.specs.Spelt.{Loads, HasLoad, HasEmpty, LinksTo, HasLinks, ShowsOther, ShowsItem, IsEntryOf}
use Rattle.optimistic_get.specs.Loading.{loads_in, GoesOn}

-- What was found of an entry: it has another tag, its item is another key's, or it begins no later than the
-- item that was found first or last.
pub data IsWeighed (shape : Shape) (loads : Loads) (key : List ℕ) (best : Option ℕ) (entry : ℕ) : Type 0 where
  by_tag : entry_tag entry ≢ tag_of shape.hashing key → IsWeighed shape loads key best entry
  by_item : ShowsOther shape loads (entry_offset entry) key → IsWeighed shape loads key best entry
  by_best : (p : ℕ) → best ≡ Some p → entry_offset entry ≤ p → IsWeighed shape loads key best entry

-- the item at this offset, if there is one, is the key's by an entry of these buckets, and holds this value
abbrev pub IsBest : Shape → Loads → List ℕ → List ℕ → Option ℕ → List ℕ → Type 0
IsBest shape loads chain key None value = Unit {0}
IsBest shape loads chain key (Some p) value =
    (entry : ℕ) × IsEntryOf shape loads chain key entry × (entry_offset entry ≡ p)
    × ShowsItem shape loads p key value

-- a later one counts
abbrev pub IsNoWorse : Option ℕ → Option ℕ → Type 0
IsNoWorse None new = Unit {0}
IsNoWorse (Some p) None = ⊥
IsNoWorse (Some p) (Some q) = p ≤ q

-- the slot was loaded, and its entry was weighed
abbrev pub IsSlotWeighed : Shape → Loads → List ℕ → Option ℕ → ℕ → ℕ → Type 0
IsSlotWeighed shape loads key best c slot =
    (entry : ℕ) × HasLoad loads (entry_at shape c slot) entry × IsWeighed shape loads key best entry

-- the slot's entry was weighed, or in store mode an earlier slot of the bucket was found empty
abbrev pub IsSlotSeen : Shape → Loads → List ℕ → Option ℕ → ℕ → ℕ → Type 0
IsSlotSeen shape loads key best c slot = HasEmpty shape loads c slot ⊎ IsSlotWeighed shape loads key best c slot

-- An entry was looked at. The best item of before is the best still, or this entry's is.
pub record Weighs (old : ReaderState) (entry : ℕ) (key : List ℕ) (best : Option ℕ) (value : List ℕ)
    (now : Option ℕ) (now_value : List ℕ) (new : ReaderState) : Type 0 where
  pub on : GoesOn old largest_stored_item new
  pub rises : IsNoWorse best now
  pub found : ((now ≡ best) × (now_value ≡ value))
      ⊎ ((now ≡ Some (entry_offset entry)) × (entry_tag entry ≡ tag_of new.shape.hashing key)
      × ShowsItem new.shape (loads_in new) (entry_offset entry) key now_value)
  pub weighed : IsWeighed new.shape (loads_in new) key now entry

-- The first slots of a bucket were looked at. The best item of before is the best still, or another one of
-- this bucket.
pub record Scans (old : ReaderState) (c count : ℕ) (key : List ℕ) (best : Option ℕ) (value : List ℕ)
    (now : Option ℕ) (now_value : List ℕ) (new : ReaderState) : Type 0 where
  pub on : GoesOn old (count * (1 + largest_stored_item)) new
  pub rises : IsNoWorse best now
  pub found : ((now ≡ best) × (now_value ≡ value)) ⊎ IsBest new.shape (loads_in new) (c ∷ []) key now now_value
  pub slots : (slot : ℕ) → slot < count → IsSlotWeighed new.shape (loads_in new) key now c slot

-- A bucket of store mode was looked at up to the key's item, or up to an empty slot, or whole.
pub record ScansFirst (old : ReaderState) (c : ℕ) (key : List ℕ) (now : Option ℕ) (now_value : List ℕ) (new : ReaderState) : Type 0 where
  pub on : GoesOn old (SLOTS * (1 + largest_stored_item)) new
  pub found : IsBest new.shape (loads_in new) (c ∷ []) key now now_value
  pub slots : now ≡ None → (slot : ℕ) → slot < SLOTS → IsSlotSeen new.shape (loads_in new) key None c slot

-- The whole chain of a bucket was looked at, in store mode up to the key's item.
pub record Searches (old : ReaderState) (b : ℕ) (key : List ℕ) (best : Option ℕ) (value : List ℕ) (new : ReaderState) : Type 0 where
  pub on : GoesOn old ((old.shape.spares + 1) * (bucket_words + SLOTS * largest_stored_item)) new
  pub behind : List ℕ
  pub links : LinksTo new.shape (loads_in new) new.shape.spares b behind
  pub found : IsBest new.shape (loads_in new) (b ∷ behind) key best value
  pub whole : (new.shape.mode ≡ Store → best ≡ None) → HasLinks new.shape (loads_in new) new.shape.spares b behind
      × ((c slot : ℕ) → Contains (b ∷ behind) c → slot < SLOTS
      → IsSlotSeen new.shape (loads_in new) key best c slot)
