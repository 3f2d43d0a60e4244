-- What the loads of a try spell.
use Rattle.std.specs.Prelude.{◌≡◌, ◌≢◌, ℕ, zero, suc, ◌+◌, ◌<◌, ◌⊎◌, List, [], ◌∷◌, length, Contains, slice_index, Option, Some, None}
use Rattle.mica_words.specs.declared.item.TheConstants.{MAX_STORED_LEN}
use Rattle.mica_words.specs.declared.entry.TheConstants.{SLOTS}
use Rattle.mica_words.specs.Hash.{hash_of, tag_of}
use Rattle.mica_words.specs.Entry.{entry_tag, entry_offset}
use Rattle.mica_words.specs.Header.{header_key_len, header_value_len}
use Rattle.mica_words.specs.Item.{words_for}
use Rattle.mica_words.specs.Packing.{packed, unpacked}
use Rattle.partition_model.specs.declared.options.Mode.TheVariants.{Store}
use Rattle.partition_words.specs.declared.shape.Shape.{Shape}
use Rattle.partition_words.specs.Layout.{entry_at, link_at, item_at}
use Rattle.partition_words.specs.LiveEntry.{IsLive}
use Rattle.partition_words.specs.StandsFor.{IsOffset}

-- places of words, each with what was found there
abbrev pub Loads : Type 0
Loads = List (ℕ × ℕ)

-- this word was loaded from the place
abbrev pub HasLoad : Loads → ℕ → ℕ → Type 0
HasLoad loads place x = Contains loads (place, x)

-- one of the first n slots of the bucket was found empty, in store mode, where chains are dense
abbrev pub HasEmpty : Shape → Loads → ℕ → ℕ → Type 0
HasEmpty shape loads b n = (shape.mode ≡ Store) × (slot : ℕ) × (slot < n) × HasLoad loads (entry_at shape b slot) 0

-- the buckets cs stand behind b, one after another, by links that were loaded, no more than so many
abbrev pub LinksTo : Shape → Loads → ℕ → ℕ → List ℕ → Type 0
LinksTo shape loads left b [] = Unit {0}
LinksTo shape loads zero b (c ∷ cs) = ⊥
LinksTo shape loads (suc left) b (c ∷ cs) =
    (c ≢ 0) × HasLoad loads (link_at shape b) c × LinksTo shape loads left c cs

-- The links lead from a bucket to these, up to one without a link, or to as many as there are spares.
abbrev pub HasLinks : Shape → Loads → ℕ → ℕ → List ℕ → Type 0
HasLinks shape loads zero b [] = Unit {0}
HasLinks shape loads zero b (c ∷ cs) = ⊥
HasLinks shape loads (suc left) b [] = HasLoad loads (link_at shape b) 0
HasLinks shape loads (suc left) b (c ∷ cs) =
    (c ≢ 0) × HasLoad loads (link_at shape b) c × HasLinks shape loads left c cs

-- a word of the item at the offset shows that it is no item of this key, or the offset is out of range
pub data ShowsOther (shape : Shape) (loads : Loads) (p : ℕ) (key : List ℕ) : Type 0 where
  by_offset : ¬ (IsOffset shape.mode shape.words p) → ShowsOther shape loads p key
  by_key_len : (x : ℕ) → HasLoad loads (item_at shape p) x → header_key_len x ≢ length key
      → ShowsOther shape loads p key
  by_value_len : (x : ℕ) → HasLoad loads (item_at shape p) x → MAX_STORED_LEN < header_value_len x
      → ShowsOther shape loads p key
  by_hash : (x : ℕ) → HasLoad loads (item_at shape (p + 1)) x → x ≢ hash_of shape.hashing key
      → ShowsOther shape loads p key
  by_key_word : (i x : ℕ) → i < words_for (length key) → HasLoad loads (item_at shape (p + 2 + i)) x
      → x ≢ slice_index (packed key) i → ShowsOther shape loads p key

-- the words of the item at the offset show that it is this key's, and hold this value
pub record ShowsItem (shape : Shape) (loads : Loads) (p : ℕ) (key value : List ℕ) : Type 0 where
  pub header : ℕ
  pub header_load : HasLoad loads (item_at shape p) header
  pub key_len : header_key_len header ≡ length key
  pub value_len : header_value_len header ≡ length value
  pub hash : HasLoad loads (item_at shape (p + 1)) (hash_of shape.hashing key)
  pub key_words : (i : ℕ) → i < words_for (length key)
      → HasLoad loads (item_at shape (p + 2 + i)) (slice_index (packed key) i)
  pub words : List ℕ
  pub words_len : length words ≡ words_for (length value)
  pub value_words : (i : ℕ) → i < length words
      → HasLoad loads (item_at shape (p + 2 + words_for (length key) + i)) (slice_index words i)
  pub held : unpacked (length value) words ≡ value

-- A slot of these buckets has the entry, of the key's tag.
pub record IsEntryOf (shape : Shape) (loads : Loads) (chain key : List ℕ) (entry : ℕ) : Type 0 where
  pub bucket : ℕ
  pub slot : ℕ
  pub in_chain : Contains chain bucket
  pub in_bucket : slot < SLOTS
  pub load : HasLoad loads (entry_at shape bucket slot) entry
  pub tag : entry_tag entry ≡ tag_of shape.hashing key

-- an entry that is not the key's: it has another tag, is not live by the stamp, or names another's item
pub data IsNoEntryOf (shape : Shape) (loads : Loads) (stamp : ℕ) (key : List ℕ) (entry : ℕ) : Type 0 where
  by_tag : entry_tag entry ≢ tag_of shape.hashing key → IsNoEntryOf shape loads stamp key entry
  by_stamp : ¬ (IsLive shape stamp entry) → IsNoEntryOf shape loads stamp key entry
  by_item : ShowsOther shape loads (entry_offset entry) key → IsNoEntryOf shape loads stamp key entry

-- A miss: the links of the whole chain were loaded, and each slot, which had no entry of the key, but for those behind
-- an empty one.
pub record SpellsMiss (shape : Shape) (loads : Loads) (stamp b : ℕ) (key : List ℕ) : Type 0 where
  pub behind : List ℕ
  pub links : HasLinks shape loads shape.spares b behind
  pub slots : (c slot : ℕ) → Contains (b ∷ behind) c → slot < SLOTS
      → HasEmpty shape loads c slot
      ⊎ ((entry : ℕ) × HasLoad loads (entry_at shape c slot) entry × IsNoEntryOf shape loads stamp key entry)

-- A hit: some slot of the chain had an entry of the key, live by the stamp, whose item holds the value.
pub record SpellsHit (shape : Shape) (loads : Loads) (stamp b : ℕ) (key value : List ℕ) : Type 0 where
  pub behind : List ℕ
  pub links : LinksTo shape loads shape.spares b behind
  pub entry : ℕ
  pub of_key : IsEntryOf shape loads (b ∷ behind) key entry
  pub live : IsLive shape stamp entry
  pub item : ShowsItem shape loads (entry_offset entry) key value

-- by the stamp the loads tell the key's value, or that it has none
abbrev pub SpellsAnswer : Shape → Loads → ℕ → ℕ → List ℕ → Option (List ℕ) → Type 0
SpellsAnswer shape loads stamp b key None = SpellsMiss shape loads stamp b key
SpellsAnswer shape loads stamp b key (Some value) = SpellsHit shape loads stamp b key value
