-- The words of an item that spells a key hold that key, and no other.
use Rattle.partition_words.proofs.Vocabulary.{AreBytes, Cell, HasKey, Kept, List, OwnerState, Spells, SpellsItem, add-zero, ap, arith, entry_offset}
use Rattle.partition_words.proofs.Vocabulary.{hash_word, header_key_len, header_of, header_room, header_word, item_in, length, length-packed, options_in}
use Rattle.partition_words.proofs.Vocabulary.{packed, packed_key_word, same_from_words, slice_index, subst, sym, words_for, ℕ, ◌+◌, ◌<◌, ◌∙◌, ◌≡◌}
use Rattle.std.proofs.lemmas.Grind.{same_number_lists}
use Rattle.std.proofs.lemmas.Grind.{common_steps}
use Rattle.partition_words.proofs.Machine.{has_fits}
use Rattle.mica_words.proofs.Fields.{header_key_len-header_of, header_room-header_of}

-- the first word of an item is its header, which has its room
pub header_there : (o : OwnerState) (p : ℕ) (key : List ℕ) (cell : Cell) → SpellsItem o p key cell
    → item_in o p ≡ header_of cell.room (length key) (length cell.value)
header_there o p key cell item = ap (item_in o) (sym (add-zero p)) ∙ item 0 (omega arith) ∙ header_word o.shape.hashing cell.room key cell.value

pub item_room : (o : OwnerState) (p : ℕ) (key : List ℕ) (cell : Cell) → cell.room < 16777216 → length key < 256 → SpellsItem o p key cell
    → header_room (item_in o p) ≡ cell.room
item_room o p key cell small short item = ap header_room (header_there o p key cell item) ∙ header_room-header_of cell.room (length key) (length cell.value) small short

module _ (o : OwnerState) (s : Kept o) (b entry : ℕ) (key : List ℕ) (cell : Cell) (sp : Spells o b entry key cell) where
  key_len : header_key_len (item_in o (entry_offset entry)) ≡ length key
  key_len =
      let fits = has_fits (options_in o) o.history s.history.writes key cell (entry_offset entry) sp.has in
      grind (arith, common_steps, header_there o (entry_offset entry) key cell sp.item, header_key_len-header_of cell.room (length key) (length cell.value) fits.5 (omega (arith, fits.0)))

  key_word : (i : ℕ) → i < words_for (length key) → item_in o (entry_offset entry + 2 + i) ≡ slice_index (packed key) i
  key_word i l = ap (item_in o) (omega arith) ∙ (sp.item (2 + i) (omega arith) ∙ packed_key_word o.shape.hashing cell.room key cell.value i l)

  pub has_its_key : HasKey o (entry_offset entry) key
  has_its_key = grind (arith, common_steps, key_len, hash_word o.shape.hashing cell.room key cell.value, key_word)

  pub has_no_other : (other : List ℕ) → AreBytes other → HasKey o (entry_offset entry) other → key ≡ other
  has_no_other other bytes h =
      let fits = has_fits (options_in o) o.history s.history.writes key cell (entry_offset entry) sp.has in
      let long : length key ≡ length other = sym key_len ∙ h.len in
      let words : packed key ≡ packed other = same_number_lists (packed key) (packed other)
      (length-packed key ∙ (ap words_for long ∙ sym (length-packed other)))
      (λ i l.
      let below : i < words_for (length key) = omega (arith, length-packed key) in
      sym (key_word i below) ∙ h.words i (subst (λ (z : ℕ). i < words_for z) long below)) in
      same_from_words key other fits.1 bytes long words
