-- What the words have of each item that is there, between two writes.
use Rattle.std.proofs.Common.{◌≡◌, ℕ, ◌^◌, true, List, Option, Some, None, option_map, refl, sym, ap, subst, ◌∙◌, arith}
use Rattle.std.proofs.lemmas.Option.{same_Some}
use Rattle.std.proofs.lemmas.Bool.{lt-ltb, le-leb}
use Rattle.std.specs.FinMap.{get}
use Rattle.mica_words.specs.Entry.{entry_offset}
use Rattle.mica_words.specs.Header.{header_key_len, header_value_len}
use Rattle.partition_model.specs.Cache.{Record, record_of}
use Rattle.partition_model.specs.Store.{Cell}
use Rattle.partition_model.specs.History.{State, cache_state, store_state, value_in, answer_of}
use Rattle.partition_words.specs.declared.state.OwnerState.{OwnerState}
use Rattle.partition_words.specs.declared.state.Phase.TheVariants.{Idle}
use Rattle.partition_words.specs.Shape.{IsMain}
use Rattle.partition_words.specs.OwnerState.{bucket_in, entry_in, item_in, options_in, state_in}
use Rattle.partition_words.specs.LiveEntry.{HasLiveEntry}
use Rattle.partition_words.specs.Kept.{Kept}
use Rattle.partition_words.specs.StandsFor.{Has, Spells, StandsFor}
use Rattle.partition_words.proofs.Machine.{found_record, same_cell}
use Rattle.partition_words.proofs.Marked.{main_of}
use Rattle.partition_words.proofs.PartitionLaws.{stands_idle}
use Rattle.partition_walk.specs.Listed.{IsItemAt}
use Rattle.partition_walk.specs.PairAt.{key_at, value_at, is_item}
use Rattle.partition_walk.proofs.Bytes.{fits, key_len, value_len, key_is, value_is}

-- what the machine has of a key is its value

has_value : (now : State) (key : List ℕ) (cell : Cell) (p : ℕ) → Has now key cell p → value_in now key ≡ Some cell.value
has_value (cache_state m) key cell p has =
    let found = found_record (record_of m key) cell p has in
    ap (option_map (λ (held : Record). held.value)) found.1 ∙ ap (λ (c : Cell). Some c.value) (sym found.3)
has_value (store_state m) key cell p has = ap (option_map (λ (c : Cell). c.value)) has

value_has : (now : State) (key value : List ℕ) → value_in now key ≡ Some value → (cell : Cell) × (p : ℕ) × Has now key cell p × (cell.value ≡ value)
value_has (cache_state m) key value is = by (record_of m key) refl is
  where
    by : (found : Option Record) → record_of m key ≡ found → option_map (λ (held : Record). held.value) found ≡ Some value → (cell : Cell) × (p : ℕ) × Has (cache_state m) key cell p × (cell.value ≡ value)
    by None at is = absurd cc
    by (Some r) at is = (record { value = r.value; room = r.room }, r.offset, rw at refl, same_Some r.value value is)
value_has (store_state m) key value is = by (get m.cells key) refl is
  where
    by : (found : Option Cell) → get m.cells key ≡ found → option_map (λ (c : Cell). c.value) found ≡ Some value → (cell : Cell) × (p : ℕ) × Has (store_state m) key cell p × (cell.value ≡ value)
    by None at is = absurd cc
    by (Some cell) at is = (cell, 0, at, same_Some cell.value value is)

-- An item that is there, with the key and the cell that it spells.
pub record IsFound (o : OwnerState) (p : ℕ) : Type 0 where
  pub bucket : ℕ
  pub c : ℕ
  pub slot : ℕ
  pub entry : ℕ
  pub main : IsMain o.shape bucket
  pub live : HasLiveEntry o bucket c slot entry
  pub at : entry_offset entry ≡ p
  pub key : List ℕ
  pub cell : Cell
  pub spells : Spells o bucket entry key cell

module _ (o : OwnerState) (s : Kept o) (idle : o.phase ≡ Idle) where
  stands : (b : ℕ) → IsMain o.shape b → StandsFor o b
  stands = stands_idle o s idle

  pub found_at : (p : ℕ) → IsItemAt o p → IsFound o p
  found_at p (b, c, slot, entry, main, live, at) =
      let some = (stands b main).nothing_else c slot entry live in
      record { bucket = b; c = c; slot = slot; entry = entry; main = main; live = live; at = at; key = some.0; cell = some.1; spells = some.2 }

  module _ (p : ℕ) (f : IsFound o p) where
    pub key_found : key_at o p ≡ f.key
    key_found = ap (key_at o) (sym f.at) ∙ key_is o s f.bucket f.entry f.key f.cell f.spells

    pub value_found : value_at o p ≡ f.cell.value
    value_found = ap (value_at o) (sym f.at) ∙ value_is o s f.bucket f.entry f.key f.cell f.spells

    answer_found : answer_of (options_in o) o.history f.key ≡ Some f.cell.value
    answer_found = has_value (state_in o) f.key f.cell (entry_offset f.entry) f.spells.has

    item_found : is_item o p ≡ true
    item_found =
        let fits = fits o s f.bucket f.entry f.key f.cell f.spells in
        let keys = key_len o s f.bucket f.entry f.key f.cell f.spells in
        let values = value_len o s f.bucket f.entry f.key f.cell f.spells in
        let low = lt-ltb (entry_offset f.entry) (2 ^ 48) (omega arith) in
        let some = lt-ltb 0 (header_key_len (item_in o (entry_offset f.entry))) (omega (arith, keys, fits.0)) in
        let short = le-leb (header_value_len (item_in o (entry_offset f.entry))) 1048592 (omega (arith, values, fits.2)) in
        subst (λ (q : ℕ). is_item o q ≡ true) f.at (rw (low, some, short) refl)

  -- what the words have at the offset of an item is what the machine answers
  pub item_answer : (p : ℕ) → IsItemAt o p → answer_of (options_in o) o.history (key_at o p) ≡ Some (value_at o p)
  item_answer p is =
      let f = found_at p is in
      ap (answer_of (options_in o) o.history) (key_found p f) ∙ (answer_found p f ∙ ap (λ (v : List ℕ). Some v) (sym (value_found p f)))

  pub item_fits : (p : ℕ) → IsItemAt o p → is_item o p ≡ true
  item_fits p is = item_found p (found_at p is)

  -- the item of what the machine has
  module _ (key : List ℕ) (cell : Cell) (p : ℕ) (has : Has (state_in o) key cell p) where
    pub entry_of : (x : ℕ) × IsItemAt o (entry_offset x) × Has (state_in o) key cell (entry_offset x) × (key_at o (entry_offset x) ≡ key) × (value_at o (entry_offset x) ≡ cell.value)
    entry_of =
        let b = bucket_in o key in
        let main = main_of o s key in
        let some = (stands b main).each key cell p refl has in
        let x = some.2 in (
          x,
          (b, some.0, some.1, x, main, some.3, refl),
          some.4.has,
          key_is o s b x key cell some.4,
          value_is o s b x key cell some.4,
        )

  pub answer_there : (key value : List ℕ) → answer_of (options_in o) o.history key ≡ Some value → (p : ℕ) × IsItemAt o p × (key_at o p ≡ key)
  answer_there key value is =
      let has = value_has (state_in o) key value is in
      let x = entry_of key has.0 has.1 has.2 in (entry_offset x.0, x.1, x.3)

  -- no key has two items
  one_entry : (b b' c c' slot slot' x x' : ℕ) (key key' : List ℕ) (cell cell' : Cell) → IsMain o.shape b → HasLiveEntry o b c slot x → HasLiveEntry o b' c' slot' x'
      → Spells o b x key cell → Spells o b' x' key' cell' → key ≡ key' → x ≡ x'
  one_entry b b' c c' slot slot' x x' key key' cell cell' main h h' sp sp' same =
      let by_key : Spells o b' x' key cell' = subst (λ (k : List ℕ). Spells o b' x' k cell') (sym same) sp' in
      let bucket : b' ≡ b = sym by_key.bucket ∙ sp.bucket in
      let one : cell' ≡ cell = same_cell (state_in o) key cell' cell (entry_offset x') (entry_offset x) by_key.has sp.has in
      let here : HasLiveEntry o b c' slot' x' = subst (λ (z : ℕ). HasLiveEntry o z c' slot' x') bucket h' in
      let spelt : Spells o b x' key cell = subst (Spells o b x' key) one (subst (λ (z : ℕ). Spells o z x' key cell') bucket by_key) in
      let places = (stands b main).once c slot x c' slot' x' key cell h here sp spelt in
      sym h.found ∙ (ap (λ (z : ℕ). entry_in o z slot) places.0 ∙ (ap (entry_in o c') places.1 ∙ h'.found))

  pub one_item : (p q : ℕ) → IsItemAt o p → IsItemAt o q → key_at o p ≡ key_at o q → p ≡ q
  one_item p q is is' same =
      let f = found_at p is in
      let g = found_at q is' in
      let key : f.key ≡ g.key = sym (key_found p f) ∙ (same ∙ key_found q g) in
      sym f.at ∙ (ap entry_offset (one_entry f.bucket g.bucket f.c g.c f.slot g.slot f.entry g.entry f.key g.key f.cell g.cell f.main f.live g.live f.spells g.spells key) ∙ g.at)
