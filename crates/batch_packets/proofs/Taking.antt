-- Items that are taken from their texts one after another.
use Rattle.std.proofs.Common.{◌≡◌, ℕ, ◌+◌, ◌-◌, ◌<◌, ◌≤◌, List, [], ◌∷◌, ◌++◌, length, drop, None, refl, sym, ap, subst, ◌∙◌, append_assoc, arith, length-append}
use Rattle.std.specs.List.{flat_map}
use Rattle.std.specs.Int.{w32, to_le_bytes}
use Rattle.std.proofs.lemmas.List.{drop_at}
use Rattle.std.proofs.lemmas.List.Elements.{All-cons, All-tail}
use Rattle.batch_packets.specs.declared.header.TheConstants.{MAX_ITEMS}
use Rattle.batch_packets.specs.Datagram.{DatagramKind, FitsDatagram, SpellsItems, header_text, datagram_text, item_fault, max_datagram_len}
use Rattle.batch_packets.proofs.ItemLaws.{Tells}

module _ {Item : Type 0} (text : Item → List ℕ) (is_item : ℕ → Item → Type 0) (is_in_range : Item → Type 0) (version : ℕ) where
  -- the bytes are the texts of so many items
  abbrev pub Remains : ℕ → List ℕ → Type 0
  Remains count bytes = (items : List Item) × (length items ≡ count) × SpellsItems text is_item is_in_range version bytes items

  -- one in front of those that remain behind it
  pub one_remains : (count i : ℕ) (rest after : List ℕ) (item : Item) → i < count → rest ≡ text item ++ after → is_item version item → is_in_range item → Remains (count - (i + 1)) after → Remains (count - i) rest
  one_remains count i rest after item lt is lawful in_range (items, few, spells) = (
    item ∷ items,
    omega (arith, few),
    record {
      texts = is ∙ ap (λ (t : List ℕ). text item ++ t) spells.texts;
      each = All-cons (is_item version) item items lawful spells.each;
      in_range = All-cons is_in_range item items in_range spells.in_range;
    },
  )

  -- items behind a header in a short datagram
  module _ (magic bytes rest : List ℕ) (count number : ℕ) (items : List Item) (whole : bytes ≡ header_text magic version count number ++ rest) (few : length items ≡ count)
      (spells : SpellsItems text is_item is_in_range version rest items) where
    -- the bytes are the text of a datagram of them
    pub is_text : bytes ≡ datagram_text magic text version number items
    is_text = whole ∙ ap (λ (n : ℕ). header_text magic version n number ++ rest) (sym few) ∙ ap (λ (t : List ℕ). header_text magic version (length items) number ++ t) spells.texts

    -- and they fit it
    pub fit : length magic ≡ 4 → 0 < count → count ≤ MAX_ITEMS → length bytes ≤ max_datagram_len version → FitsDatagram text version items
    fit four some most short = record {
      some = omega (arith, few);
      few = omega (arith, few);
      short = omega (arith, short, ap length whole, ap length spells.texts, length-append (header_text magic version count number) rest, length-append magic (version ∷ count ∷ to_le_bytes w32 number), four);
    }

  -- items that each tell of themselves can be taken in one way
  module _ (kind : DatagramKind) (value_at : List ℕ → Item) (tells : (item : Item) → is_item version item → is_in_range item → Tells kind version text value_at item) (bytes : List ℕ) (item : Item) (later : List Item)
      (spells : SpellsItems text is_item is_in_range version bytes (item ∷ later)) where
    first_tells : Tells kind version text value_at item
    first_tells = tells item (spells.each 0 item (omega arith)) (spells.in_range 0 item (omega arith))

    -- the first one has no fault
    pub is_judged : item_fault kind version bytes ≡ None
    is_judged = ap (item_fault kind version) spells.texts ∙ first_tells.no_fault (flat_map text later)

    -- what is taken is the first one, and leaves the others
    pub is_taken : (taken : Item) (after : List ℕ) → is_item version taken → is_in_range taken → bytes ≡ text taken ++ after → (taken ≡ item) × SpellsItems text is_item is_in_range version after later
    is_taken taken after lawful in_range whole =
        let same : text taken ++ after ≡ text item ++ flat_map text later = sym whole ∙ spells.texts in
        let first : taken ≡ item = sym ((tells taken lawful in_range).value after) ∙ ap value_at same ∙ first_tells.value (flat_map text later) in
        let rest : after ≡ flat_map text later = sym (drop_at (text taken) after (length (text item)) (ap (λ (x : Item). length (text x)) first)) ∙ ap (drop (length (text item))) same ∙ drop_at (text item) (flat_map text later) (length (text item)) refl in
        (first, record { texts = rest; each = All-tail (is_item version) item later spells.each; in_range = All-tail is_in_range item later spells.in_range })

-- Items are read into a list. Those that are left make the whole with those that were read.
pub record IsReading {Item : Type 0} (has_left whole : List Item → Type 0) (count done : ℕ) (read : List Item) : Type 0 where
  pub left : List Item
  pub few : length left + done ≡ count
  pub has : has_left left
  pub all : whole (read ++ left)

module _ {Item : Type 0} (has_left whole : List Item → Type 0) (count done : ℕ) (read : List Item) where
  -- before the end one is left
  pub some_left : IsReading has_left whole count done read → done < count → (item : Item) × (later : List Item) × has_left (item ∷ later)
  some_left reading lt = go reading.left reading.few reading.has where
    go : (left : List Item) → length left + done ≡ count → has_left left → (item : Item) × (later : List Item) × has_left (item ∷ later)
    go [] few has = absurd (omega arith)
    go (item ∷ later) few has = (item, later, has)

  -- the one that is taken is read
  pub one_read : (left_after : List Item → Type 0) (taken : Item) → IsReading has_left whole count done read → done < count → ((item : Item) (later : List Item) → has_left (item ∷ later) → (taken ≡ item) × left_after later)
      → IsReading left_after whole count (done + 1) (read ++ taken ∷ [])
  one_read left_after taken reading lt takes = go reading.left reading.few reading.has reading.all where
    go : (left : List Item) → length left + done ≡ count → has_left left → whole (read ++ left) → IsReading left_after whole count (done + 1) (read ++ taken ∷ [])
    go [] few has all = absurd (omega arith)
    go (item ∷ later) few has all =
        let p = takes item later has in
        record {
          left = later;
          few = omega (arith, few);
          has = p.1;
          all = subst whole (sym (append_assoc read (taken ∷ []) later)) (subst (λ (x : Item). whole (read ++ x ∷ later)) (sym p.0) all);
        }
