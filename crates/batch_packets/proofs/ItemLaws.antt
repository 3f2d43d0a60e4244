-- Items in a row, whatever their kind: their text has no fault, and gives them back.
use Rattle.std.proofs.Common.{◌≡◌, ℕ, ◌+◌, ◌^◌, ◌<◌, ◌≤◌, Bool, true, false, eqb, List, [], ◌∷◌, ◌++◌, length, drop, Option, Some, None, refl, sym, ap, ◌∙◌, arith}
use Rattle.std.specs.Prelude.{nat_eq, nat_lt, IsTrue, if◌then◌else◌}
use Rattle.std.specs.List.{flat_map, AllByRecursion, starts_with}
use Rattle.std.proofs.lemmas.Bool.{le-ltb, ne_eqb, cond_both}
use Rattle.std.proofs.lemmas.List.{drop_at}
use Rattle.batch_packets.specs.declared.header.TheConstants.{HEADER_LEN, MAX_DATAGRAM_LEN_V1, MAX_DATAGRAM_LEN_V2, MAX_VALUE_LEN_V1}
use Rattle.mica_words.specs.declared.item.TheConstants.{MAX_VALUE_LEN}
use Rattle.batch_packets.specs.declared.fault.BatchFault.{BatchFault}
use Rattle.batch_packets.specs.Datagram.{DatagramKind, is_version, max_datagram_len, max_value_len, item_fault, items_fault, first_fault, version_at, count_at}

-- what the text of an item of a version tells of it, whatever follows
pub record Tells {Item : Type 0} (kind : DatagramKind) (version : ℕ) (text : Item → List ℕ) (value_at : List ℕ → Item) (item : Item) : Type 0 where
  pub no_fault : (rest : List ℕ) → item_fault kind version (text item ++ rest) ≡ None
  pub size : (rest : List ℕ) → kind.size (text item ++ rest) ≡ length (text item)
  pub value : (rest : List ℕ) → value_at (text item ++ rest) ≡ item

pub no_faults : {Item : Type 0} (kind : DatagramKind) (version : ℕ) (text : Item → List ℕ) (value_at : List ℕ → Item) (items : List Item) → AllByRecursion (Tells kind version text value_at) items → items_fault kind version (length items) (flat_map text items) ≡ None
unfolding items_fault
no_faults kind version text value_at [] h = refl
no_faults kind version text value_at (x ∷ xs) h =
    let size = h.0.size (flat_map text xs) in
    let after : drop (kind.size (text x ++ flat_map text xs)) (text x ++ flat_map text xs) ≡ flat_map text xs = drop_at (text x) (flat_map text xs) _ (sym size) in
    rw (h.0.no_fault (flat_map text xs), after) (no_faults kind version text value_at xs h.1)

-- as many items with one text are the same
pub one_list : {Item : Type 0} (kind : DatagramKind) (version : ℕ) (text : Item → List ℕ) (value_at : List ℕ → Item) (xs ys : List Item) → AllByRecursion (Tells kind version text value_at) xs → AllByRecursion (Tells kind version text value_at) ys
    → length xs ≡ length ys → flat_map text xs ≡ flat_map text ys → xs ≡ ys
one_list kind version text value_at [] [] p q len same = refl
one_list kind version text value_at [] (y ∷ ys) p q len same = absurd (omega arith)
one_list kind version text value_at (x ∷ xs) [] p q len same = absurd (omega arith)
one_list kind version text value_at (x ∷ xs) (y ∷ ys) p q len same =
    let head : x ≡ y = sym (p.0.value (flat_map text xs)) ∙ ap value_at same ∙ q.0.value (flat_map text ys) in
    let size : length (text x) ≡ length (text y) = sym (p.0.size (flat_map text xs)) ∙ ap kind.size same ∙ q.0.size (flat_map text ys) in
    let rest : flat_map text xs ≡ flat_map text ys = sym (drop_at (text x) (flat_map text xs) (length (text x)) refl) ∙ ap (drop (length (text x))) same ∙ drop_at (text y) (flat_map text ys) (length (text x)) (sym size) in
    let tail = one_list kind version text value_at xs ys p.1 q.1 (omega arith) rest in
    ap (λ z. z ∷ xs) head ∙ ap (λ zs. y ∷ zs) tail

-- no version has a larger limit than the largest
pub within_largest : (version : ℕ) → max_datagram_len version ≤ MAX_DATAGRAM_LEN_V2
within_largest version = cond_both (eqb version 1) MAX_DATAGRAM_LEN_V1 MAX_DATAGRAM_LEN_V2 (λ n. n ≤ MAX_DATAGRAM_LEN_V2) (λ e. omega arith) (λ e. omega arith)

-- a header fits a datagram of each version
pub header_within : (version : ℕ) → HEADER_LEN ≤ max_datagram_len version
header_within version = cond_both (eqb version 1) MAX_DATAGRAM_LEN_V1 MAX_DATAGRAM_LEN_V2 (λ n. HEADER_LEN ≤ n) (λ e. omega arith) (λ e. omega arith)

-- an item of a value alone fits a datagram of each version
pub value_room : (version : ℕ) → HEADER_LEN + 16 + max_value_len version ≤ max_datagram_len version
value_room version = room (eqb version 1) where
  room : (first : Bool) → HEADER_LEN + 16 + (if first then MAX_VALUE_LEN_V1 else MAX_VALUE_LEN) ≤ (if first then MAX_DATAGRAM_LEN_V1 else MAX_DATAGRAM_LEN_V2)
  room true = omega arith
  room false = omega arith

-- no version has a value whose length needs more than two bytes
pub value_within : (version : ℕ) → max_value_len version < 2 ^ 16
value_within version = cond_both (eqb version 1) MAX_VALUE_LEN_V1 MAX_VALUE_LEN (λ n. n < 2 ^ 16) (λ e. omega arith) (λ e. omega arith)

-- a datagram without a fault in its header or its items has none
pub no_first_fault : (kind : DatagramKind) (bytes : List ℕ) (version count : ℕ) → IsTrue (is_version version) → length bytes ≤ max_datagram_len version → HEADER_LEN ≤ length bytes → starts_with nat_eq bytes kind.magic ≡ true → version_at bytes ≡ version → count_at bytes ≡ count → 0 < count
    → items_fault kind version count (drop HEADER_LEN bytes) ≡ None → first_fault kind bytes ≡ None
unfolding first_fault
no_first_fault kind bytes version count known short long magic version_is count_is some none =
    let a : nat_lt MAX_DATAGRAM_LEN_V2 (length bytes) ≡ false = le-ltb _ _ (omega (arith, within_largest version)) in
    let b : nat_lt (length bytes) HEADER_LEN ≡ false = le-ltb _ _ long in
    let c : nat_lt (max_datagram_len version) (length bytes) ≡ false = le-ltb _ _ short in
    let d : nat_eq count 0 ≡ false = ne_eqb count 0 (λ e. omega arith) in
    rw (a, b, magic, version_is, known, c, count_is, d, none) refl

-- there is no fault where there is none
pub no_fault_is : (first : Option BatchFault) (fault : BatchFault) → first ≡ None → first ≡ Some fault → ⊥
no_fault_is first fault none is = cc
