-- The first fault, as a walk over the items meets it.
use Rattle.std.proofs.Common.{◌≡◌, ℕ, suc, ◌+◌, ◌-◌, ◌<◌, ◌≤◌, true, nat_lt, List, length, drop, Option, Some, None, refl, sym, ap, ◌∙◌, arith}
use Rattle.std.proofs.lemmas.Bool.{lt-ltb}
use Rattle.std.proofs.lemmas.List.{drop-drop}
use Rattle.batch_packets.specs.declared.fault.BatchFault.{BatchFault}
use Rattle.batch_packets.specs.declared.fault.BatchFault.TheVariants.{Trailing}
use Rattle.batch_packets.specs.Datagram.{DatagramKind, item_fault, items_fault}

-- an item without a fault leaves the faults of those after it
pub goes_on : (kind : DatagramKind) (version count i : ℕ) (rest after : List ℕ) (first : Option BatchFault) → i < count → item_fault kind version rest ≡ None → drop (kind.size rest) rest ≡ after
    → first ≡ items_fault kind version (count - i) rest → first ≡ items_fault kind version (count - (i + 1)) after
unfolding items_fault
goes_on kind version count i rest after first lt none dropped so_far =
    let k : count - i ≡ suc (count - (i + 1)) = omega arith in
    so_far ∙ rw (k, none, dropped) refl

-- the first item's fault is the first of all
pub ends : (kind : DatagramKind) (version count i : ℕ) (rest : List ℕ) (first : Option BatchFault) (fault : BatchFault) → i < count → item_fault kind version rest ≡ Some fault
    → first ≡ items_fault kind version (count - i) rest → first ≡ Some fault
unfolding items_fault
ends kind version count i rest first fault lt is so_far =
    let k : count - i ≡ suc (count - (i + 1)) = omega arith in
    so_far ∙ rw (k, is) refl

-- after the last item more bytes are a fault
pub trails : (kind : DatagramKind) (version count i : ℕ) (rest : List ℕ) (first : Option BatchFault) → count ≤ i → ¬ (length rest ≡ 0) → first ≡ items_fault kind version (count - i) rest → first ≡ Some Trailing
unfolding items_fault
trails kind version count i rest first le some so_far =
    let k : count - i ≡ 0 = omega arith in
    let test : nat_lt 0 (length rest) ≡ true = lt-ltb 0 (length rest) (omega arith) in
    so_far ∙ rw (k, test) refl

-- after the last item no bytes are none
pub is_done : (kind : DatagramKind) (version count i : ℕ) (rest : List ℕ) (first : Option BatchFault) → count ≤ i → length rest ≡ 0 → first ≡ items_fault kind version (count - i) rest → first ≡ None
unfolding items_fault
is_done kind version count i rest first le none so_far =
    let k : count - i ≡ 0 = omega arith in
    so_far ∙ rw (k, none) refl

-- what is left after a fixed part, a key and a value
pub after_two : (fixed : ℕ) (from : List ℕ) (key value size : ℕ) (after_key rest : List ℕ) → size ≡ fixed + key + value → after_key ≡ drop key (drop fixed from) → rest ≡ drop value after_key → drop size from ≡ rest
after_two fixed from key value size after_key rest is one two =
    let total : fixed + (key + value) ≡ size = omega arith in
    sym (two ∙ ap (drop value) one ∙ drop-drop value key (drop fixed from) ∙ drop-drop (key + value) fixed from ∙ ap (λ (n : ℕ). drop n from) total)

-- what is left after a fixed part and a value
pub after_one : (fixed : ℕ) (from : List ℕ) (value size : ℕ) (rest : List ℕ) → size ≡ fixed + value → rest ≡ drop value (drop fixed from) → drop size from ≡ rest
after_one fixed from value size rest is one =
    let total : fixed + value ≡ size = omega arith in
    sym (one ∙ drop-drop value fixed from ∙ ap (λ (n : ℕ). drop n from) total)
