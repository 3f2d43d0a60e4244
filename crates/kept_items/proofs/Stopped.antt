-- A stop and a start of a server.
use Rattle.std.proofs.Common.{◌≡◌, ◌≤◌, ◌<◌, ℕ, zero, suc, List, [], ◌∷◌, Some, None, get_or, slice_get, refl, sym, ap, subst, arith}
use Rattle.std.specs.Prelude.{max}
use Rattle.std.proofs.lemmas.Option.{slice_get-get_or, slice_get_within, same_Some}
use Rattle.saved_items.specs.declared.items.Closing.{Closing}
use Rattle.saved_items.specs.Items.{Pair, Entry, Keeps, Closes}
use Rattle.saved_items.proofs.Readings.{one_reading}
use Rattle.saved_items.proofs.Whole.{reads_all}
use Rattle.kept_items.specs.Parts.{Part, with_pair, parts_of}
use Rattle.kept_items.specs.StopAndStart.{next_behind, StopAndStart}
use Rattle.kept_items.proofs.Goes.{goes_on}
use Rattle.kept_items.proofs.Filled.{fills_what_lasts}

-- ---- numbers

next_grows : (entries : List Entry) (n : ℕ) → n ≤ next_behind n entries
next_grows [] n = omega arith
next_grows (Keeps pair ∷ entries) n = next_grows entries n
next_grows (Closes closing ∷ entries) n = omega (arith, next_grows entries (max n closing.next))

-- a pair more in the first part closes no other way
same_closing : (pair : Pair) (parts : List Part) (number : ℕ) (part : Part) → slice_get (with_pair pair parts) number ≡ Some part → (old : Part) × (slice_get parts number ≡ Some old) × (old.closing ≡ part.closing)
same_closing pair [] number part at = absurd (omega (arith, slice_get_within (with_pair pair []) number part at))
same_closing pair (first ∷ parts) zero part at = (first, refl, ap (λ (p : Part). p.closing) (same_Some _ part at))
same_closing pair (first ∷ parts) (suc number) part at = (part, at, refl)

below_next : (entries : List Entry) (n number : ℕ) (part : Part) → slice_get (parts_of entries) number ≡ Some part → part.closing.next ≤ next_behind n entries
below_next [] n number part at = absurd (omega (arith, slice_get_within (parts_of []) number part at))
below_next (Keeps pair ∷ entries) n number part at =
    let old = same_closing pair (parts_of entries) number part at in
    subst (λ (c : Closing). c.next ≤ next_behind n entries) old.2 (below_next entries n number old.0 old.1)
below_next (Closes closing ∷ entries) n zero part at =
    let own : closing ≡ part.closing = ap (λ (p : Part). p.closing) (same_Some _ part at) in
    subst (λ (c : Closing). c.next ≤ next_behind (max n closing.next) entries) own (omega (arith, next_grows entries (max n closing.next)))
below_next (Closes closing ∷ entries) n (suc number) part at = below_next entries (max n closing.next) number part at

-- ---- what goes on

no_part : Part
no_part = record { pairs = []; closing = record { written = 0; next = 0; until = 0 } }

pub stop_and_start : StopAndStart
stop_and_start options options' base base' second start later histories filled file saved head entries first next spelt saves reads fills number within sound key =
    let part = get_or (parts_of saved.entries) number no_part in
    let there : slice_get (parts_of saved.entries) number ≡ Some part = slice_get-get_or (parts_of saved.entries) number no_part (subst (λ (n : ℕ). number < n) (sym saves.count) within) in
    let same = one_reading file saved.head head saved.entries entries None None (reads_all file saved spelt) reads in
    let read : slice_get (parts_of entries) number ≡ Some part = subst (λ (es : List Entry). slice_get (parts_of es) number ≡ Some part) same.1 there in
    let left = saves.parts number part there in
    let above : part.closing.next ≤ base' = omega (arith, below_next entries 0 number part read, fills.above) in
    goes_on options options' base base' second start later (histories number) (filled number) part first next above sound left
    (fills_what_lasts options' start part (filled number) left.once (fills.parts number part read)) key
