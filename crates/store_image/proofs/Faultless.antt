-- The text of an image has no fault.
use Rattle.std.proofs.Common.{rules}
use Rattle.std.proofs.lemmas.Grind.{common_steps}
use Rattle.std.proofs.Common.{◌≡◌, ℕ, ◌^◌, ◌<◌, true, List, [], ◌∷◌, ◌++◌, length, None, refl, arith, length-append}
use Rattle.std.specs.List.{flat_map, AllByRecursion}
use Rattle.std.proofs.lemmas.Bool.{le-ltb, ne_eqb}
use Rattle.store_image.specs.ImageGrammar.{Pair, IsPair, SpellsImage, header_text, pair_text, image_text, lengths_fault, pairs_fault, first_fault}
use Rattle.store_image.proofs.PairLaws.{key_len_is, value_len_is, length-pair_text, key_is, pair_is, behind}
use Rattle.store_image.proofs.Rising.{RiseAfter, rise_after, above_none}
use Rattle.store_image.proofs.Texts.{good_texts, pair_tested}

pub no_lengths_fault : (x : Pair) (rest : List ℕ) → IsPair x → lengths_fault (pair_text x ++ rest) ≡ None
no_lengths_fault x rest is = search (rules, length-append, length-pair_text, key_len_is, value_len_is, le-ltb, ne_eqb, pair_text)

no_faults : (last : List ℕ) (pairs : List Pair) → AllByRecursion IsPair pairs → RiseAfter last pairs → pairs_fault last (length pairs) (flat_map pair_text pairs) ≡ None
unfolding pairs_fault
no_faults last [] all rise = refl
no_faults last (x ∷ pairs) all rise =
    let rest = flat_map pair_text pairs in
    let none = pair_tested last (pair_text x ++ rest) x true true (no_lengths_fault x rest all.0) (pair_is x rest all.0) (good_texts x.key x.value all.0) rise.0 in
    rw (none, behind x rest all.0, key_is x rest) (no_faults x.key pairs all.1 rise.1)

-- behind a header the faults are those of the pairs
header_passed : (count : ℕ) (rest : List ℕ) → count < 2 ^ 32 → first_fault (header_text count ++ rest) ≡ pairs_fault [] count rest
unfolding first_fault
header_passed count rest few = grind (arith, common_steps)

pub image_has_no_fault : (bytes : List ℕ) (pairs : List Pair) → SpellsImage bytes pairs → first_fault bytes ≡ None
unfolding image_text
image_has_no_fault bytes pairs is = search (rules, header_passed, no_faults, length, flat_map, rise_after, above_none)
