-- Keys that rise, one after another.
use Rattle.std.proofs.lemmas.Grind.{common_steps}
use Rattle.std.proofs.Common.{◌≡◌, List, [], ◌∷◌, ℕ, map, true, ap, arith}
use Rattle.std.specs.List.{AllByRecursion}
use Rattle.std.specs.List.Sorted.{IsStrictlySortedBy}
use Rattle.std.specs.declared.cmp.Ordering.{Ordering}
use Rattle.std.specs.declared.cmp.Ordering.TheVariants.{Less}
use Rattle.std.specs.Ordering.{nat_cmp, is_lt}
use Rattle.std.specs.Cmp.Lexicographic.{slice_cmp, nat_list_cmp_total}
use Rattle.store_image.specs.ImageGrammar.{Pair, key_of, IsPair, KeysRise, is_above}

abbrev pub cmp : List ℕ → List ℕ → Ordering
cmp = slice_cmp nat_cmp

abbrev pub AreAbove : List ℕ → List (List ℕ) → Type 0
AreAbove key keys = AllByRecursion (λ k. cmp key k ≡ Less) keys

less : (o : Ordering) → is_lt o ≡ true → o ≡ Less
less o e = grind (arith, common_steps)

pub above_more : (a b : List ℕ) (keys : List (List ℕ)) → cmp a b ≡ Less → AreAbove b keys → AreAbove a keys
above_more a b [] less all = tt
above_more a b (k ∷ keys) less all = (nat_list_cmp_total.trans a b k less all.0, above_more a b keys less all.1)

-- each key is above the one before, the first above this one
abbrev pub RiseAfter : List ℕ → List Pair → Type 0
RiseAfter last [] = Unit {0}
RiseAfter last (pair ∷ pairs) = (is_above last pair.key ≡ true) × RiseAfter pair.key pairs

all_above : (last : List ℕ) (pairs : List Pair) → RiseAfter last pairs → AreAbove last (map key_of pairs)
all_above last [] rise = tt
all_above last (x ∷ pairs) rise =
    grind (arith, less (cmp last x.key) rise.0, (less (cmp last x.key) rise.0), above_more last x.key (map key_of pairs) (less (cmp last x.key) rise.0) (all_above x.key pairs rise.1))

pub keys_rise : (last : List ℕ) (pairs : List Pair) → RiseAfter last pairs → KeysRise pairs
unfolding IsStrictlySortedBy
keys_rise last [] rise = tt
keys_rise last (x ∷ pairs) rise = (all_above x.key pairs rise.1, keys_rise x.key pairs rise.1)

pub rise_after : (last : List ℕ) (pairs : List Pair) → AreAbove last (map key_of pairs) → KeysRise pairs → RiseAfter last pairs
unfolding IsStrictlySortedBy
rise_after last [] above rise = tt
rise_after last (x ∷ pairs) above rise = (ap is_lt above.0, rise_after x.key pairs rise.0 rise.1)

-- no key is empty
pub above_none : (pairs : List Pair) → AllByRecursion IsPair pairs → AreAbove [] (map key_of pairs)
above_none [] all = tt
above_none (x ∷ pairs) all = grind (arith, above_none pairs all.1)
