-- The pairs of keys that rise: each key has the value that it was given, and no other has one.
use Rattle.std.proofs.Common.{arith}
use Rattle.std.proofs.Common.{rules}
use Rattle.std.proofs.Common.{◌≡◌, ℕ, List, [], ◌∷◌, Option, Some, None, false, cond, is_some, map, refl, sym, subst, filter}
use Rattle.std.specs.List.{AllByRecursion}
use Rattle.std.specs.List.Sorted.{IsStrictlySortedBy}
use Rattle.std.specs.Str.{bytes_eq}
use Rattle.std.specs.Ordering.{nat_cmp}
use Rattle.std.specs.Cmp.Lexicographic.{slice_cmp}
use Rattle.std.proofs.lemmas.Slice.Eq.{bytes_eq-Decides}
use Rattle.std.proofs.lemmas.List.Kept.{IsStrictlySortedBy-filter}
use Rattle.store_image.specs.ImageGrammar.{Pair, key_of, KeysRise}
use Rattle.store_image.specs.PutKeys.{has_key, pairs_by}
use Rattle.store_image.specs.ImageOf.{value_in}

module _ (value_of : List ℕ → Option (List ℕ)) where
  -- a key among them has its value
  pub found : (keys : List (List ℕ)) (key : List ℕ) → value_in (pairs_by value_of keys) key ≡ cond (has_key keys key) (value_of key) None
  found [] key = refl
  found (k ∷ keys) key = grind (arith, value_of k, bytes_eq k key, (bytes_eq-Decides k key).0, found keys key, has_key keys key)

  -- exactly the values, where no other key has one
  pub exactly : (keys : List (List ℕ)) → ((key : List ℕ) → has_key keys key ≡ false → value_of key ≡ None) → (key : List ℕ) → value_in (pairs_by value_of keys) key ≡ value_of key
  exactly keys others key = search (rules, found, has_key, others)

  keys_left : (keys : List (List ℕ)) → map key_of (pairs_by value_of keys) ≡ filter (λ k. is_some (value_of k)) keys
  keys_left [] = refl
  keys_left (k ∷ keys) = grind (arith, value_of k, keys_left keys)

  pub rising : (keys : List (List ℕ)) → IsStrictlySortedBy (slice_cmp nat_cmp) keys → KeysRise (pairs_by value_of keys)
  rising keys rise =
      subst (IsStrictlySortedBy (slice_cmp nat_cmp)) (sym (keys_left keys)) (IsStrictlySortedBy-filter (slice_cmp nat_cmp) (λ k. is_some (value_of k)) keys rise)

  -- what holds of each key and its value holds of the pairs
  pub each_pair : (P : Pair → Type 0) (keys : List (List ℕ)) → AllByRecursion (λ k. (v : List ℕ) → value_of k ≡ Some v → P (record { key = k; value = v })) keys → AllByRecursion P (pairs_by value_of keys)
  each_pair P [] all = tt
  each_pair P (k ∷ keys) all = grind (arith, value_of k, each_pair P keys all.1, all.0)
