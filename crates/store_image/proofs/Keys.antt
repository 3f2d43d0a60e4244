-- Keys, sorted and each once.
use Rattle.std.proofs.lemmas.Grind.{common_steps}
use Rattle.std.proofs.Common.{◌≡◌, ℕ, zero, suc, ◌+◌, ◌<◌, ◌≤◌, Bool, true, false, cond, List, [], ◌∷◌, ◌++◌, length, map, take, get_or, Some, None, refl, sym, ap, subst, arith}
use Rattle.std.specs.Prelude.{◌||◌}
use Rattle.std.specs.List.{AllByRecursion, cons_option, list_any, dedup, dedup_from}
use Rattle.std.specs.List.Sorted.{IsSorted, IsStrictlySortedBy, IsPermutation}
use Rattle.std.specs.List.Retain.{DiffersFromLast, IsFiltered}
use Rattle.std.specs.Cmp.{IsTotalOrder}
use Rattle.std.specs.declared.cmp.Ordering.{Ordering}
use Rattle.std.specs.declared.cmp.Ordering.TheVariants.{Less}
use Rattle.std.specs.Ordering.{nat_cmp}
use Rattle.std.specs.Str.{bytes_eq}
use Rattle.std.specs.Cmp.Lexicographic.{slice_cmp, nat_list_cmp_total}
use Rattle.std.proofs.lemmas.List.{take_more}
use Rattle.std.proofs.lemmas.List.Elements.{filter_map-append}
use Rattle.std.proofs.lemmas.List.Filters.{dedup_is}
use Rattle.std.proofs.lemmas.List.Kept.{IsStrictlySortedBy-dedup}
use Rattle.std.proofs.lemmas.List.Sorted.{list_any-IsPermutation}
use Rattle.std.proofs.lemmas.Map.Text.{is_eq-slice_cmp}
use Rattle.std.proofs.lemmas.Slice.Eq.{bytes_eq-Decides}
use Rattle.mica_trace.specs.declared.line.TraceOp.{TraceOp}
use Rattle.mica_trace.specs.declared.line.TraceLine.{TraceLine}
use Rattle.mica_trace.specs.TraceGrammar.{IsKey, IsTraceLine, HasFields}
use Rattle.store_image.specs.PutKeys.{gives_value, key_by, put_key, put_keys, has_key}

module _ {X : Type 0} (text : X → List ℕ) where
  abbrev cmp : X → X → Ordering
  cmp x y = slice_cmp nat_cmp (text x) (text y)

  abbrev same : X → X → Bool
  same x y = bytes_eq (text x) (text y)

  total : IsTotalOrder cmp
  total = grind (arith, nat_list_cmp_total.antisymm, nat_list_cmp_total.trans, nat_list_cmp_total.congr)

  below : (x : X) (xs : List X) → AllByRecursion (λ y. cmp x y ≡ Less) xs → AllByRecursion (λ k. slice_cmp nat_cmp (text x) k ≡ Less) (map text xs)
  below x [] all = tt
  below x (y ∷ xs) all = (all.0, below x xs all.1)

  texts_rise : (xs : List X) → IsStrictlySortedBy cmp xs → IsStrictlySortedBy (slice_cmp nat_cmp) (map text xs)
  unfolding IsStrictlySortedBy
  texts_rise [] rise = tt
  texts_rise (x ∷ xs) rise = (below x xs rise.0, texts_rise xs rise.1)

  pub sorted_texts : (xs ys : List X) → IsSorted cmp xs → IsFiltered (DiffersFromLast same) [] xs ys → IsStrictlySortedBy (slice_cmp nat_cmp) (map text ys)
  sorted_texts xs ys sorted left =
      texts_rise ys (subst (IsStrictlySortedBy cmp) (sym (dedup_is same xs ys left)) (IsStrictlySortedBy-dedup total (λ x y. sym (is_eq-slice_cmp (text x) (text y))) xs sorted))

  any_map : (p : List ℕ → Bool) (xs : List X) → list_any p (map text xs) ≡ list_any (λ x. p (text x)) xs
  any_map p [] = refl
  any_map p (x ∷ xs) = ap (λ b. p (text x) || b) (any_map p xs)

  twice : (a b c : Bool) → a ≡ b → (b || c) ≡ (b || (a || c))
  twice a b c e = grind (arith, e)

  any_from : (key : List ℕ) (k : X) (xs : List X) → has_key (map text (dedup_from same k xs)) key ≡ (bytes_eq (text k) key || has_key (map text xs) key)
  any_from key k [] = refl
  any_from key k (x ∷ xs) =
      grind (arith, same x k, (bytes_eq-Decides (text x) (text k)).0, any_from key k xs, twice (bytes_eq (text x) key) (bytes_eq (text k) key) (has_key (map text xs) key), any_from key x xs)

  any_dedup : (key : List ℕ) (xs : List X) → has_key (map text (dedup same xs)) key ≡ has_key (map text xs) key
  any_dedup key xs = grind (arith, any_from key)

  pub same_keys : (xs sorted ys : List X) (key : List ℕ) → IsPermutation xs sorted → IsFiltered (DiffersFromLast same) [] sorted ys → has_key (map text ys) key ≡ has_key (map text xs) key
  same_keys xs sorted ys key moved left =
      grind (arith, has_key, dedup_is same sorted ys left, any_dedup key sorted, any_map (λ t. bytes_eq t key) sorted, list_any-IsPermutation (λ x. bytes_eq (text x) key) xs sorted moved, any_map (λ t. bytes_eq t key) xs)

-- the keys of one line more
pub keys_more : (lines : List TraceLine) (i : ℕ) (line : TraceLine) → i < length lines → line ≡ get_or lines i line → put_keys (take (i + 1) lines) ≡ put_keys (take i lines) ++ cons_option (put_key line) []
keys_more lines i line less is = grind (arith, take_more lines i line less, is, filter_map-append put_key (take i lines) (line ∷ []))

pub no_key : (op : TraceOp) (key : List ℕ) → gives_value op ≡ false → key_by op key ≡ None
no_key op key none = ap (λ b. cond b (Some key) None) none

pub own_key_of : (op : TraceOp) (key : List ℕ) → gives_value op ≡ true → key_by op key ≡ Some key
own_key_of op key gives = ap (λ b. cond b (Some key) None) gives

-- what has the key is among the keys that pass
key_in : (P : List ℕ → Type 0) (keys : List (List ℕ)) (key : List ℕ) → AllByRecursion P keys → has_key keys key ≡ true → P key
key_in P [] key all has = absurd (cc)
key_in P (k ∷ keys) key all has = grind (arith, bytes_eq k key, P, (bytes_eq-Decides k key).0, all.0, key_in P keys key all.1)

own_key : (k : List ℕ) (keys : List (List ℕ)) → has_key (k ∷ keys) k ≡ true
own_key k keys = ap (λ b. b || has_key keys k) ((bytes_eq-Decides k k).1 refl)

later_key : (k key : List ℕ) (keys : List (List ℕ)) → has_key keys key ≡ true → has_key (k ∷ keys) key ≡ true
later_key k key keys has = elim (bytes_eq k key) as (λ b. (b || has_key keys key) ≡ true) [ true ↦ refl | false ↦ has ]

-- keys that are all among others have what all of these have
pub all_among : (P : List ℕ → Type 0) (keys others : List (List ℕ)) → ((key : List ℕ) → has_key keys key ≡ true → has_key others key ≡ true) → AllByRecursion P others → AllByRecursion P keys
all_among P [] others among all = tt
all_among P (k ∷ keys) others among all =
    (key_in P others k all (among k (own_key k keys)), all_among P keys others (λ key has. among key (later_key k key keys has)) all)

fields_key : (op : TraceOp) (key value : List ℕ) (keys : List (List ℕ)) → HasFields op key value → AllByRecursion IsKey keys → AllByRecursion IsKey (cons_option (key_by op key) keys)
fields_key op key value keys fields all = grind (arith, common_steps)

-- the keys of a trace are keys
pub put_keys_are : (lines : List TraceLine) → AllByRecursion IsTraceLine lines → AllByRecursion IsKey (put_keys lines)
put_keys_are [] all = tt
put_keys_are (line ∷ lines) all = fields_key line.op line.key line.value (put_keys lines) all.0 (put_keys_are lines all.1)

pub few_keys : (lines : List TraceLine) → length (put_keys lines) ≤ length lines
few_keys [] = omega arith
few_keys (line ∷ lines) = grind (arith, put_key line, few_keys lines)

-- what the texts of all elements have, that of each has
pub text_at : {X : Type 0} (text : X → List ℕ) (P : List ℕ → Type 0) (xs : List X) (i : ℕ) (d : X) → AllByRecursion P (map text xs) → i < length xs → P (text (get_or xs i d))
text_at text P [] i d all less = absurd (omega arith)
text_at text P (x ∷ xs) zero d all less = all.0
text_at text P (x ∷ xs) (suc i) d all less = text_at text P xs i d all.1 (omega arith)
