-- The keys of a store's cells, their rooms, and the spare buckets behind them.
use Rattle.std.specs.Prelude.{T, ◌&&◌, count_by, slice_index_or, AllPairs}
use Rattle.std.specs.Ordering.{nat_cmp, is_lt, is_eq, eq_by_cmp}
use Rattle.std.specs.declared.cmp.Ordering.{Ordering}
use Rattle.std.specs.declared.cmp.Ordering.TheVariants.{Less, Equal, Greater}
use Rattle.std.specs.Cmp.{IsTotalOrder, tied_itself}
use Rattle.std.specs.Cmp.Lexicographic.{slice_cmp, nat_list_cmp_total}
use Rattle.std.specs.FinMap.{get, entries, keys, entries_sorted, get-entries}
use Rattle.std.specs.FinMap.Entries.{find, below_all, is_sorted}
use Rattle.std.specs.List.{AllByRecursion}
use Rattle.std.proofs.lemmas.Bool.{eqb-true, eqb-false}
use Rattle.std.proofs.lemmas.List.Kept.{AllPairs-cons}
use Rattle.std.proofs.lemmas.List.Sums.{count_by-le-length}
use Rattle.std.proofs.Math.Nat.{div-mul-le_self, div-add-mod}
use Rattle.std.proofs.Common.{◌≡◌, ◌≢◌, ◌≤◌, ◌<◌, ◌==◌, ◌+◌, ◌*◌, ◌%◌, ℕ, zero, suc, Bool, true, false, cond, List, [], ◌∷◌, length, map, Some, refl, sym, ap, subst, ◌∙◌, arith}
use Rattle.mica_words.specs.declared.hashing.Hashing.{Hashing}
use Rattle.mica_words.specs.Hash.{bucket_of}
use Rattle.mica_words.proofs.Hashes.{bucket_of-below}
use Rattle.mica_words.specs.declared.entry.TheConstants.{SLOTS}
use Rattle.partition_model.specs.Store.{Cell, Cells, keys_in, spares_behind, spares_below, spares_in_use}
use Rattle.partition_model.proofs.Found.{count_cons}

-- Keys

split : (a b : Bool) → T (a && b) → T a × T b
split true b is = (tt, is)
split false b is = absurd is

module _ {K : Type 0} (R : K → K → Ordering) (o : IsTotalOrder R) where
  apart : (x y : K) → T (is_lt (R x y)) → eq_by_cmp R y x ≡ false
  apart x y less = by (R y x) refl
    where
      by : (r : Ordering) → R y x ≡ r → eq_by_cmp R y x ≡ false
      by Less is = ap is_eq is
      by Greater is = ap is_eq is
      by Equal is = absurd (subst (λ r. T (is_lt r)) (sym (o.congr y x y is) ∙ tied_itself o y) less)

  differ : (x y : K) → T (is_lt (R x y)) → x ≢ y
  differ x y less same = subst (λ r. T (is_lt r)) (ap (R x) (sym same) ∙ tied_itself o x) less

module _ {K X : Type 0} (R : K → K → Ordering) (o : IsTotalOrder R) where
  -- each entry's key has its value
  found_later : (e : K × X) (es list : List (K × X)) → T (below_all R e.0 es) → AllByRecursion (λ f. find R f.0 list ≡ Some f.1) es → AllByRecursion (λ f. find R f.0 (e ∷ list) ≡ Some f.1) es
  found_later e [] list below all = tt
  found_later e (f ∷ es) list below all =
      let both = split (is_lt (R e.0 f.0)) (below_all R e.0 es) below in
      (ap (λ b. cond b (Some e.1) (find R f.0 list)) (apart R o e.0 f.0 both.0) ∙ all.0, found_later e es list both.1 all.1)

  pub all_found : (es : List (K × X)) → T (is_sorted R es) → AllByRecursion (λ e. find R e.0 es ≡ Some e.1) es
  all_found [] sorted = tt
  all_found (e ∷ es) sorted =
      let both = split (below_all R e.0 es) (is_sorted R es) sorted in
      (ap (λ r. cond (is_eq r) (Some e.1) (find R e.0 es)) (tied_itself o e.0), found_later e es es both.0 (all_found es both.1))

  differ_later : (x : K) (es : List (K × X)) → T (below_all R x es) → (k : ℕ) (d : K) → k < length (map (λ (e : K × X). e.0) es) → x ≢ slice_index_or (map (λ (e : K × X). e.0) es) k d
  differ_later x [] below k d low = absurd (omega (arith, low))
  differ_later x (e ∷ es) below zero d low = differ R o x e.0 (split (is_lt (R x e.0)) (below_all R x es) below).0
  differ_later x (e ∷ es) below (suc k) d low = differ_later x es (split (is_lt (R x e.0)) (below_all R x es) below).1 k d (omega (arith, low))

  -- each key stands once
  pub all_once : (es : List (K × X)) → T (is_sorted R es) → AllPairs (λ one other. one ≢ other) (map (λ (e : K × X). e.0) es)
  all_once [] sorted = λ i j d less within. absurd (omega (arith, within))
  all_once (e ∷ es) sorted =
      let both = split (below_all R e.0 es) (is_sorted R es) sorted in
      AllPairs-cons (λ one other. one ≢ other) e.0 (map (λ (e : K × X). e.0) es) (differ_later e.0 es both.0) (all_once es both.1)

-- what a map has at its entries
pub entries_found : (m : Cells) → AllByRecursion (λ e. get m e.0 ≡ Some e.1) (entries m)
entries_found m = at (entries m) (all_found (slice_cmp nat_cmp) nat_list_cmp_total (entries m) (entries_sorted m))
  where
    at : (es : List (List ℕ × Cell)) → AllByRecursion (λ e. find (slice_cmp nat_cmp) e.0 (entries m) ≡ Some e.1) es → AllByRecursion (λ e. get m e.0 ≡ Some e.1) es
    at [] all = tt
    at (e ∷ es) all = (get-entries m e.0 ∙ all.0, at es all.1)

-- Spares

module _ (hashing : Hashing) (buckets : ℕ) where
  -- how many keys the buckets below a number have
  abbrev pub keys_below : ℕ → Cells → ℕ
  keys_below zero cells = 0
  keys_below (suc bucket) cells = keys_in hashing buckets bucket cells + keys_below bucket cells

  few_spares : (k : ℕ) → SLOTS * spares_behind k ≤ k
  few_spares k = let most = div-mul-le_self (k + 14) 15 in omega (arith, most)

  -- a bucket that is full has keys for one more than lie behind it
  full_bucket : (k : ℕ) → 0 < k → k % SLOTS ≡ 0 → SLOTS * (spares_behind k + 1) ≤ k
  full_bucket k some full =
      let most = div-mul-le_self (k + 14) 15 in
      let whole = div-add-mod k 15 in
      omega (arith, most, some, full, whole)

  no_more_spares : (n : ℕ) (cells : Cells) → SLOTS * spares_below hashing buckets n cells ≤ keys_below n cells
  unfolding spares_below
  no_more_spares zero cells = omega arith
  no_more_spares (suc n) cells =
      let rest = no_more_spares n cells in
      let here = few_spares (keys_in hashing buckets n cells) in
      omega (arith, rest, here)

  -- where one of them is full
  all_spares : (bucket n : ℕ) (cells : Cells) → bucket < n → 0 < keys_in hashing buckets bucket cells → keys_in hashing buckets bucket cells % SLOTS ≡ 0
      → SLOTS * (spares_below hashing buckets n cells + 1) ≤ keys_below n cells
  unfolding spares_below
  all_spares bucket zero cells low some full = absurd (omega (arith, low))
  all_spares bucket (suc n) cells low some full = by (bucket == n) refl (λ lower. all_spares bucket n cells lower some full)
    where
      by : (b : Bool) → (bucket == n) ≡ b → (bucket < n → SLOTS * (spares_below hashing buckets n cells + 1) ≤ keys_below n cells)
          → SLOTS * (spares_below hashing buckets (suc n) cells + 1) ≤ keys_below (suc n) cells
      by true is again =
          let same = eqb-true bucket n is in
          let rest = no_more_spares n cells in
          let here =
          full_bucket (keys_in hashing buckets n cells) (subst (λ k. 0 < keys_in hashing buckets k cells) same some) (subst (λ k. keys_in hashing buckets k cells % SLOTS ≡ 0) same full) in
          omega (arith, rest, here)
      by false is again =
          let rest = again (omega (arith, low, eqb-false bucket n is)) in
          let here = few_spares (keys_in hashing buckets n cells) in
          omega (arith, rest, here)

  -- in how many of the buckets below a number one key is
  abbrev hits : ℕ → ℕ → ℕ
  hits v zero = 0
  hits v (suc n) = cond (v == n) 1 0 + hits v n

  no_hit : (v n : ℕ) → n ≤ v → hits v n ≡ 0
  no_hit v zero le = refl
  no_hit v (suc n) le = by (v == n) refl (no_hit v n (omega (arith, le)))
    where
      by : (b : Bool) → (v == n) ≡ b → hits v n ≡ 0 → cond b 1 0 + hits v n ≡ 0
      by true is rest = absurd (let same = eqb-true v n is in omega (arith, same, le))
      by false is rest = omega (arith, rest)

  one_hit : (v n : ℕ) → hits v n ≤ 1
  one_hit v zero = omega arith
  one_hit v (suc n) = by (v == n) refl (one_hit v n)
    where
      by : (b : Bool) → (v == n) ≡ b → hits v n ≤ 1 → cond b 1 0 + hits v n ≤ 1
      by true is rest =
          let none = no_hit v n (let same = eqb-true v n is in omega (arith, same)) in omega (arith, none)
      by false is rest = omega (arith, rest)

  abbrev counts : ℕ → List (List ℕ) → ℕ
  counts zero ks = 0
  counts (suc n) ks = count_by (λ key. bucket_of hashing key buckets == n) ks + counts n ks

  no_keys : (n : ℕ) → counts n [] ≡ 0
  no_keys zero = refl
  no_keys (suc n) = let rest = no_keys n in omega (arith, rest)

  one_key : (n : ℕ) (key : List ℕ) (ks : List (List ℕ)) → counts n (key ∷ ks) ≡ hits (bucket_of hashing key buckets) n + counts n ks
  one_key zero key ks = refl
  one_key (suc n) key ks =
      let rest = one_key n key ks in
      let here = count_cons (λ k. bucket_of hashing k buckets == n) key ks in
      omega (arith, rest, here)

  few_keys : (n : ℕ) (ks : List (List ℕ)) → counts n ks ≤ length ks
  few_keys n [] = let none = no_keys n in omega (arith, none)
  few_keys n (key ∷ ks) =
      let rest = few_keys n ks in
      let one = one_key n key ks in
      let hit = one_hit (bucket_of hashing key buckets) n in
      omega (arith, rest, one, hit)

  same_counts : (n : ℕ) (cells : Cells) → keys_below n cells ≡ counts n (keys cells)
  same_counts zero cells = refl
  same_counts (suc n) cells = ap (λ m. keys_in hashing buckets n cells + m) (same_counts n cells)

  keys_most : (n : ℕ) (cells : Cells) → keys_below n cells ≤ length (keys cells)
  keys_most n cells =
      let same = same_counts n cells in
      let few = few_keys n (keys cells) in
      omega (arith, same, few)

-- Where the bucket of a key is full, and no spare is left, there are as many keys as all spares are for, and one bucket more.
pub spares_full : (hashing : Hashing) (buckets : ℕ) (key : List ℕ) (cells : Cells) → 0 < keys_in hashing buckets (bucket_of hashing key buckets) cells
    → keys_in hashing buckets (bucket_of hashing key buckets) cells % SLOTS ≡ 0 → SLOTS * (spares_in_use hashing buckets cells + 1) ≤ length (keys cells)
unfolding spares_below
spares_full hashing zero key cells some full =
    let here = full_bucket hashing zero (keys_in hashing zero (bucket_of hashing key zero) cells) some full in
    let most = count_by-le-length (λ k. bucket_of hashing k zero == bucket_of hashing key zero) (keys cells) in
    omega (arith, here, most)
spares_full hashing (suc n) key cells some full =
    let all = all_spares hashing (suc n) (bucket_of hashing key (suc n)) (suc n) cells (bucket_of-below hashing key (suc n) (omega arith)) some full in
    let most = keys_most hashing (suc n) (suc n) cells in
    omega (arith, all, most)
