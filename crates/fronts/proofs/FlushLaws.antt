-- What one write more makes of the flushes, and which writes make nothing of them.
use Rattle.std.proofs.Common.{◌≡◌, ℕ, suc, ◌+◌, ◌≤◌, ◌<◌, ◌==◌, ◌&&◌, cond, Bool, true, false, List, [], ◌∷◌, ◌++◌, length, count_by, refl, sym, ap, ◌∙◌, arith, ne_eqb}
use Rattle.std.proofs.lemmas.List.Sums.{sum_by-append}
use Rattle.mica_words.specs.declared.hashing.Hashing.{Hashing}
use Rattle.mica_words.specs.Hash.{hash_of, hash_bucket, bucket_of}
use Rattle.partition_model.specs.declared.write.Write.{Write}
use Rattle.partition_model.specs.History.{History, IsPrefix}
use Rattle.fronts.specs.declared.flushes.Flushes.{Flushes}
use Rattle.fronts.specs.declared.flushes.KeptFlushes.{KeptFlushes}
use Rattle.fronts.specs.Flushes.{is_in_first, is_delete, marks, flush_in, flushes_then, with_write, no_flushes, flushes_from, flushes_in, AreKept, kept_then}

-- One write more, by the hash of its key

module _ (hashing : Hashing) (key : List ℕ) (buckets hash at : ℕ) (hashed : hash ≡ hash_of hashing key) (at_is : at ≡ hash_bucket hash buckets) where
  at_key : at ≡ bucket_of hashing key buckets
  unfolding bucket_of
  at_key = at_is ∙ ap (λ h. hash_bucket h buckets) hashed

  pub in_another : 0 < at → (bucket_of hashing key buckets == 0) ≡ false
  in_another some = ap (λ n. n == 0) (sym at_key) ∙ ne_eqb at 0 (λ none. absurd (omega (arith, some, none)))

  pub in_bucket_0 : at ≡ 0 → (bucket_of hashing key buckets == 0) ≡ true
  in_bucket_0 none = ap (λ n. n == 0) (sym at_key ∙ none)

module _ (n : ℕ) (write : Write) (kept : KeptFlushes) where
  kept_by : Bool → KeptFlushes
  kept_by first = record {
    hashing = kept.hashing;
    buckets = kept.buckets;
    in_first = kept.in_first + cond first 1 0;
    flushes = cond (first && is_delete write.op && marks kept.hashing write.key) (flushes_then n (flush_in write.key) kept.flushes) kept.flushes;
  }

  pub kept_other : is_in_first kept.hashing kept.buckets write ≡ false → kept ≡ kept_then n write kept
  unfolding kept_by
  kept_other is = let none : kept.in_first ≡ kept.in_first + 0 = omega arith in (λ i. record kept { in_first = none i }) ∙ ap kept_by (sym is)

  pub kept_first : (flushes : Flushes) (flush : Bool) → is_in_first kept.hashing kept.buckets write ≡ true → (is_delete write.op && marks kept.hashing write.key) ≡ flush
      → flushes ≡ cond flush (flushes_then n (flush_in write.key) kept.flushes) kept.flushes
      → record kept { in_first = kept.in_first + 1; flushes = flushes } ≡ kept_then n write kept
  unfolding kept_by
  kept_first flushes flush is one flushes_are =
      (λ i. record kept { in_first = kept.in_first + 1; flushes = (flushes_are ∙ ap (λ t. cond t (flushes_then n (flush_in write.key) kept.flushes) kept.flushes) (sym one)) i })
      ∙ ap kept_by (sym is)

-- Histories

module _ (hashing : Hashing) (buckets : ℕ) where
  -- behind one history another
  from_both : (n : ℕ) (flushes : Flushes) (history later : History)
      → flushes_from hashing buckets n flushes (history ++ later) ≡ flushes_from hashing buckets (n + length history) (flushes_from hashing buckets n flushes history) later
  from_both n flushes [] later = ap (λ m. flushes_from hashing buckets m flushes later) (omega arith)
  from_both n flushes (w ∷ history) later =
      from_both (suc n) (with_write hashing buckets (suc n) w flushes) history later
      ∙ ap (λ m. flushes_from hashing buckets m (flushes_from hashing buckets (suc n) (with_write hashing buckets (suc n) w flushes) history) later) (omega arith)

  in_both : (history later : History) → flushes_in hashing buckets (history ++ later) ≡ flushes_from hashing buckets (length history) (flushes_in hashing buckets history) later
  in_both history later = from_both 0 no_flushes history later ∙ ap (λ m. flushes_from hashing buckets m (flushes_in hashing buckets history) later) (omega arith)

  pub flushes_push : (history : History) (write : Write) → flushes_in hashing buckets (history ++ write ∷ []) ≡ with_write hashing buckets (suc (length history)) write (flushes_in hashing buckets history)
  flushes_push history write = in_both history (write ∷ [])

  -- no write in the bucket of flushes is a flush
  none_from : (n : ℕ) (flushes : Flushes) (later : History) → count_by (is_in_first hashing buckets) later ≡ 0 → flushes_from hashing buckets n flushes later ≡ flushes
  none_from n flushes [] none = refl
  none_from n flushes (w ∷ later) none = by (is_in_first hashing buckets w) (sum_by-append _ (w ∷ []) later) (none_from (suc n) flushes later)
    where
      by : (b : Bool) → count_by (is_in_first hashing buckets) (w ∷ later) ≡ 0 + cond b 1 0 + count_by (is_in_first hashing buckets) later
          → (count_by (is_in_first hashing buckets) later ≡ 0 → flushes_from hashing buckets (suc n) flushes later ≡ flushes)
          → flushes_from hashing buckets (suc n) (cond (b && is_delete w.op && marks hashing w.key) (flushes_then (suc n) (flush_in w.key) flushes) flushes) later ≡ flushes
      by true both rest = absurd (omega (arith, both, none))
      by false both rest = rest (omega (arith, both, none))

  -- A history with no more writes in the bucket of flushes than one that begins it has the same flushes.
  pub unmoved : (before history : History) → IsPrefix before history → count_by (is_in_first hashing buckets) history ≤ count_by (is_in_first hashing buckets) before
      → flushes_in hashing buckets history ≡ flushes_in hashing buckets before
  unmoved before history begins few =
      let counts = ap (count_by (is_in_first hashing buckets)) begins.1 ∙ sum_by-append _ before begins.0 in
      ap (flushes_in hashing buckets) begins.1 ∙ in_both before begins.0 ∙ none_from (length before) (flushes_in hashing buckets before) begins.0 (omega (arith, counts, few))

  pub kept_push : (history : History) (write : Write) (kept : KeptFlushes) → AreKept hashing buckets history kept → AreKept hashing buckets (history ++ write ∷ []) (kept_then (suc (length history)) write kept)
  kept_push history write kept are = record {
    some = are.some;
    hashing_is = are.hashing_is;
    buckets_are = are.buckets_are;
    in_first = (λ i. are.in_first i + cond (is_in_first (are.hashing_is i) (are.buckets_are i) write) 1 0) ∙ one_more;
    flushes = (λ i. with_write (are.hashing_is i) (are.buckets_are i) (suc (length history)) write (are.flushes i)) ∙ sym (flushes_push history write);
  }
    where
      one_more : count_by (is_in_first hashing buckets) history + cond (is_in_first hashing buckets write) 1 0 ≡ count_by (is_in_first hashing buckets) (history ++ write ∷ [])
      one_more = let both = sum_by-append (λ (w : Write). cond (is_in_first hashing buckets w) 1 0) history (write ∷ []) in omega (arith, both)
