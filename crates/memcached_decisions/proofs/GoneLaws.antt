-- At a later second behind more writes no less is flushed, and what is over stays so.
use Rattle.std.proofs.Common.{◌≡◌, ◌≤◌, ◌==◌, ◌||◌, ◌&&◌, ℕ, suc, cond, false, ◌⊎◌, inl, inr, [], ◌∷◌, ◌++◌, nat_lt, nat_le, arith}
use Rattle.std.proofs.lemmas.Bool.{ltb-true, ltb-false, le-ltb, lt-leb, leb-false, eqb-true, eqb-false, cond_both, and_cases, and_left, and_right, or_parts, or_from}
use Rattle.std.specs.List.{AllByRecursion}
use Rattle.mica_words.specs.declared.hashing.Hashing.{Hashing}
use Rattle.partition_model.specs.declared.write.Write.{Write}
use Rattle.partition_model.specs.History.{History}
use Rattle.fronts.specs.declared.flushes.Flushes.{Flushes}
use Rattle.fronts.specs.Flushes.{is_flush, flush_in, flushes_then, flushed_at, with_write, no_flushes, flushes_from, flushes_in}
use Rattle.memcached_decisions.specs.Gone.{IsAskedSince, GoneStaysGone}
use Rattle.memcached_decisions.specs.Numbered.{numbered}

-- no more is flushed before the second that is due than from then on, and no more than was written
abbrev IsRising : ℕ → Flushes → Type 0
IsRising n flushes = (flushes.before ≤ flushes.after) × (flushes.after ≤ n)

rising_at : (n s : ℕ) (flushes : Flushes) → IsRising n flushes → flushed_at s flushes ≤ flushes.after
rising_at n s flushes rising = cond_both (nat_lt s flushes.due) _ _ (λ m. m ≤ flushes.after) (λ _. rising.0) (λ _. omega arith)

module _ (hashing : Hashing) (buckets second : ℕ) where
  rises : (n : ℕ) (flushes : Flushes) (write : Write) → IsRising n flushes → IsRising (suc n) (with_write hashing buckets (suc n) write flushes)
  rises n flushes write rising =
      let low = rising_at n (flush_in write.key).asked flushes rising in
      cond_both (is_flush hashing buckets write) _ _ (IsRising (suc n)) (λ _. (omega (arith, low, rising.1), omega arith)) (λ _. (rising.0, omega (arith, rising.1)))

  -- so many at least are flushed at this second and later ones
  abbrev KeepsFlushed : ℕ → ℕ → Flushes → Type 0
  KeepsFlushed least n flushes = (least ≤ n) × ((s : ℕ) → second ≤ s → least ≤ flushed_at s flushes)

  keeps : (least n : ℕ) (flushes : Flushes) (write : Write) → IsAskedSince hashing buckets second write → KeepsFlushed least n flushes
      → KeepsFlushed least (suc n) (with_write hashing buckets (suc n) write flushes)
  keeps least n flushes write since old = (
    omega (arith, old.0),
    λ s late.
        cond_both (is_flush hashing buckets write) _ _ (λ next. least ≤ flushed_at s next) (λ is. flushed s late (since is)) (λ _. old.1 s late),
  )
    where
      flushed : (s : ℕ) → second ≤ s → (second ≤ (flush_in write.key).asked) ⊎ ((flush_in write.key).due ≤ second)
          → least ≤ flushed_at s (flushes_then (suc n) (flush_in write.key) flushes)
      flushed s late (inl asked) = cond_both (nat_lt s (flush_in write.key).due) _ _ (λ m. least ≤ m) (λ _. old.1 _ asked) (λ _. omega (arith, old.0))
      flushed s late (inr due) = cond_both (nat_lt s (flush_in write.key).due) _ _ (λ m. least ≤ m) (λ soon. absurd (omega (arith, late, due, ltb-true _ _ soon))) (λ _. omega (arith, old.0))

  keeps_on : (least n : ℕ) (flushes : Flushes) (more : History) → AllByRecursion (IsAskedSince hashing buckets second) more → KeepsFlushed least n flushes
      → (s : ℕ) → second ≤ s → least ≤ flushed_at s (flushes_from hashing buckets n flushes more)
  keeps_on least n flushes [] since old = old.1
  keeps_on least n flushes (write ∷ more) since old = keeps_on least (suc n) (with_write hashing buckets (suc n) write flushes) more since.1 (keeps least n flushes write since.0 old)

  begins : (n : ℕ) (flushes : Flushes) → IsRising n flushes → KeepsFlushed (flushed_at second flushes) n flushes
  begins n flushes rising = (omega (arith, rising_at n second flushes rising, rising.1), later)
    where
      later : (s : ℕ) → second ≤ s → flushed_at second flushes ≤ flushed_at s flushes
      later s late = cond_both (nat_lt s flushes.due) _ _ (λ m. flushed_at second flushes ≤ m)
          (λ soon. cond_both (nat_lt second flushes.due) _ _ (λ m. m ≤ flushes.before) (λ _. omega arith) (λ past. absurd (omega (arith, late, ltb-true _ _ soon, ltb-false _ _ past))))
          (λ _. rising_at n second flushes rising)

  -- no less is flushed later
  no_less : (n : ℕ) (flushes : Flushes) (history more : History) → IsRising n flushes → AllByRecursion (IsAskedSince hashing buckets second) more
      → (s : ℕ) → second ≤ s → flushed_at second (flushes_from hashing buckets n flushes history) ≤ flushed_at s (flushes_from hashing buckets n flushes (history ++ more))
  no_less n flushes [] more rising since = keeps_on _ n flushes more since (begins n flushes rising)
  no_less n flushes (write ∷ history) more rising since = no_less (suc n) (with_write hashing buckets (suc n) write flushes) history more (rises n flushes write rising) since

-- and so the numbers below which items are flushed are no lower
numbers_keep : (base few many : ℕ) → few ≤ many → cond (few == 0) 0 (numbered base few) ≤ cond (many == 0) 0 (numbered base many)
numbers_keep base few many least =
    cond_both (few == 0) _ _ (λ m. m ≤ cond (many == 0) 0 (numbered base many)) (λ _. omega arith) (λ some.
    cond_both (many == 0) _ _ (λ m. numbered base few ≤ m) (λ none. absurd (eqb-false few 0 some (omega (arith, least, eqb-true many 0 none)))) (λ _. omega (arith, least)))

over_later : (second later expires : ℕ) → second ≤ later → (expires == 0 || nat_lt second expires) ≡ false → (expires == 0 || nat_lt later expires) ≡ false
over_later second later expires late over =
    let parts = or_parts (expires == 0) (nat_lt second expires) over in
    let ends : expires ≤ second = ltb-false second expires parts.1 in
    or_from (expires == 0) (nat_lt later expires) parts.0 (le-ltb later expires (omega (arith, late, ends)))

pub gone : GoneStaysGone
gone options base second later history more item late since not_there =
    by (and_cases (item.expires == 0 || nat_lt second item.expires) (nat_le (cond (before == 0) 0 (numbered base before)) item.unique) not_there)
  where
    before : ℕ
    before = flushed_at second (flushes_in options.hashing options.buckets history)

    after : ℕ
    after = flushed_at later (flushes_in options.hashing options.buckets (history ++ more))

    by : ((item.expires == 0 || nat_lt second item.expires) ≡ false) ⊎ (nat_le (cond (before == 0) 0 (numbered base before)) item.unique ≡ false)
        → ((item.expires == 0 || nat_lt later item.expires) && nat_le (cond (after == 0) 0 (numbered base after)) item.unique) ≡ false
    by (inl over) = and_left (item.expires == 0 || nat_lt later item.expires) (nat_le (cond (after == 0) 0 (numbered base after)) item.unique) (over_later second later item.expires late over)
    by (inr flushed) =
        let more_flushed : before ≤ after = no_less options.hashing options.buckets second 0 no_flushes history more (omega arith, omega arith) since later late in
        let low = leb-false (cond (before == 0) 0 (numbered base before)) item.unique flushed in
        let up = numbers_keep base before after more_flushed in
        and_right (item.expires == 0 || nat_lt later item.expires) (nat_le (cond (after == 0) 0 (numbered base after)) item.unique)
        (lt-leb (cond (after == 0) 0 (numbered base after)) item.unique (omega (arith, low, up)))
