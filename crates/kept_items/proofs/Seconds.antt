-- What is there of one item, at seconds that go on.
use Rattle.std.proofs.Common.{◌≡◌, ◌≢◌, ◌⊎◌, inl, inr, ⊎_elim, ℕ, zero, suc, ◌+◌, ◌≤◌, ◌<◌, Bool, true, false, cond, eqb, ltb, leb, min, refl, sym, ap, ◌∙◌, subst, arith}
use Rattle.std.specs.Prelude.{◌&&◌, ◌||◌}
use Rattle.std.proofs.lemmas.Bool.{lt-ltb, ltb-true, ltb-false, le-ltb, le-leb, lt-leb, leb-true, leb-false, ne_eqb, and_cases, and_left, and_right, and_from, or_parts, or_from, or_left, or_right}
use Rattle.fronts.specs.declared.flushes.Flushes.{Flushes}
use Rattle.fronts.specs.Flushes.{flushed_at, waits_at}
use Rattle.memcached_decisions.specs.declared.order.TheConstants.{LAST_UNIQUE}
use Rattle.memcached_decisions.specs.Numbered.{numbered}
use Rattle.kept_items.specs.Loaded.{flushes_again}

-- whether a time has not come
abbrev pub is_before : ℕ → ℕ → Bool
is_before second expires = eqb expires 0 || ltb second expires

pub before_earlier : (earlier later expires : ℕ) → earlier ≤ later → is_before earlier expires ≡ false → is_before later expires ≡ false
before_earlier earlier later expires le is =
    let parts = or_parts (eqb expires 0) (ltb earlier expires) is in
    or_from (eqb expires 0) (ltb later expires) parts.0 (le-ltb later expires (omega (arith, ltb-false earlier expires parts.1)))

-- the number that is flushed by so many writes
abbrev pub flush_number : ℕ → ℕ → ℕ
flush_number base count = cond (eqb count 0) 0 (numbered base count)

abbrev pub is_up : ℕ → ℕ → ℕ → ℕ → Bool
is_up second flushed expires unique = is_before second expires && leb flushed unique

-- with the same flushes, at a later second
pub gone_later : (earlier later flushed expires unique : ℕ) → earlier ≤ later → is_up earlier flushed expires unique ≡ false → is_up later flushed expires unique ≡ false
gone_later earlier later flushed expires unique le is =
    ⊎_elim (λ over. and_left (is_before later expires) (leb flushed unique) (before_earlier earlier later expires le over)) (λ gone. and_right (is_before later expires) (leb flushed unique) gone)
    (and_cases (is_before earlier expires) (leb flushed unique) is)

-- the number that is flushed at a second
abbrev pub flushed_by : ℕ → ℕ → Flushes → ℕ
flushed_by base second flushes = flush_number base (flushed_at second flushes)

module _ (base second later : ℕ) (flushes : Flushes) (expires unique : ℕ) (le : second ≤ later)
    (takes : second < flushes.due → is_up flushes.due (flushed_by base flushes.due flushes) expires unique ≡ false) where
  -- the same are flushed at both seconds, or a flush that waited has come
  parted : (flushed_at later flushes ≡ flushed_at second flushes) ⊎ ((second < flushes.due) × (flushes.due ≤ later) × (flushed_at later flushes ≡ flushed_at flushes.due flushes))
  parted = go (ltb second flushes.due) (ltb later flushes.due) refl refl
    where
      go : (s l : Bool) → ltb second flushes.due ≡ s → ltb later flushes.due ≡ l
          → (flushed_at later flushes ≡ flushed_at second flushes) ⊎ ((second < flushes.due) × (flushes.due ≤ later) × (flushed_at later flushes ≡ flushed_at flushes.due flushes))
      go true true s l = inl (rw (s, l) refl)
      go false false s l = inl (rw (s, l) refl)
      go false true s l = absurd (omega (arith, ltb-false second flushes.due s, ltb-true later flushes.due l))
      go true false s l =
          let own : ltb flushes.due flushes.due ≡ false = le-ltb flushes.due flushes.due (omega arith) in
          inr (ltb-true second flushes.due s, ltb-false later flushes.due l, rw (l, own) refl)

  -- what is gone stays gone
  pub stays_gone : is_up second (flushed_by base second flushes) expires unique ≡ false → is_up later (flushed_by base later flushes) expires unique ≡ false
  stays_gone gone =
      ⊎_elim
      (λ same. subst (λ (k : ℕ). is_up later (flush_number base k) expires unique ≡ false) (sym same) (gone_later second later (flushed_by base second flushes) expires unique le gone))
      (λ come. subst (λ (k : ℕ). is_up later (flush_number base k) expires unique ≡ false) (sym come.2) (gone_later flushes.due later (flushed_by base flushes.due flushes) expires unique come.1 (takes come.0)))
      parted

  -- what is there has a number that the flushes at that second don't take, also behind a start
  module _ (base' n : ℕ) (some : waits_at second flushes ≢ 0 → 0 < n) (low : unique < LAST_UNIQUE) (below : unique < base') (up : is_up second (flushed_by base second flushes) expires unique ≡ true) where
    number_is : leb (flushed_by base second flushes) unique ≡ true
    number_is = go (is_before second expires) refl up
      where
        go : (b : Bool) → is_before second expires ≡ b → (b && leb (flushed_by base second flushes) unique) ≡ true → leb (flushed_by base second flushes) unique ≡ true
        go true is both = both
        go false is both = absurd cc

    abbrev again : ℕ → ℕ
    again until = flushed_by base' later (flushes_again until n)

    pub same_behind : is_up later (again (waits_at second flushes)) expires unique ≡ is_up later (flushed_by base later flushes) expires unique
    same_behind = go (ltb second flushes.due) (ltb later flushes.due) refl refl
      where
        go : (s l : Bool) → ltb second flushes.due ≡ s → ltb later flushes.due ≡ l → is_up later (again (waits_at second flushes)) expires unique ≡ is_up later (flushed_by base later flushes) expires unique
        go false l s is =
            let came : ltb later flushes.due ≡ false = le-ltb later flushes.due (omega (arith, ltb-false second flushes.due s)) in
            let same : leb (flush_number base flushes.after) unique ≡ true = subst (λ (k : ℕ). leb (flush_number base k) unique ≡ true) (let e : flushed_at second flushes ≡ flushes.after = rw s refl in e) number_is in
            let never : ltb later 0 ≡ false = le-ltb later 0 (omega arith) in
            let above : leb 0 unique ≡ true = le-leb 0 unique (omega arith) in
            rw (s, came, same, never, above) refl
        go true true s is =
            let none : eqb flushes.due 0 ≡ false = ne_eqb flushes.due 0 (λ e. omega (arith, ltb-true second flushes.due s)) in
            let same : leb (flush_number base flushes.before) unique ≡ true = subst (λ (k : ℕ). leb (flush_number base k) unique ≡ true) (let e : flushed_at second flushes ≡ flushes.before = rw s refl in e) number_is in
            let above : leb 0 unique ≡ true = le-leb 0 unique (omega arith) in
            rw (s, is, none) (rw (is, same, above) refl)
        go true false s is =
            let waits : waits_at second flushes ≡ flushes.due = rw s refl in
            let none : eqb flushes.due 0 ≡ false = ne_eqb flushes.due 0 (λ e. omega (arith, ltb-true second flushes.due s)) in
            let waiting : waits_at second flushes ≢ 0 = subst (λ (k : ℕ). k ≢ 0) (sym waits) (λ z. omega (arith, z, ltb-true second flushes.due s)) in
            let positive : 0 < n = some waiting in
            let count : eqb n 0 ≡ false = ne_eqb n 0 (λ e. omega (arith, e, positive)) in
            let above : leb (numbered base' n) unique ≡ false = lt-leb (numbered base' n) unique (omega (arith, low, below)) in
            let new : is_up later (again flushes.due) expires unique ≡ false = and_right (is_before later expires) (leb (again flushes.due) unique) (rw none (rw is (rw count above))) in
            let own : ltb flushes.due flushes.due ≡ false = le-ltb flushes.due flushes.due (omega arith) in
            let old : is_up later (flushed_by base later flushes) expires unique ≡ false =
            subst (λ (k : ℕ). is_up later (flush_number base k) expires unique ≡ false) (let e : flushed_at flushes.due flushes ≡ flushed_at later flushes = rw (own, is) refl in e)
            (gone_later flushes.due later (flushed_by base flushes.due flushes) expires unique (ltb-false later flushes.due is) (takes (ltb-true second flushes.due s))) in
            ap (λ (until : ℕ). is_up later (again until) expires unique) waits ∙ new ∙ sym old
