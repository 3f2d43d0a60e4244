-- Each step at a book keeps its rule.
use Rattle.std.proofs.Common.{◌≡◌, ◌≢◌, ℕ, zero, suc, ◌<◌, ◌≤◌, ◌==◌, Bool, true, false, true≢false, cond, List, [], ◌∷◌, ◌++◌, length, set, sym, refl, ap, ◌∙◌, subst, ⊎_elim, append-nil, arith, Some, None, eq-eqb, ne_eqb}
use Rattle.std.proofs.lemmas.List.Elements.{filter_map-append}
use Rattle.std.proofs.lemmas.Bool.{cases_lt}
use mathlib.Core.Option.{some, none, some-ne-none}
use lib.ListN.{get_elem?}
use Rattle.atomic_table.specs.Table.{step, keeps, opening, Allows, Splits, Joins}
use Rattle.atomic_table.proofs.Lists.{at_set, at_snoc}
use Rattle.turn_book.specs.declared.rule.Entry.{Entry}
use Rattle.turn_book.specs.declared.rule.BookSeatView.{BookSeatView}
use Rattle.turn_book.specs.Entries.{entry, entries_by}
use Rattle.turn_book.specs.Rule.{keeper, nobody, new_book, with_taker, new_taker, heard_from, after_entry, taker_after, FitsTaker, FitsKeeper, Fits, AreKept, Seated, learns}

-- the seat of each taker, once q has this one
abbrev given : (ℕ → ℕ) → ℕ → ℕ → ℕ → ℕ
given owner q seat p = cond (p == q) seat (owner p)

given_own : (owner : ℕ → ℕ) (q seat : ℕ) → given owner q seat q ≡ seat
given_own owner q seat = rw (eq-eqb q q refl) refl

given_same : (owner : ℕ → ℕ) (q seat p : ℕ) → p ≢ q → given owner q seat p ≡ owner p
given_same owner q seat p n = rw (ne_eqb p q n) refl

-- what follows of a test that fails
unless_on : {X : Type 0} {b : Bool} → b ≡ false → b ≡ true → X
unless_on off on = absurd (true≢false (sym on ∙ off))

module _ {X : Type 0} where
  at_end : (l : List X) (a b : X) (j : ℕ) → length l ≤ j → get_elem? (l ++ a ∷ []) j ≡ some b → j ≡ length l
  at_end [] a b zero n e = refl
  at_end [] a b (suc j) n e = absurd (some-ne-none b (sym e))
  at_end (x ∷ xs) a b zero n e = absurd (omega arith)
  at_end (x ∷ xs) a b (suc j) n e = ap suc (at_end xs a b j (omega arith) e)

  get_front : (l m : List X) (j : ℕ) → j < length l → get_elem? l j ≡ get_elem? (l ++ m) j
  get_front [] m j l = absurd (omega arith)
  get_front (x ∷ xs) m zero l = refl
  get_front (x ∷ xs) m (suc j) l = get_front xs m j (omega arith)

  abbrev AllAt : (ℕ → X → Type 0) → List X → Type 0
  AllAt F views = (seat : ℕ) (v : X) → get_elem? views seat ≡ some v → F seat v

  all_set : (F : ℕ → X → Type 0) (views : List X) (seat : ℕ) (w : X) → F seat w → ((j : ℕ) (u : X) → j ≢ seat → get_elem? views j ≡ some u → F j u) → AllAt F (set views seat w)
  all_set F views seat w mine others j u e = ⊎_elim (λ (x : (j ≡ seat) × (w ≡ u)). subst (λ (y : ℕ × X). F y.0 y.1) (λ i. (sym x.0 i, x.1 i)) mine)
      (λ (x : (j ≢ seat) × (get_elem? views j ≡ some u)). others j u x.0 x.1) (at_set views seat j w u e)

  all_more : (F : ℕ → X → Type 0) (views : List X) (w : X) → F (length views) w → AllAt F views → AllAt F (views ++ w ∷ [])
  all_more F views w mine old j u e =
      ⊎_elim (λ (l : j < length views). old j u (get_front views (w ∷ []) j l ∙ e))
      (λ (l : length views ≤ j). ⊎_elim (λ (x : get_elem? views j ≡ some u). old j u x)
      (λ (is : w ≡ u). subst (λ (y : ℕ × X). F y.0 y.1) (λ i. (sym (at_end views w u j l e) i, is i)) mine) (at_snoc views w u j e))
      (cases_lt j (length views))

module _ {T : Type 0} where
  -- what a taker entered, once the book has one entry more
  by_then : (p q : ℕ) (what : T) (entries : List (Entry T)) → entries_by p (entries ++ entry q what ∷ []) ≡ entries_by p entries ++ entries_by p (entry q what ∷ [])
  by_then p q what entries = filter_map-append (λ e. cond (e.taker == p) (Some e.what) None) entries (entry q what ∷ [])

  by_own : (p : ℕ) (what : T) (entries : List (Entry T)) → entries_by p (entries ++ entry p what ∷ []) ≡ entries_by p entries ++ what ∷ []
  by_own p what entries = by_then p p what entries ∙ rw (eq-eqb p p refl) refl

  by_other : (p q : ℕ) (what : T) (entries : List (Entry T)) → q ≢ p → entries_by p (entries ++ entry q what ∷ []) ≡ entries_by p entries
  by_other p q what entries n = by_then p q what entries ∙ rw (ne_eqb q p n) (append-nil (entries_by p entries))

  module _ (owner : ℕ → ℕ) (entries : List (Entry T)) where
    -- a taker's seat is one that the book doesn't have
    fits_taker : (seat : ℕ) (v : BookSeatView T) → v.keeps ≡ false → (v.takes ≡ true → FitsTaker owner entries seat v) → Fits owner entries seat v
    fits_taker seat v away fit = record { as_taker = fit; as_keeper = λ s. unless_on away s }

    fits_keeper : (seat : ℕ) (v : BookSeatView T) → v.takes ≡ false → FitsKeeper owner entries seat v → Fits owner entries seat v
    fits_keeper seat v away fit = record { as_taker = λ s. unless_on away s; as_keeper = λ _. fit }

    -- the number of a taker is below those to come
    is_low : (v : BookSeatView T) (seat other : ℕ) (u : BookSeatView T) → FitsKeeper owner entries seat v → other ≢ seat → FitsTaker owner entries other u → u.number < v.number
    is_low v seat other u mine differs theirs =
        ⊎_elim (λ (b : u.number < v.number). b) (λ (far : v.number ≤ u.number). absurd (differs (sym theirs.owner_is ∙ (mine.later_owner u.number far ∙ sym mine.first)))) (cases_lt u.number v.number)

  pub begins : AreKept (opening (0 ∷ []) [] (new_book {T = T}))
  begins = record {
    owner = λ p. 0;
    entries = [];
    fits = all_more (Fits (λ p. 0) []) [] new_book
        (fits_keeper _ _ 0 new_book refl record { first = refl; is_silent = refl; entries_are = refl; later_owner = λ p _. refl; later_entries = λ p _. refl; heard = unless_on refl })
        (λ j u e. absurd (some-ne-none u (sym e)));
  }

  -- one taker more may be made
  pub enrolls : (seat : ℕ) (v : BookSeatView T) → v.keeps ≡ true → Splits AreKept seat v (with_taker v) (new_taker v)
  enrolls seat v may s h at =
      let left : BookSeatView T = with_taker v in
      let right : BookSeatView T = new_taker v in
      let mine = (h.fits seat v at).as_keeper may in
      let vs : List (BookSeatView T) = set s.views seat left in
      let new : ℕ = length vs in
      let owner' : ℕ → ℕ = given h.owner v.number new in
      let as_left : Fits owner' h.entries seat left = fits_keeper _ _ seat left refl record {
        first = mine.first;
        is_silent = refl;
        entries_are = mine.entries_are;
        later_owner = λ p far. given_same h.owner v.number new p (λ s. omega arith) ∙ mine.later_owner p (omega arith);
        later_entries = λ p far. mine.later_entries p (omega arith);
        heard = unless_on refl;
      } in
      record {
        owner = owner';
        entries = h.entries;
        fits = all_more (Fits owner' h.entries) vs right
            (fits_taker _ _ new right refl (λ _. record { owner_is = given_own h.owner v.number new; mine_is = sym (mine.later_entries v.number (omega arith)) }))
            (all_set (Fits owner' h.entries) s.views seat left as_left (λ j u other e. record {
              as_taker = λ s. let f = (h.fits j u e).as_taker s in let low = is_low h.owner h.entries v seat j u mine other f in
                  record { owner_is = given_same h.owner v.number new u.number (λ s. omega arith) ∙ f.owner_is; mine_is = f.mine_is };
              as_keeper = λ t. absurd (other (((h.fits j u e).as_keeper t).first ∙ sym mine.first));
            }));
      }

  -- a taker that the book takes in leaves the others as they are
  pub hears : (seat : ℕ) (v : BookSeatView T) (other : ℕ) (w : BookSeatView T) → v.keeps ≡ true → w.takes ≡ true → Joins AreKept seat v other w (heard_from v w) nobody
  hears seat v other w may ends s h at two at' =
      let both : BookSeatView T = heard_from v w in
      let mine = (h.fits seat v at).as_keeper may in
      let vs : List (BookSeatView T) = set s.views seat both in
      let was : get_elem? s.views other ≡ some w = ⊎_elim (λ (x : (other ≡ seat) × (both ≡ w)). absurd (two x.0)) (λ (x : (other ≢ seat) × (get_elem? s.views other ≡ some w)). x.1) (at_set s.views seat other both w at') in
      let theirs = (h.fits other w was).as_taker ends in
      let owner' : ℕ → ℕ = given h.owner w.number 0 in
      let few : w.number < v.number = is_low h.owner h.entries v seat other w mine two theirs in
      let Now : ℕ → BookSeatView T → Type 0 = λ j u. j ≢ other → Fits owner' h.entries j u in
      let now : AllAt Now vs = all_set Now s.views seat both
      (λ _. fits_keeper _ _ seat both refl record {
        first = mine.first;
        is_silent = refl;
        entries_are = mine.entries_are;
        later_owner = λ p far. given_same h.owner w.number 0 p (λ s. omega arith) ∙ mine.later_owner p far;
        later_entries = mine.later_entries;
        heard = λ _. record { owner_is = given_own h.owner w.number 0; few = few; mine_is = theirs.mine_is };
      })
      (λ j u away e apart. record {
        as_taker = λ s. let f = (h.fits j u e).as_taker s in
            record { owner_is = given_same h.owner w.number 0 u.number (λ n. apart (sym f.owner_is ∙ (ap h.owner n ∙ theirs.owner_is))) ∙ f.owner_is; mine_is = f.mine_is };
        as_keeper = λ t. absurd (away (((h.fits j u e).as_keeper t).first ∙ sym mine.first));
      }) in
      record {
        owner = owner';
        entries = h.entries;
        fits = all_set (Fits owner' h.entries) vs other nobody (fits_taker _ _ other nobody refl (unless_on refl)) (λ j u apart e. now j u e apart);
      }

  -- the taker that was heard goes on with one entry more
  pub enters : (seat : ℕ) (v : BookSeatView T) (what : T) → v.keeps ≡ true → v.hears ≡ true → Splits AreKept seat v (after_entry what v) (taker_after what v)
  enters seat v what may hears s h at =
      let left : BookSeatView T = after_entry what v in
      let right : BookSeatView T = taker_after what v in
      let mine = (h.fits seat v at).as_keeper may in
      let heard = mine.heard hears in
      let few = heard.few in
      let vs : List (BookSeatView T) = set s.views seat left in
      let new : ℕ = length vs in
      let owner' : ℕ → ℕ = given h.owner v.heard new in
      let entries' : List (Entry T) = h.entries ++ entry v.heard what ∷ [] in
      let as_left : Fits owner' entries' seat left = fits_keeper _ _ seat left refl record {
        first = mine.first;
        is_silent = refl;
        entries_are = ap (λ l. l ++ entry v.heard what ∷ []) mine.entries_are;
        later_owner = λ p far. given_same h.owner v.heard new p (λ s. omega arith) ∙ mine.later_owner p far;
        later_entries = λ p far. by_other p v.heard what h.entries (λ s. omega arith) ∙ mine.later_entries p far;
        heard = unless_on refl;
      } in
      record {
        owner = owner';
        entries = entries';
        fits = all_more (Fits owner' entries') vs right
            (fits_taker _ _ new right refl (λ _. record { owner_is = given_own h.owner v.heard new; mine_is = ap (λ l. l ++ what ∷ []) heard.mine_is ∙ sym (by_own v.heard what h.entries) }))
            (all_set (Fits owner' entries') s.views seat left as_left (λ j u other e. record {
              as_taker = λ s. let f = (h.fits j u e).as_taker s in
                  let apart : u.number ≢ v.heard = λ n. other (sym f.owner_is ∙ (ap h.owner n ∙ (heard.owner_is ∙ sym mine.first))) in
                  record { owner_is = given_same h.owner v.heard new u.number apart ∙ f.owner_is; mine_is = f.mine_is ∙ sym (by_other u.number v.heard what h.entries (λ n. apart (sym n))) };
              as_keeper = λ t. absurd (other (((h.fits j u e).as_keeper t).first ∙ sym mine.first));
            }));
      }

  -- the book forgets whom it heard, and learns that it has all of that one
  pub learn : (slots seat : ℕ) (me : Seated T) → me.0.keeps ≡ true → me.0.hears ≡ true → Allows AreKept slots seat me 0 (λ n. n) (learns (step slots 0 0 0 none) me)
  learn slots seat me may hears s h many at small =
      let v : BookSeatView T = me.0 in
      let mine = (h.fits seat v at).as_keeper may in
      let w : BookSeatView T = keeper v.number v.entries in (
        w,
        keeps,
        tt,
        record {
          owner = h.owner;
          entries = h.entries;
          fits = all_set (Fits h.owner h.entries) s.views seat w
              (fits_keeper _ _ seat w refl record {
                first = mine.first;
                is_silent = refl;
                entries_are = mine.entries_are;
                later_owner = mine.later_owner;
                later_entries = mine.later_entries;
                heard = unless_on refl;
              })
              (λ j u other e. h.fits j u e);
        },
        (
          refl,
          ap (entries_by v.heard) mine.entries_are ∙ sym (mine.heard hears).mine_is,
          λ p far. ap (entries_by p) mine.entries_are ∙ mine.later_entries p far,
        ),
      )
