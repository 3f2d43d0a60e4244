-- What a book keeps: each taker's token has just what the book has of it, in order.
use Rattle.std.specs.Prelude.{◌≡◌, ℕ, ◌+◌, ◌<◌, ◌≤◌, true, false, List, [], ◌∷◌, ◌++◌}
use mathlib.Core.Option.{some}
use lib.ListN.{get_elem?}
use Rattle.atomic_table.specs.Table.{State, Me, Step}
use Rattle.turn_book.specs.declared.rule.Entry.{Entry}
use Rattle.turn_book.specs.declared.rule.BookSeatView.{BookSeatView}
use Rattle.turn_book.specs.Entries.{entry, entries_by}

module _ {T : Type 0} where
  -- the book's seat
  abbrev pub keeper : ℕ → List (Entry T) → BookSeatView T
  keeper takers entries = record { keeps = true; takes = false; number = takers; entries = entries; mine = []; hears = false; heard = 0 }

  -- the seat of a taker
  abbrev pub taker : ℕ → List T → BookSeatView T
  taker number mine = record { keeps = false; takes = true; number = number; entries = []; mine = mine; hears = false; heard = 0 }

  abbrev pub nobody : BookSeatView T
  nobody = record { keeps = false; takes = false; number = 0; entries = []; mine = []; hears = false; heard = 0 }

  abbrev pub new_book : BookSeatView T
  new_book = keeper 0 []

  -- the book once it has one taker more, and that taker
  abbrev pub with_taker : BookSeatView T → BookSeatView T
  with_taker v = keeper (v.number + 1) v.entries

  abbrev pub new_taker : BookSeatView T → BookSeatView T
  new_taker v = taker v.number []

  -- the book v, which knows what the taker w entered
  abbrev pub heard_from : BookSeatView T → BookSeatView T → BookSeatView T
  heard_from v w = record { keeps = true; takes = false; number = v.number; entries = v.entries; mine = w.mine; hears = true; heard = w.number }

  -- the book and the taker that it heard, after one entry more
  abbrev pub after_entry : T → BookSeatView T → BookSeatView T
  after_entry what v = keeper v.number (v.entries ++ entry v.heard what ∷ [])

  abbrev pub taker_after : T → BookSeatView T → BookSeatView T
  taker_after what v = taker v.heard (v.mine ++ what ∷ [])

  abbrev pub view_of_badge : List (BookSeatView T) → BookSeatView T
  view_of_badge [] = nobody
  view_of_badge (v ∷ vs) = v

module _ {T : Type 0} (owner : ℕ → ℕ) (entries : List (Entry T)) (seat : ℕ) (v : BookSeatView T) where
  -- each taker has one seat, which knows what it entered
  pub record FitsTaker : Type 0 where
    pub owner_is : owner v.number ≡ seat
    pub mine_is : v.mine ≡ entries_by v.number entries

  -- what the book heard of a taker, which has no other seat
  pub record FitsHeard : Type 0 where
    pub owner_is : owner v.heard ≡ 0
    pub few : v.heard < v.number
    pub mine_is : v.mine ≡ entries_by v.heard entries

  -- seat 0 is the book's: it knows the entries, and that there are none of takers that there are not
  pub record FitsKeeper : Type 0 where
    pub first : seat ≡ 0
    pub is_silent : v.takes ≡ false
    pub entries_are : v.entries ≡ entries
    pub later_owner : (p : ℕ) → v.number ≤ p → owner p ≡ 0
    pub later_entries : (p : ℕ) → v.number ≤ p → entries_by p entries ≡ []
    pub heard : v.hears ≡ true → FitsHeard

  pub record Fits : Type 0 where
    pub as_taker : v.takes ≡ true → FitsTaker
    pub as_keeper : v.keeps ≡ true → FitsKeeper

abbrev pub Seated : Type 0 → Type 0
Seated T = Me (Unit {0}) (BookSeatView T)

module _ {T : Type 0} where
  -- The rule. `owner` is the seat of each taker.
  pub record AreKept (s : State (Unit {0}) (BookSeatView T)) : Type 0 where
    pub owner : ℕ → ℕ
    pub entries : List (Entry T)
    pub fits : (seat : ℕ) (v : BookSeatView T) → get_elem? s.views seat ≡ some v → Fits owner entries seat v

  -- the book forgets the taker that it heard, and learns that it has all of that one
  abbrev pub learns : Step (Unit {0}) → Seated T → ℕ → Seated T → Type 0
  learns step me n now =
      (now ≡ (keeper me.0.number me.0.entries, me.1)) × (entries_by me.0.heard me.0.entries ≡ me.0.mine)
      × ((p : ℕ) → me.0.number ≤ p → entries_by p me.0.entries ≡ [])
