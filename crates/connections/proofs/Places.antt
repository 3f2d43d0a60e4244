-- A change at one place.
use Rattle.std.proofs.Common.{◌≡◌, ℕ, zero, suc, ◌<◌, ◌≤◌, Bool, true, false, cond, ltb, List, [], ◌∷◌, length, refl, sym, ap, ◌∙◌, subst, arith}
use Rattle.std.specs.Prelude.{◌==◌, ◌&&◌, not, slice_get, slice_set, slice_index_or, Option, None, Some, IfSome}
use Rattle.std.specs.List.{position_or_len}
use Rattle.std.proofs.lemmas.Option.{none-some, same_Some, slice_get-get_or, slice_get_past}
use Rattle.std.proofs.lemmas.Bool.{ltb-true}
use Rattle.std.proofs.lemmas.Grind.{common_steps}
use Rattle.connections.specs.Connection.{Connection}
use Rattle.connections.specs.State.{changed, is_under, held, number_or, number_at}

pub length_changed : (c : ℕ) (f : Connection → Connection) (all : List Connection) → length (changed c f all) ≡ length all
length_changed c f [] = refl
length_changed zero f (x ∷ all) = refl
length_changed (suc c) f (x ∷ all) = ap suc (length_changed c f all)

pub changed_is : (c : ℕ) (f : Connection → Connection) (all : List Connection) (x : Connection) → slice_get all c ≡ Some x → changed c f all ≡ slice_set all c (f x)
changed_is c f [] x is = absurd (none-some x is)
changed_is zero f (y ∷ all) x is = ap (λ z. f z ∷ all) (same_Some y x is)
changed_is (suc c) f (y ∷ all) x is = ap (λ ys. y ∷ ys) (changed_is c f all x is)

pub changed_none : (c : ℕ) (f : Connection → Connection) (all : List Connection) → slice_get all c ≡ None → changed c f all ≡ all
changed_none c f [] is = refl
changed_none zero f (y ∷ all) is = absurd (none-some y (sym is))
changed_none (suc c) f (y ∷ all) is = ap (λ ys. y ∷ ys) (changed_none c f all is)

-- the connection at a place was changed there
pub changed_set : (c : ℕ) (f : Connection → Connection) (all : List Connection) (x y : Connection) → c < length all → x ≡ slice_index_or all c x → y ≡ f x
    → slice_set all c y ≡ changed c f all
changed_set c f all x y there is change =
    ap (slice_set all c) change ∙ sym (changed_is c f all x (slice_get-get_or all c x there ∙ ap Some (sym is)))

pub number_there : (c : ℕ) (all : List Connection) (x : Connection) → c < length all → x ≡ slice_index_or all c x → x.number ≡ number_at c all
number_there c all x there is = sym (ap (number_or c) (slice_get-get_or all c x there ∙ ap Some (sym is)))

pub changed_past : (c : ℕ) (f : Connection → Connection) (all : List Connection) → length all ≤ c → changed c f all ≡ all
changed_past c f all past = changed_none c f all (slice_get_past all c past)

pub number_past : (c : ℕ) (all : List Connection) → length all ≤ c → c ≡ number_at c all
number_past c all past = sym (ap (number_or c) (slice_get_past all c past))

-- where a connection is under a number, or how many there are
abbrev place_in : ℕ → List Connection → ℕ
place_in number [] = 0
place_in number (x ∷ all) = cond (not (is_under number x)) (suc (place_in number all)) 0

same_place : (number : ℕ) (all : List Connection) → place_in number all ≡ position_or_len (is_under number) all
same_place number [] = refl
same_place number (x ∷ all) = grind (arith, common_steps, same_place number all)

found : (number : ℕ) (all : List Connection) (c : ℕ) → held number all ≡ Some c → (c ≡ place_in number all) × (place_in number all < length all)
found number all c is = by (ltb (position_or_len (is_under number) all) (length all)) refl is
  where
    by : (b : Bool) → ltb (position_or_len (is_under number) all) (length all) ≡ b → cond b (Some (position_or_len (is_under number) all)) None ≡ Some c
        → (c ≡ place_in number all) × (place_in number all < length all)
    by true lt is =
        let same = same_place number all in
        let at : position_or_len (is_under number) all ≡ c = same_Some _ _ is in
        let below = ltb-true _ _ lt in
        (omega arith, omega arith)
    by false ge is = absurd (none-some c is)

here : (number : ℕ) (all : List Connection) → place_in number all < length all → IfSome (slice_get all (place_in number all)) (λ x. is_under number x ≡ true)
here number [] lt = absurd (omega arith)
here number (x ∷ all) lt = by (here number all) (is_under number x) refl lt
  where
    by : (place_in number all < length all → IfSome (slice_get all (place_in number all)) (λ y. is_under number y ≡ true)) → (b : Bool) → is_under number x ≡ b
        → cond (not b) (suc (place_in number all)) 0 < suc (length all)
        → IfSome (slice_get (x ∷ all) (cond (not b) (suc (place_in number all)) 0)) (λ y. is_under number y ≡ true)
    by rest true is lt = is
    by rest false is lt = rest (omega arith)

open_where : (a b : Bool) → (a && not b) ≡ true → b ≡ false
open_where true true h = sym h
open_where true false h = refl
open_where false true h = sym h
open_where false false h = refl

if_open : (o : Option Connection) (number : ℕ) → IfSome o (λ x. is_under number x ≡ true) → IfSome o (λ x. x.is_closed ≡ false)
if_open None number h = h
if_open (Some x) number h = open_where (x.number == number) x.is_closed h

-- what is under a number is there, and was not closed
pub held_there : (number : ℕ) (all : List Connection) (c : ℕ) → held number all ≡ Some c → c < length all
held_there number all c is = let f = found number all c is in omega (arith, f.0, f.1)

pub held_open : (number : ℕ) (all : List Connection) (c : ℕ) → held number all ≡ Some c → IfSome (slice_get all c) (λ x. x.is_closed ≡ false)
held_open number all c is =
    let f = found number all c is in
    if_open (slice_get all c) number (subst (λ p. IfSome (slice_get all p) (λ x. is_under number x ≡ true)) (sym f.0) (here number all f.1))
