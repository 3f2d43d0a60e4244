-- A change of one connection, and the places of the others.
use Rattle.std.proofs.Common.{◌≡◌, ◌≢◌, ℕ, zero, suc, ◌-◌, ◌≤◌, Bool, true, false, true≢false, cond, ltb, List, [], ◌∷◌, ◌++◌, length, refl, sym, ap, ◌∙◌, subst, arith}
use Rattle.std.specs.Prelude.{◌==◌, ◌&&◌, not, slice_get, get_or, None, Some, is_some, IfSome}
use Rattle.std.specs.List.{position_or_len}
use Rattle.std.proofs.lemmas.Option.{none-some, same_Some, slice_get-get_or}
use Rattle.std.proofs.lemmas.List.{get_or_append_left}
use Rattle.std.proofs.lemmas.List.Folds.{position_or_len_push}
use Rattle.std.proofs.lemmas.List.Sums.{prefix_len-le-length}
use Rattle.std.proofs.lemmas.List.Quantifiers.{position-Some}
use Rattle.std.proofs.lemmas.Grind.{common_steps}
use Rattle.connections.specs.Connection.{Connection, new_connection, after_ask, after_close}
use Rattle.connections.specs.State.{changed, is_under, held}
use Rattle.connections.proofs.Places.{length_changed, held_there}
use Rattle.connection_loop.specs.Open.{asks_in, IsAt}

-- it leaves the number, and whether it was closed here, and lets it be asked for as often
pub record KeepsOpen (f : Connection → Connection) : Type 0 where
  pub number : (x : Connection) → (f x).number ≡ x.number
  pub closed : (x : Connection) → (f x).is_closed ≡ x.is_closed
  pub asks : (x : Connection) → x.asks ≤ (f x).asks

-- is_under depends on the number and on whether it was closed
same_under : (n : ℕ) (x y : Connection) → y.number ≡ x.number → y.is_closed ≡ x.is_closed → is_under n y ≡ is_under n x
same_under n x y number closed = ap (λ m. m == n && not y.is_closed) number ∙ ap (λ b. x.number == n && not b) closed

-- where the connection that is changed is under the number as before, the place of that number is the same
same_place : (n c : ℕ) (f : Connection → Connection) (all : List Connection) → ((x : Connection) → slice_get all c ≡ Some x → is_under n (f x) ≡ is_under n x)
    → position_or_len (is_under n) (changed c f all) ≡ position_or_len (is_under n) all
same_place n c f [] same = refl
same_place n zero f (x ∷ all) same = let e = same x refl in grind (arith, common_steps)
same_place n (suc c) f (x ∷ all) same = let rest = same_place n c f all same in grind (arith, common_steps)

pub same_held : (n c : ℕ) (f : Connection → Connection) (all : List Connection) → ((x : Connection) → slice_get all c ≡ Some x → is_under n (f x) ≡ is_under n x) → held n (changed c f all) ≡ held n all
same_held n c f all same =
    ap (λ p. cond (ltb p (length (changed c f all))) (Some p) None) (same_place n c f all same)
    ∙ ap (λ k. cond (ltb (position_or_len (is_under n) all) k) (Some (position_or_len (is_under n) all)) None) (length_changed c f all)

-- each other connection is as it was
pub elsewhere : (c d : ℕ) (f : Connection → Connection) (all : List Connection) → c ≢ d → slice_get (changed c f all) d ≡ slice_get all d
elsewhere c d f [] other = refl
elsewhere zero zero f (x ∷ all) other = absurd (other refl)
elsewhere zero (suc d) f (x ∷ all) other = refl
elsewhere (suc c) zero f (x ∷ all) other = refl
elsewhere (suc c) (suc d) f (x ∷ all) other = elsewhere c d f all (λ e. other (ap suc e))

pub changed_here : (c : ℕ) (f : Connection → Connection) (all : List Connection) (x : Connection) → slice_get all c ≡ Some x → slice_get (changed c f all) c ≡ Some (f x)
changed_here c f [] x is = absurd (none-some x is)
changed_here zero f (y ∷ all) x is = ap (λ z. Some (f z)) (same_Some y x is)
changed_here (suc c) f (y ∷ all) x is = changed_here c f all x is

-- what a change keeps of one is kept of each
pub if_changed : (P : Connection → Type 0) (c : ℕ) (f : Connection → Connection) → ((x : Connection) → P x → P (f x)) → (d : ℕ) (all : List Connection) → IfSome (slice_get all d) P
    → IfSome (slice_get (changed c f all) d) P
if_changed P c f keeps d [] is = is
if_changed P zero f keeps zero (x ∷ all) is = keeps x is
if_changed P zero f keeps (suc d) (x ∷ all) is = is
if_changed P (suc c) f keeps zero (x ∷ all) is = is
if_changed P (suc c) f keeps (suc d) (x ∷ all) is = if_changed P c f keeps d all is

-- what is told of one that was made stays with one more
pub if_pushed : (P : Connection → Type 0) (all : List Connection) (x : Connection) (d : ℕ) → is_some (slice_get all d) ≡ true → IfSome (slice_get all d) P → IfSome (slice_get (all ++ x ∷ []) d) P
if_pushed P [] x d made is = absurd (true≢false (sym made))
if_pushed P (y ∷ all) x zero made is = is
if_pushed P (y ∷ all) x (suc d) made is = if_pushed P all x d made is

more_asks : (c d : ℕ) (f : Connection → Connection) (all : List Connection) → ((x : Connection) → x.asks ≤ (f x).asks) → asks_in (slice_get all d) ≤ asks_in (slice_get (changed c f all) d)
more_asks c d f [] more = omega arith
more_asks zero zero f (x ∷ all) more = more x
more_asks zero (suc d) f (x ∷ all) more = omega arith
more_asks (suc c) zero f (x ∷ all) more = omega arith
more_asks (suc c) (suc d) f (x ∷ all) more = more_asks c d f all more

pub changed_keeps : (f : Connection → Connection) → KeepsOpen f → (c : ℕ) (all : List Connection) (n d a : ℕ) → IsAt n d a all → IsAt n d a (changed c f all)
changed_keeps f keeps c all n d a at = (
  same_held n c f all (λ x is. same_under n x (f x) (keeps.number x) (keeps.closed x)) ∙ at.0,
  omega (arith, at.1, more_asks c d f all keeps.asks),
)

-- what is under a number is there, and has it
pub there : (n c : ℕ) (all : List Connection) → held n all ≡ Some c → (x : Connection) × (slice_get all c ≡ Some x) × (is_under n x ≡ true)
there n c all is =
    let nobody = new_connection 0 0 [] in
    (get_or all c nobody, slice_get-get_or all c nobody (held_there n all c is), (position-Some (is_under n) all c nobody is).1)

-- a connection is under one number
one_number : (n m : ℕ) (x : Connection) → is_under n x ≡ true → is_under m x ≡ true → m ≡ n
one_number n m x here other = grind (arith, common_steps)

-- different numbers have different places
pub two_places : (n m c d : ℕ) (all : List Connection) → m ≢ n → held n all ≡ Some c → held m all ≡ Some d → c ≢ d
two_places n m c d all other here is same =
    let x = there n c all here in
    let y = there m c all (is ∙ ap Some (sym same)) in
    let e : x.0 ≡ y.0 = same_Some x.0 y.0 (sym x.1 ∙ y.1) in
    other (one_number n m x.0 x.2 (subst (λ z. is_under m z ≡ true) (sym e) y.2))

-- after one was asked for again
pub asked_here : (n c a : ℕ) (all : List Connection) → IsAt n c a all → IsAt n c (a - 1) (changed c after_ask all)
asked_here n c a all at =
    let x = there n c all at.0 in
    let before : asks_in (slice_get all c) ≡ x.0.asks = ap asks_in x.1 in
    let after : asks_in (slice_get (changed c after_ask all) c) ≡ x.0.asks - 1 = ap asks_in (changed_here c after_ask all x.0 x.1) in
    (same_held n c after_ask all (λ y is. refl) ∙ at.0, omega (arith, at.1, before, after))

pub asked_others : (n c m d a : ℕ) (all : List Connection) → m ≢ n → held n all ≡ Some c → IsAt m d a all → IsAt m d a (changed c after_ask all)
asked_others n c m d a all other here at = (
  same_held m c after_ask all (λ y is. refl) ∙ at.0,
  subst (λ o. a ≤ asks_in o) (sym (elsewhere c d after_ask all (two_places n m c d all other here at.0))) at.1,
)

-- a number that a connection is not under is not that of the same, closed
pub closed_other : (n m : ℕ) (x : Connection) → m ≢ n → is_under n x ≡ true → is_under m (after_close x) ≡ is_under m x
closed_other n m x other here = by (is_under m x) refl
  where
    gone : (b : Bool) → b && false ≡ false
    gone true = refl
    gone false = refl

    by : (b : Bool) → is_under m x ≡ b → (x.number == m && not true) ≡ b
    by true is = absurd (other (one_number n m x here is))
    by false is = gone (x.number == m)

pub closed_others : (n c m d a : ℕ) (all : List Connection) → m ≢ n → held n all ≡ Some c → IsAt m d a all → IsAt m d a (changed c after_close all)
closed_others n c m d a all other here at =
    let x = there n c all here in (
      same_held m c after_close all (λ y is. closed_other n m y other (subst (λ z. is_under n z ≡ true) (same_Some x.0 y (sym x.1 ∙ is)) x.2)) ∙ at.0,
      subst (λ o. a ≤ asks_in o) (sym (elsewhere c d after_close all (two_places n m c d all other here at.0))) at.1,
    )

-- with one more connection, each is where it was
pub pushed : (n d a : ℕ) (all : List Connection) (y : Connection) → IsAt n d a all → IsAt n d a (all ++ y ∷ [])
pushed n d a all y at =
    let nobody = new_connection 0 0 [] in
    let lt = held_there n all d at.0 in
    let p = position_or_len_push (is_under n) all y in
    let same : slice_get (all ++ y ∷ []) d ≡ slice_get all d =
    slice_get-get_or (all ++ y ∷ []) d nobody (grind (arith, common_steps)) ∙ ap Some (get_or_append_left all (y ∷ []) nobody d lt)
    ∙ sym (slice_get-get_or all d nobody lt) in
    let is : held n (all ++ y ∷ []) ≡ Some d = grind (arith, common_steps) in
    (is, subst (λ o. a ≤ asks_in o) (sym same) at.1)

-- and it is behind them, under a number that was free
pub pushed_here : (n window : ℕ) (bytes : List ℕ) (all : List Connection) → held n all ≡ None → IsAt n (length all) 0 (all ++ new_connection n window bytes ∷ [])
pushed_here n window bytes all free =
    let p = position_or_len_push (is_under n) all (new_connection n window bytes) in
    let le = prefix_len-le-length (λ x. not (is_under n x)) all in
    let is : held n (all ++ new_connection n window bytes ∷ []) ≡ Some (length all) = grind (arith, common_steps) in
    (is, omega arith)
