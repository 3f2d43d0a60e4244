-- Numbers of connections below a bound.
use Rattle.std.proofs.Common.{◌≡◌, ℕ, zero, suc, ◌+◌, ◌≤◌, true, List, [], ◌∷◌, ◌++◌, length, refl, ap, arith}
use Rattle.std.specs.Prelude.{◌&&◌, nat_lt, None}
use Rattle.std.specs.List.{position_or_len}
use Rattle.std.proofs.lemmas.Grind.{common_steps}
use Rattle.connections.specs.Connection.{Connection}
use Rattle.connections.specs.State.{changed, is_under, held}
use Rattle.memory_connections.specs.MemoryConnection.{are_below}

-- a change keeps the number of each
abbrev pub KeepsNumber : (Connection → Connection) → Type 0
KeepsNumber f = (x : Connection) → (f x).number ≡ x.number

pub below_changed : (bound c : ℕ) (f : Connection → Connection) (all : List Connection) → KeepsNumber f → are_below bound (changed c f all) ≡ are_below bound all
below_changed bound c f [] keeps = refl
below_changed bound zero f (x ∷ all) keeps = ap (λ n. nat_lt n bound && are_below bound all) (keeps x)
below_changed bound (suc c) f (x ∷ all) keeps = ap (λ b. nat_lt x.number bound && b) (below_changed bound c f all keeps)

pub below_push : (bound : ℕ) (all : List Connection) (x : Connection) → are_below bound all ≡ true → x.number ≤ bound → are_below (bound + 1) (all ++ x ∷ []) ≡ true
below_push bound [] x below low = grind (arith, common_steps)
below_push bound (y ∷ all) x below low =
    let rest : are_below bound all ≡ true = grind (arith, common_steps) in
    let later = below_push bound all x rest low in
    grind (arith, common_steps)

under_none : (bound : ℕ) (all : List Connection) → are_below bound all ≡ true → position_or_len (is_under bound) all ≡ length all
under_none bound [] below = refl
under_none bound (y ∷ all) below =
    let rest : are_below bound all ≡ true = grind (arith, common_steps) in
    let later = under_none bound all rest in
    grind (arith, common_steps)

-- a number above all is free
pub above_all : (bound : ℕ) (all : List Connection) → are_below bound all ≡ true → held bound all ≡ None
above_all bound all below = let none = under_none bound all below in grind (arith, common_steps)
