-- Writes that stand, in order, among the steps of a machine.
use Rattle.std.proofs.Common.{◌≡◌, ◌≤◌, ◌⊎◌, inl, inr, List, [], ◌∷◌, ◌++◌, length, refl, arith}
use Rattle.partition_model.specs.Run.{RunStep}

-- each write is a step of its own, and the steps stand in the order of the writes
abbrev pub StandAmong : List RunStep → List RunStep → Type 0
StandAmong [] steps = Unit {0}
StandAmong (write ∷ later) [] = ⊥
StandAmong (write ∷ later) (step ∷ steps) = ((write ≡ step) × StandAmong later steps) ⊎ StandAmong (write ∷ later) steps

pub stand_after : (more steps writes : List RunStep) → StandAmong writes steps → StandAmong writes (more ++ steps)
stand_after [] steps writes h = h
stand_after (m ∷ more) steps [] h = tt
stand_after (m ∷ more) steps (w ∷ writes) h = inr (stand_after more steps (w ∷ writes) h)

pub stand_before : (writes steps more : List RunStep) → StandAmong writes steps → StandAmong writes (steps ++ more)
stand_before [] steps more h = tt
stand_before (w ∷ writes) [] more h = absurd h
stand_before (w ∷ writes) (s ∷ steps) more (inl h) = inl (h.0, stand_before writes steps more h.1)
stand_before (w ∷ writes) (s ∷ steps) more (inr h) = inr (stand_before (w ∷ writes) steps more h)

-- there are no more writes than steps
pub stand_few : (writes steps : List RunStep) → StandAmong writes steps → length writes ≤ length steps
stand_few [] steps h = omega arith
stand_few (w ∷ writes) [] h = absurd h
stand_few (w ∷ writes) (s ∷ steps) (inl h) = let few = stand_few writes steps h.1 in omega arith
stand_few (w ∷ writes) (s ∷ steps) (inr h) = let few = stand_few (w ∷ writes) steps h in omega arith

-- where there are no more steps than writes, they are the same
pub stand_all : (writes steps : List RunStep) → StandAmong writes steps → length steps ≤ length writes → writes ≡ steps
stand_all [] [] h le = refl
stand_all [] (s ∷ steps) h le = absurd (omega arith)
stand_all (w ∷ writes) [] h le = absurd h
stand_all (w ∷ writes) (s ∷ steps) (inl h) le = let rest = stand_all writes steps h.1 (omega arith) in λ i. h.0 i ∷ rest i
stand_all (w ∷ writes) (s ∷ steps) (inr h) le = absurd (let few = stand_few (w ∷ writes) steps h in omega arith)
