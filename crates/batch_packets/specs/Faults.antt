-- The first fault, in an order of tests.
use Rattle.std.specs.Prelude.{◌≡◌, Bool, List, [], ◌∷◌, Option, Some, None, Result, Ok, Err, if◌then◌else◌}
use Rattle.batch_packets.specs.declared.fault.BatchFault.{BatchFault}
use Rattle.batch_packets.specs.declared.fault.BatchFault.TheVariants as faults

-- the fault of the first test that holds
abbrev pub first_of : List (Bool × BatchFault) → Option BatchFault
first_of [] = None
first_of (test ∷ tests) = if test.0 then Some test.1 else first_of tests

-- the earlier fault, else the later one
abbrev pub or_later : Option BatchFault → Option BatchFault → Option BatchFault
or_later None later = later
or_later (Some fault) later = Some fault

-- A fault is this first one. Out of memory is the one free answer.
abbrev pub IsFirstFault : Option BatchFault → BatchFault → Type 0
IsFirstFault first faults.NoMemory = Unit {0}
IsFirstFault first fault = first ≡ Some fault

-- an answer is Ok only where there is no fault, and a fault only where that is the first one
abbrev pub AgreesWith : {T : Type 0} → Option BatchFault → Result T BatchFault → Type 0
AgreesWith first (Ok value) = first ≡ None
AgreesWith first (Err fault) = IsFirstFault first fault

-- an answer is Ok where there is no fault, and else the first one
abbrev pub AnswersExactly : {T : Type 0} → Option BatchFault → Result T BatchFault → Type 0
AnswersExactly first (Ok value) = first ≡ None
AnswersExactly first (Err fault) = first ≡ Some fault
