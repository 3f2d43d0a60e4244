-- Tries that failed.
use Rattle.std.specs.Prelude.{◌≡◌, ℕ, ◌%◌, ◌<◌, ◌≤◌, ◌⊎◌, List, Contains}
use Rattle.partition_words.specs.declared.state.OwnerState.{OwnerState}
use Rattle.partition_words.specs.declared.state.Failure.{Failure}
use Rattle.partition_words.specs.Shape.{IsMain}
use Rattle.partition_words.specs.OwnerState.{epoch_in}

-- a try of a bucket that began with the first epoch and found the last one
abbrev pub failure : ℕ → ℕ → ℕ → Failure
failure b first last = record { bucket = b; first = first; last = last }

-- a write was under way, or one came between
abbrev pub IsFailure : Failure → Type 0
IsFailure f = (f.first ≤ f.last) × ((f.first % 2 ≡ 1) ⊎ (f.first < f.last))

-- each was of a main bucket whose epoch has come that far
abbrev pub FailsFit : OwnerState → List Failure → Type 0
FailsFit o fails = (f : Failure) → Contains fails f
    → IsMain o.shape f.bucket × (f.last ≤ epoch_in o f.bucket) × IsFailure f
