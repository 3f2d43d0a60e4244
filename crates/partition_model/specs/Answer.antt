-- Answers to gets.
use Rattle.std.specs.Prelude.{◌≡◌, ℕ, List, [], Option, Some, None}
use Rattle.partition_model.specs.declared.write.Answer.{Answer}
use Rattle.partition_model.specs.declared.write.Answer.TheVariants.{Hit, Miss}

-- The answer is a hit of the value that is there, which the buffer has, or a miss where there is none.
abbrev pub IsAnswer : Answer → List ℕ → Option (List ℕ) → Type 0
IsAnswer Hit buffer value = value ≡ Some buffer
IsAnswer Miss buffer value = (value ≡ None) × (buffer ≡ [])
