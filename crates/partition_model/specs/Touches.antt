-- What a touch makes of the values of a partition in cache mode.
use Rattle.std.specs.Prelude.{◌≡◌, ◌⊎◌, List, [], ◌∷◌, ◌++◌, ℕ, None, length}
use Rattle.std.specs.List.{AllByRecursion}
use Rattle.partition_model.specs.declared.options.Mode.TheVariants.{Cache}
use Rattle.partition_model.specs.declared.options.Options.{Options}
use Rattle.partition_model.specs.declared.write.Op.TheVariants.{Touch}
use Rattle.partition_model.specs.declared.fate.Fate.TheVariants.{Passed}
use Rattle.partition_model.specs.Write.{IsWrite, write_of}
use Rattle.partition_model.specs.History.{History, answer_of}
use Rattle.partition_model.specs.Fate.{fate_of}

-- the history with a touch of this key behind it
abbrev pub touched : History → List ℕ → History
touched history key = history ++ write_of Touch key [] ∷ []

-- The key has the value that it had. Or it has none, since the log passed its item with the last write.
abbrev pub KeepsOrPasses : Options → History → History → List ℕ → Type 0
KeepsOrPasses options before after key =
    (answer_of options after key ≡ answer_of options before key) ⊎ ((answer_of options after key ≡ None) × (fate_of options after key ≡ Passed (length after)))

-- A touch leaves the value of its key, and gives no other key another value.
pub record TouchKeeps (options : Options) (history : History) (key : List ℕ) : Type 0 where
  pub own : answer_of options (touched history key) key ≡ answer_of options history key
  pub others : (other : List ℕ) → KeepsOrPasses options history (touched history key) other

-- so after each history
abbrev pub TouchesKeep : Type 0
TouchesKeep = (options : Options) (history : History) (key : List ℕ) → options.mode ≡ Cache → AllByRecursion IsWrite (touched history key) → TouchKeeps options history key
