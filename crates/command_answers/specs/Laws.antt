-- What holds of a client's bytes as more of them come.
use Rattle.std.specs.Prelude.{ℕ, List, ◌++◌, drop}
use Rattle.partition_model.specs.declared.options.Options.{Options}
use Rattle.command_answers.specs.Exchange.{Exchange}
use Rattle.command_answers.specs.Spells.{Spells, taken_by}

-- It does not matter in which pieces they come: what is spelled stays so, and what is left is what stands behind it.
abbrev pub GoesOnSpelling : Type 0
GoesOnSpelling = (options : Options) (base : ℕ) (bytes more : List ℕ) (exchanges : List Exchange) (rest : List ℕ)
    → Spells options base bytes exchanges rest → Spells options base (bytes ++ more) exchanges (drop (taken_by exchanges) (bytes ++ more))
