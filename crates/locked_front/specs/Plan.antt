-- What the partitions of a server are that its fronts own in turn.
use Rattle.std.specs.Prelude.{ℕ, []}
use Rattle.atomic_table.specs.Seated.{TableId}
use Rattle.mica_words.specs.declared.hashing.Hashing.TheVariants.{Fnv1a}
use Rattle.partition_model.specs.declared.options.Mode.TheVariants.{Cache}
use Rattle.partition_model.specs.declared.options.Options.{Options}
use Rattle.partition_model.specs.History.{History}

-- the options, how many fronts there are, and of each partition by its number the book, the table, and the history that it began with
pub record Plan : Type 0 where
  pub options : Options
  pub fronts : ℕ
  pub books : ℕ → TableId
  pub homes : ℕ → TableId
  pub origin : ℕ → History

-- a plan for nothing, which each run replaces by its own
abbrev pub no_table : TableId
no_table = record { words = 0; slots = 0; views_name = 0; atom = 0; block = 0; offset = 0; slot_names = [] }

abbrev pub no_plan : Plan
no_plan = record {
  options = record { mode = Cache; partitions = 0; buckets = 0; spares = 0; words = 0; readers = 0; tries = 0; wear = 0; hashing = Fnv1a };
  fronts = 0;
  books = λ _. no_table;
  homes = λ _. no_table;
  origin = λ _. [];
}
