-- What is found by a look at a key, with what is counted behind the same history.
use Rattle.std.specs.Prelude.{◌≡◌, ℕ, List, length, Option}
use Rattle.partition_model.specs.declared.options.Options.{Options}
use Rattle.partition_model.specs.History.{History, answer_of}
use Rattle.fronts.specs.declared.changing.When.{When}
use Rattle.fronts.specs.Flushes.{flushed_at, waits_at, flushes_in}

-- the value of the key, or none, and when that was
pub record Look : Type 0 where
  pub when : When
  pub value : Option (List ℕ)

-- a second, with the counts behind this history
abbrev pub when_after : Options → ℕ → History → When
when_after options second history = record {
  second = second;
  written = length history;
  flushed = flushed_at second (flushes_in options.hashing options.buckets history);
  until = waits_at second (flushes_in options.hashing options.buckets history);
}

-- it is what the machine has behind this history
pub record IsLookAt (options : Options) (history : History) (key : List ℕ) (look : Look) : Type 0 where
  pub when : look.when ≡ when_after options look.when.second history
  pub value : look.value ≡ answer_of options history key
