-- What the machine of a partition answered to a front.
use Rattle.std.specs.Prelude.{ℕ, ◌==◌, Bool, true, false, List, length, filter, Option, Some, None}
use Rattle.std.specs.List.{filter_map}
use Rattle.mica_words.specs.Hash.{partition_of}
use Rattle.partition_model.specs.declared.options.Options.{Options}
use Rattle.partition_model.specs.Write.{is_accepted}
use Rattle.partition_model.specs.Run.{RunStep}
use Rattle.fronts.specs.Looks.{Look}

-- A write, with its outcome and its stamp; or the value of a key, or none, at a stamp, by a try that the seat tells. Or a write that was made of a look;
-- or a look at a key, at a stamp, where nothing was written: no seat tells a try for it.
pub data Answered : Type 0 where
  wrote : RunStep → Answered
  got : List ℕ → ℕ → Option (List ℕ) → Answered
  changed : RunStep → Look → Answered
  kept : List ℕ → ℕ → Look → Answered

-- the key that was asked of
abbrev pub key_of : Answered → List ℕ
key_of (wrote step) = step.write.key
key_of (got key stamp value) = key
key_of (changed step look) = step.write.key
key_of (kept key stamp look) = key

-- the stamp that was told with the answer
abbrev pub stamp_given : Answered → ℕ
stamp_given (wrote step) = step.stamp
stamp_given (got key stamp value) = stamp
stamp_given (changed step look) = step.stamp
stamp_given (kept key stamp look) = stamp

-- the step of a write
abbrev pub step_in : Answered → Option RunStep
step_in (wrote step) = Some step
step_in (got key stamp value) = None
step_in (changed step look) = Some step
step_in (kept key stamp look) = None

-- whether it was answered by a try that the seat tells
abbrev pub is_get : Answered → Bool
is_get (wrote step) = false
is_get (got key stamp value) = true
is_get (changed step look) = false
is_get (kept key stamp look) = false

-- whether a write was accepted
abbrev pub accepts : Answered → Bool
accepts (wrote step) = is_accepted step.outcome
accepts (got key stamp value) = false
accepts (changed step look) = is_accepted step.outcome
accepts (kept key stamp look) = false

-- the partition of the key
abbrev pub partition_in : Options → Answered → ℕ
partition_in options answered = partition_of options.hashing (key_of answered) options.partitions

-- those of one partition
abbrev pub answers_of : Options → ℕ → List Answered → List Answered
answers_of options partition answers = filter (λ a. partition_in options a == partition) answers

-- the steps of the writes, in all partitions
abbrev pub steps_of : List Answered → List RunStep
steps_of answers = filter_map step_in answers

-- the steps of the writes in one partition
abbrev pub writes_of : Options → ℕ → List Answered → List RunStep
writes_of options partition answers = steps_of (answers_of options partition answers)

-- the gets in one partition
abbrev pub gets_of : Options → ℕ → List Answered → List Answered
gets_of options partition answers = filter is_get (answers_of options partition answers)

-- how many of the answers are of writes
abbrev pub count_of_writes : List Answered → ℕ
count_of_writes answers = length (steps_of answers)
