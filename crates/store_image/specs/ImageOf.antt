-- The image of the store that a trace leaves.
use Rattle.std.specs.Prelude.{◌≡◌, ℕ, List, [], ◌∷◌, Option, Some, None, if◌then◌else◌}
use Rattle.std.specs.Str.{bytes_eq}
use Rattle.mica_words.specs.Hash.{partition_of}
use Rattle.partition_model.specs.declared.options.Options.{Options}
use Rattle.partition_model.specs.History.{answer_of}
use Rattle.mica_trace.specs.declared.line.TraceLine.{TraceLine}
use Rattle.mica_trace.specs.declared.report.Line.{Line}
use Rattle.mica_trace.specs.RoundReport.{history_in}
use Rattle.mica_trace.specs.ExactReport.{ExactReport}
use Rattle.store_image.specs.ImageGrammar.{Pair}
use Rattle.store_image.specs.declared.made.Imaged.{Imaged}

-- the value that the pairs have for a key, if they have one
abbrev pub value_in : List Pair → List ℕ → Option (List ℕ)
value_in [] key = None
value_in (pair ∷ pairs) key = if bytes_eq pair.key key then Some pair.value else value_in pairs key

-- the value that a key has in its partition, by what is printed
abbrev pub value_after : Options → List TraceLine → List Line → List ℕ → Option (List ℕ)
value_after options trace report key = answer_of options (history_in options (partition_of options.hashing key options.partitions) trace report) key

-- The pairs are exactly those of all partitions after the trace's writes with the report's replies: each key has the value that its
-- partition's machine has for it, or none.
abbrev pub HasPairsOf : Options → List TraceLine → List Line → List Pair → Type 0
HasPairsOf options trace report pairs =
    (key : List ℕ) → value_in pairs key ≡ value_after options trace report key

-- a run of a trace on one thread: its exact report, and the pairs that it leaves
pub record IsImaged (options : Options) (trace : List TraceLine) (imaged : Imaged) : Type 0 where
  pub exact : ExactReport options trace imaged.report
  pub pairs : HasPairsOf options trace imaged.report imaged.image
