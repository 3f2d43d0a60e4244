-- What a program writes, as contracts see it.
use Rattle.std.specs.Prelude.{ℕ, ◌<◌, List, [], ◌∷◌, ◌++◌, length, take, Option}
use Rattle.std.specs.Io.KnownBytes.{Appends}
use Rattle.outside.specs.declared.sink.Sink.{Ghosts as SinkTells}

-- a sink: the bytes that it took, where it tells them, and its count of faults
pub record SinkFacts : Type 0 where
  pub taken : Option (List ℕ)
  pub faults : ℕ

-- by what a sink tells
abbrev pub sink_facts : {K : Type 0} → SinkTells K → K → SinkFacts
sink_facts sink = λ k. record { taken = sink.taken k; faults = sink.faults k }

-- a line that names what went wrong
abbrev pub with_line_feed : List ℕ → List ℕ
with_line_feed text = text ++ 10 ∷ []

-- the sink took a proper prefix of the text, and nothing else
abbrev pub AppendsPart : SinkFacts → SinkFacts → List ℕ → Type 0
AppendsPart old new text = (n : ℕ) × (n < length text) × Appends old.taken new.taken (take n text)
