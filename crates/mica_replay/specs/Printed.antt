-- What a replay prints and keeps.
use Rattle.std.specs.Prelude.{ℕ, List, Option}
use Rattle.partition_model.specs.declared.options.Options.{Options}
use Rattle.mica_trace.specs.declared.line.TraceLine.{TraceLine}
use Rattle.mica_trace.specs.Printed as printed
use Rattle.partition_table.specs.declared.tables.KeptSeat.{KeptSeat}
use Rattle.mica_replay.specs.Replayed.{IsReplayed}

-- the sink took the text of a lawful report of the trace, and the seats of that run are kept
abbrev pub PrintsReport : Options → List TraceLine → Option (List ℕ) → Option (List ℕ) → List KeptSeat → Type 0
PrintsReport options trace before after kept = printed.PrintsText (λ report. IsReplayed options trace report kept) before after

-- the sink took a proper prefix of it
abbrev pub PrintsPart : Options → List TraceLine → Option (List ℕ) → Option (List ℕ) → List KeptSeat → Type 0
PrintsPart options trace before after kept = printed.PrintsPart (λ report. IsReplayed options trace report kept) before after
