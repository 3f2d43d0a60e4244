-- The headline: what a replay has done that ends with the status Done. `laws.rt` says that each one has.
use Rattle.std.specs.Prelude.{ℕ, List}
use Rattle.std.specs.Io.KnownBytes.{Appends, Consumes}
use Rattle.partition_model.specs.declared.options.Options.{Options}
use Rattle.mica_trace.specs.declared.line.TraceLine.{TraceLine}
use Rattle.mica_trace.specs.declared.report.Line.{Line}
use Rattle.mica_trace.specs.TraceGrammar.{IsTrace}
use Rattle.mica_trace.specs.ReportGrammar.{report_text}
use Rattle.mica_trace.specs.LawfulReport.{LawfulReport}
use Rattle.server_words.specs.Limits.{IsTooLong}
use Rattle.mica_cmd.specs.Outside.{SourceFacts, IsReadUp}
use Rattle.server_words.specs.Output.{SinkFacts}

-- the source gave these bytes, which are not too many, and was read to its end
pub record ReadsWhole (old new : SourceFacts) (bytes : List ℕ) : Type 0 where
  pub given : Consumes old.left new.left bytes
  pub few : ¬ (IsTooLong bytes)
  pub ended : IsReadUp new

-- a replay with these options has printed a lawful report
pub record PrintsLawfulReport (options : Options) (source source' : SourceFacts) (sink sink' : SinkFacts) : Type 0 where
  -- the source gave these bytes and was read to its end,
  pub bytes : List ℕ
  pub read : ReadsWhole source source' bytes
  -- they are the text of this trace,
  pub trace : List TraceLine
  pub spelled : IsTrace bytes trace
  -- this report is lawful for it,
  pub report : List Line
  pub lawful : LawfulReport options trace report
  -- and the sink took the report's text, and nothing else
  pub printed : Appends sink.taken sink'.taken (report_text report)
