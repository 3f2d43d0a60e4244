-- What a sink takes where a report is printed.
use Rattle.std.specs.Prelude.{ℕ, ◌<◌, List, Option, length, take}
use Rattle.std.specs.Io.KnownBytes.{Appends}
use Rattle.mica_trace.specs.declared.report.Line.{Line}
use Rattle.mica_trace.specs.ReportGrammar.{report_text}

-- the sink took the text of such a report, and nothing else, where it tells its bytes
pub record PrintsText (IsReportOf : List Line → Type 0) (before after : Option (List ℕ)) : Type 0 where
  pub report : List Line
  pub is_report : IsReportOf report
  pub taken : Appends before after (report_text report)

-- the sink took a proper prefix of it
pub record PrintsPart (IsReportOf : List Line → Type 0) (before after : Option (List ℕ)) : Type 0 where
  pub report : List Line
  pub is_report : IsReportOf report
  pub count : ℕ
  pub proper : count < length (report_text report)
  pub taken : Appends before after (take count (report_text report))
