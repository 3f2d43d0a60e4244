-- What the command `check` finds of the bytes that the source gave.
use Rattle.std.specs.Prelude.{◌≢◌, ⊤, ℕ, List, ◌++◌, codes, Option, Some, None}
use Rattle.std.specs.Fmt.{decimal}
use Rattle.partition_model.specs.declared.options.Options.{Options}
use Rattle.mica_trace.specs.declared.line.TraceLine.{TraceLine}
use Rattle.mica_trace.specs.declared.line.TraceFault.TheVariants.{NoMemory as NoRoom}
use Rattle.mica_trace.specs.declared.report.Line.{Line}
use Rattle.mica_trace.specs.declared.report_reader.ReportFault.TheVariants.{BadLine}
use Rattle.mica_trace.specs.TraceGrammar.{IsTrace, IsNoTrace, Refuses, fault_text}
use Rattle.mica_trace.specs.ReportGrammar.{IsReport, RefusesReport}
use Rattle.report_check.specs.declared.check.Verdict.{Verdict}
use Rattle.report_check.specs.declared.check.Verdict.TheVariants as verdict
use Rattle.report_check.specs.FirstUnlawful.{IsVerdict}
use Rattle.mica_cmd.specs.declared.status.Status.{Status}
use Rattle.mica_cmd.specs.declared.status.Status.TheVariants.{Done, TraceRefused, Unlawful as UnlawfulReport, ReportRefused}
use Rattle.mica_cmd.specs.declared.finding.Finding.{Finding}
use Rattle.mica_cmd.specs.declared.finding.Finding.TheVariants.{Lawful, Unlawful, NoReport, BadReport, NoTrace}
use Rattle.mica_cmd.specs.CheckParts.{HasParts}

-- the text is a report, and this is the verdict on it
abbrev pub HasVerdict : Options → List TraceLine → List ℕ → Verdict → Type 0
HasVerdict options trace text verdict = (report : List Line) × IsReport text report × IsVerdict options trace report verdict

-- what is found of the text of a report
abbrev pub FindsOfReport : Options → List TraceLine → List ℕ → Finding → Type 0
FindsOfReport options trace text Lawful = HasVerdict options trace text verdict.Lawful
FindsOfReport options trace text (Unlawful n) = HasVerdict options trace text (verdict.Unlawful n)
FindsOfReport options trace text (BadReport n) = RefusesReport text (BadLine n)
FindsOfReport options trace text _ = ⊥

-- what is found behind a trace: that no line `check` stands there, or what is found of the text behind it
abbrev pub FindsBehind : Options → List TraceLine → Option (List ℕ) → Finding → Type 0
FindsBehind options trace None NoReport = ⊤
FindsBehind options trace None _ = ⊥
FindsBehind options trace (Some text) finding = FindsOfReport options trace text finding

-- What is found of what stands before the line `check` and behind it: the first fault of a part before it that is no trace, or what is
-- found behind the trace.
abbrev pub FindsOfParts : Options → List ℕ → Option (List ℕ) → Finding → Type 0
FindsOfParts options before after (NoTrace fault) = (fault ≢ NoRoom) × Refuses before fault × IsNoTrace before
FindsOfParts options before after finding = (trace : List TraceLine) × IsTrace before trace × FindsBehind options trace after finding

-- what is found of bytes
abbrev pub Finds : Options → List ℕ → Finding → Type 0
Finds options bytes finding =
    (before : List ℕ) × (after : Option (List ℕ)) × HasParts bytes before after × FindsOfParts options before after finding

-- what a verdict says
abbrev pub finding_by : Verdict → Finding
finding_by verdict.Lawful = Lawful
finding_by (verdict.Unlawful n) = Unlawful n

-- the text of a finding, without its line feed, and its status
abbrev pub finding_text : Finding → List ℕ
finding_text Lawful = codes "lawful"
finding_text (Unlawful n) = codes "unlawful line " ++ decimal n
finding_text NoReport = codes "no report"
finding_text (BadReport n) = codes "bad report line " ++ decimal n
finding_text (NoTrace fault) = fault_text fault

abbrev pub status_of : Finding → Status
status_of Lawful = Done
status_of (Unlawful n) = UnlawfulReport
status_of NoReport = ReportRefused
status_of (BadReport n) = ReportRefused
status_of (NoTrace fault) = TraceRefused
