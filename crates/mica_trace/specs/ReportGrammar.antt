-- Reports, by cases on their lines.
use Rattle.std.specs.Prelude.{◌≡◌, ◌≢◌, ℕ, ◌+◌, ◌<◌, ◌^◌, List, [], ◌∷◌, ◌++◌, length, codes, flat_map}
use Rattle.std.specs.List.{AllByRecursion}
use Rattle.std.specs.Fmt.{decimal}
use Rattle.partition_model.specs.declared.write.Op.{Op}
use Rattle.partition_model.specs.declared.write.Op.TheVariants.{Put, Add, Touch, Del}
use Rattle.partition_model.specs.declared.write.Outcome.{Outcome}
use Rattle.partition_model.specs.declared.write.Outcome.TheVariants.{Stored, Deleted, Absent, Touched, FullSpare, FullBlock, Worn, Exists}
use Rattle.mica_trace.specs.declared.report.Line.{Line}
use Rattle.mica_trace.specs.declared.report.Line.TheVariants.{Wrote, Hit, Miss, Sync}
use Rattle.mica_trace.specs.declared.report_reader.ReportFault.{ReportFault}
use Rattle.mica_trace.specs.declared.report_reader.ReportFault.TheVariants.{BadLine, NoMemory}
use Rattle.mica_trace.specs.TraceGrammar.{IsValue}

-- the word of an operation
abbrev pub op_word : Op → List ℕ
op_word Put = codes "put"
op_word Add = codes "add"
op_word Touch = codes "touch"
op_word Del = codes "del"

-- the words of an outcome
abbrev pub outcome_words : Outcome → List ℕ
outcome_words Stored = codes "stored"
outcome_words Deleted = codes "deleted"
outcome_words Absent = codes "absent"
outcome_words Touched = codes "touched"
outcome_words FullSpare = codes "full spare"
outcome_words FullBlock = codes "full block"
outcome_words Worn = codes "worn"
outcome_words Exists = codes "exists"

-- the outcomes that an operation may have
abbrev pub HasOutcome : Op → Outcome → Type 0
HasOutcome Put Stored = Unit {0}
HasOutcome Put FullSpare = Unit {0}
HasOutcome Put FullBlock = Unit {0}
HasOutcome Put Worn = Unit {0}
HasOutcome Add Stored = Unit {0}
HasOutcome Add Exists = Unit {0}
HasOutcome Add FullSpare = Unit {0}
HasOutcome Add FullBlock = Unit {0}
HasOutcome Add Worn = Unit {0}
HasOutcome Touch Touched = Unit {0}
HasOutcome Touch Absent = Unit {0}
HasOutcome Touch Worn = Unit {0}
HasOutcome Del Deleted = Unit {0}
HasOutcome Del Absent = Unit {0}
HasOutcome Del Worn = Unit {0}
HasOutcome _ _ = ⊥

-- a line that a report may have
abbrev pub IsReportLine : Line → Type 0
IsReportLine (Wrote op outcome stamp) = HasOutcome op outcome
IsReportLine (Hit stamp value) = IsValue value
IsReportLine (Miss stamp) = Unit {0}
IsReportLine Sync = Unit {0}

-- the stamp that a line prints; a sync prints none
abbrev pub printed_stamp : Line → ℕ
printed_stamp (Wrote op outcome stamp) = stamp
printed_stamp (Hit stamp value) = stamp
printed_stamp (Miss stamp) = stamp
printed_stamp Sync = 0

-- a number of 64 bits
abbrev pub IsStamp : ℕ → Type 0
IsStamp stamp = stamp < 2 ^ 64

-- a line that a report may have, with a number of 64 bits
abbrev pub IsPrintable : Line → Type 0
IsPrintable line = IsReportLine line × IsStamp (printed_stamp line)

-- the text of a line, without its line feed
abbrev pub report_line_text : Line → List ℕ
report_line_text (Wrote op outcome stamp) = op_word op ++ 32 ∷ decimal stamp ++ 32 ∷ outcome_words outcome
report_line_text (Hit stamp value) = codes "get " ++ decimal stamp ++ codes " hit " ++ value
report_line_text (Miss stamp) = codes "get " ++ decimal stamp ++ codes " miss"
report_line_text Sync = codes "sync"

-- the text is that of the line
abbrev pub SpellsLine : List ℕ → Line → Type 0
SpellsLine text line = IsPrintable line × (text ≡ report_line_text line)

abbrev pub SpellsNoLine : List ℕ → Type 0
SpellsNoLine text = (line : Line) → ¬ (SpellsLine text line)

-- each line ends with a line feed
abbrev pub report_text : List Line → List ℕ
report_text lines = flat_map (λ line. report_line_text line ++ 10 ∷ []) lines

-- the text spells these lines, each with its line feed
pub record IsReport (text : List ℕ) (report : List Line) : Type 0 where
  pub lines : AllByRecursion IsPrintable report
  pub spelled : text ≡ report_text report

abbrev pub IsNoReport : List ℕ → Type 0
IsNoReport text = (report : List Line) → ¬ (IsReport text report)

-- no report line stands at the front with its line feed
abbrev pub BeginsWithNoLine : List ℕ → Type 0
BeginsWithNoLine text = (line : Line) (more : List ℕ) → IsPrintable line → text ≢ report_line_text line ++ 10 ∷ more

-- line n, counted from 1, is the first that is no report line with its line feed
pub record IsFirstBadLine (text : List ℕ) (n : ℕ) : Type 0 where
  pub before : List Line
  pub rest : List ℕ
  pub lines : AllByRecursion IsPrintable before
  pub parts : text ≡ report_text before ++ rest
  pub number : n ≡ length before + 1
  pub some : rest ≢ []
  pub bad : BeginsWithNoLine rest

-- what a text is refused for; out of memory has no cause in it
abbrev pub RefusesReport : List ℕ → ReportFault → Type 0
RefusesReport text (BadLine n) = IsFirstBadLine text n × IsNoReport text
RefusesReport text NoMemory = Unit {0}
