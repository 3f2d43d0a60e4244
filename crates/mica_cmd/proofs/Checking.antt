-- How the command `check` keeps its promises.
use Rattle.std.proofs.Common.{◌≡◌, ◌≢◌, ◌∙◌, ◌⊎◌, inl, inr, ℕ, List, Option, Some, None, Result, Ok, Err, refl, sym, subst}
use Rattle.std.specs.Prelude.{IfOk, MatchResult}
use Rattle.outside.specs.declared.fault.NoMemory.{NoMemory as OutOfMemory}
use Rattle.mica_trace.specs.declared.line.TraceLine.{TraceLine}
use Rattle.mica_trace.specs.declared.line.TraceFault.{TraceFault}
use Rattle.mica_trace.specs.declared.line.TraceFault.TheVariants.{NoMemory as NoRoom}
use Rattle.mica_trace.specs.TraceGrammar.{IsTrace, IsNoTrace, Refuses}
use Rattle.mica_trace.specs.declared.report.Line.{Line}
use Rattle.mica_trace.specs.ReportGrammar.{IsReport}
use Rattle.report_check.specs.declared.check.Verdict.{Verdict}
use Rattle.report_check.specs.declared.check.Verdict.TheVariants.{Lawful as Legal, Unlawful as Illegal}
use Rattle.report_check.specs.FirstUnlawful.{IsVerdict}
use Rattle.mica_cmd.specs.CheckParts.{HasParts}
use Rattle.partition_model.specs.declared.options.Options.{Options}
use Rattle.partition_model.specs.Options.{IsValid}
use Rattle.mica_cmd.specs.declared.finding.Finding.{Finding}
use Rattle.mica_cmd.specs.declared.finding.Finding.TheVariants.{Lawful, Unlawful, NoReport, BadReport, NoTrace}
use Rattle.mica_cmd.specs.declared.status.Status.{Status}
use Rattle.mica_cmd.specs.declared.status.Status.TheVariants.{NoMemory}
use Rattle.mica_cmd.specs.Outside.{SourceFacts, Outside}
use Rattle.mica_cmd.specs.Headline.{ReadsWhole}
use Rattle.mica_cmd.specs.Findings.{FindsOfReport, FindsBehind, FindsOfParts, finding_by, Finds, finding_text, status_of}
use Rattle.mica_cmd.specs.Promise.{IsDue, KeepsPromise, WritesDue, IsTold}
use Rattle.server_words.specs.Output.{with_line_feed}
use Rattle.mica_cmd.specs.Input.{IsDueOfInput, NoneByBytes, ReadsInput}
use Rattle.mica_cmd.specs.Promises.{IsDueOfCheck, IsKindOfCheck, check_promise}
use Rattle.mica_cmd.proofs.Keeping.{Settles, keeps_promise, unwritten_promise, stopped_input, told_due}
use Rattle.mica_cmd.proofs.Settled.{settles_input}
use Rattle.mica_cmd.proofs.OneFinding.{one_finding}

settles_check : (options : Options) → IsValid options → Settles (check_promise options)
settles_check options valid =
    settles_input (λ _ _. IsDueOfCheck options) (IsKindOfCheck options)
    (λ _ _ status free bytes text is told. is.2 ∙ one_finding options valid bytes is.0 told.0 is.1 told.1 ∙ sym told.2)

finding_due : (options : Options) (old new : SourceFacts) (bytes : List ℕ) (finding : Finding) → ReadsWhole old new bytes → Finds options bytes finding
    → IsDue (IsDueOfInput (IsDueOfCheck options) old new) (status_of finding) (with_line_feed (finding_text finding))
finding_due options old new bytes Lawful read finds = (bytes, read, (Lawful, finds, refl, refl))
finding_due options old new bytes (Unlawful n) read finds = (bytes, read, (Unlawful n, finds, refl, refl))
finding_due options old new bytes NoReport read finds = (bytes, read, (NoReport, finds, refl, refl))
finding_due options old new bytes (BadReport n) read finds = (bytes, read, (BadReport n, finds, refl, refl))
finding_due options old new bytes (NoTrace fault) read finds = (bytes, read, (NoTrace fault, finds, refl, refl))

module _ (options : Options) (valid : IsValid options) (old new : Outside) where
  pub check_stopped : (result : Status) → WritesDue (IsDueOfInput NoneByBytes old.source new.source) old.sink new.sink result
      → ReadsInput old.source new.source → new.net ≡ old.net → new.tables ≡ old.tables → new.link ≡ old.link → KeepsPromise (check_promise options) old new result
  check_stopped result writes reads net tables link =
      keeps_promise (check_promise options) (settles_check options valid) old new result
      (stopped_input (IsDueOfCheck options) old.source new.source old.sink new.sink result writes) reads net tables link

  pub check_told : (bytes : List ℕ) (finding : Finding) (result : Status) → ReadsWhole old.source new.source bytes → Finds options bytes finding
      → IsTold (status_of finding) (with_line_feed (finding_text finding)) old.sink new.sink result
      → ReadsInput old.source new.source → new.net ≡ old.net → new.tables ≡ old.tables → new.link ≡ old.link → KeepsPromise (check_promise options) old new result
  check_told bytes finding result read finds told reads net tables link =
      keeps_promise (check_promise options) (settles_check options valid) old new result
      (told_due (IsDueOfInput (IsDueOfCheck options) old.source new.source) old.sink new.sink (status_of finding) (with_line_feed (finding_text finding)) result (finding_due options old.source new.source bytes finding read finds) told) reads net tables link

  pub check_unwritten : new.sink ≡ old.sink → ReadsInput old.source new.source → new.net ≡ old.net → new.tables ≡ old.tables → new.link ≡ old.link → KeepsPromise (check_promise options) old new NoMemory
  check_unwritten same reads net tables link = unwritten_promise (check_promise options) (settles_check options valid) old new same reads net tables link

-- what is found behind a trace
pub finds_trace : (options : Options) (bytes before : List ℕ) (after : Option (List ℕ)) (trace : List TraceLine) (result : Result Finding OutOfMemory) → HasParts bytes before after
    → IsTrace before trace → IfOk result (FindsBehind options trace after) → IfOk result (Finds options bytes)
finds_trace options bytes before after trace (Err e) parts is finds = tt
finds_trace options bytes before after trace (Ok finding) parts is finds = (before, after, parts, by finding finds)
  where
    none : (rest : Option (List ℕ)) (fault : TraceFault) → FindsBehind options trace rest (NoTrace fault) → ⊥
    none None fault is = is
    none (Some text) fault is = is

    by : (f : Finding) → FindsBehind options trace after f → FindsOfParts options before after f
    by (NoTrace fault) found = absurd (none after fault found)
    by _ found = (trace, is, found)

-- bytes before the line that are no trace
pub finds_fault : (options : Options) (bytes before : List ℕ) (after : Option (List ℕ)) (fault : TraceFault) (result : Result Finding OutOfMemory)
    → MatchResult result (λ finding. (finding ≡ NoTrace fault) × (fault ≢ NoRoom)) (λ _. fault ≡ NoRoom)
    → HasParts bytes before after → (fault ≡ NoRoom) ⊎ (Refuses before fault × IsNoTrace before) → IfOk result (Finds options bytes)
finds_fault options bytes before after fault (Err e) named parts why = tt
finds_fault options bytes before after fault (Ok finding) named parts why =
    subst (Finds options bytes) (sym named.0) (
      before,
      after,
      parts,
      elim why as (λ _. FindsOfParts options before after (NoTrace fault)) [
        | inl none ↦ absurd (named.1 none)
        | inr bad ↦ (named.1, bad.0, bad.1)
      ],
    )

-- a verdict on the report that the text is
pub finds_verdict : (options : Options) (trace : List TraceLine) (text : List ℕ) (report : List Line) (v : Verdict) → IsReport text report → IsVerdict options trace report v
    → FindsOfReport options trace text (finding_by v)
finds_verdict options trace text report Legal is found = (report, is, found)
finds_verdict options trace text report (Illegal n) is found = (report, is, found)
