-- How each command's last step keeps its promises.
use Rattle.std.proofs.Common.{◌≡◌, ◌⊎◌, ℕ, ◌+◌, false, inl, inr, List, [], Option, Some, None, length, length-append, Err, codes, refl, sym, ap, ◌∙◌, subst, arith}
use Rattle.std.specs.Prelude.{IfSome}
use Rattle.std.specs.Io.KnownBytes.{Consumes}
use Rattle.outside.specs.Faults.{Rose}
use Rattle.partition_model.specs.declared.options.Options.{Options}
use Rattle.mica_trace.specs.declared.line.TraceLine.{TraceLine}
use Rattle.mica_trace.specs.declared.line.TraceFault.{TraceFault}
use Rattle.mica_trace.specs.declared.line.TraceFault.TheVariants.{NoMemory as NoRoom}
use Rattle.mica_trace.specs.TraceGrammar.{IsNoTrace, Refuses, fault_text}
use Rattle.partition_table.specs.declared.tables.KeptSeat.{KeptSeat}
use Rattle.mica_trace.specs.declared.report.Line.{Line}
use Rattle.mica_trace.specs.Printed.{PrintsText, PrintsPart}
use Rattle.mica_replay.specs.Replayed.{IsReplayed}
use Rattle.server_words.specs.declared.ports.PortOptions.{PortOptions}
use Rattle.fronts.specs.declared.totals.Totals.{Totals}
use Rattle.fronts.specs.declared.totals.ServeFault.{ServeFault}
use Rattle.fronts.specs.declared.totals.ServeFault.TheVariants.{Net}
use Rattle.served.specs.Others.{alone}
use Rattle.served.specs.Served.{empty_origin}
use Rattle.served.specs.NetRun.{NetFacts, HasServedOnTables, IsCauseOf, KeepsNet}
use Rattle.served.proofs.Tabled.{has_served}
use Rattle.mica_trace.specs.ReportGrammar.{report_text}
use Rattle.server_words.specs.declared.limits.TheConstants.{MAX_SOURCE_LEN}
use Rattle.mica_cmd.specs.declared.status.Status.{Status}
use Rattle.mica_cmd.specs.declared.status.Status.TheVariants.{Done, TraceRefused, WriteFault, NetFault}
use Rattle.mica_commands.specs.declared.gen_options.GenOptions.{GenOptions}
use Rattle.mica_cmd.specs.Outside.{SourceFacts, LinkFacts, Outside, outside}
use Rattle.server_words.specs.Output.{SinkFacts, with_line_feed}
use Rattle.server_words.specs.Limits.{IsTooLong}
use Rattle.mica_cmd.specs.Headline.{ReadsWhole}
use Rattle.mica_cmd.specs.Promise.{KeepsPromise, IsWritten, WritesDue, IsTold}
use Rattle.mica_cmd.specs.Input.{GivesTooMany, IsDueByBytes, IsDueByTrace, IsDueOfInput, IsDueOfTrace, NoneByTrace, ReadsInput, GivesTrace, IsRefusedWith}
use Rattle.mica_cmd.specs.Promises.{replay_promise, IsDueOfReplay, IsSeatedReport, serve_promise, bench_promise, IsSeatedSummary, IsSeatedService}
use Rattle.served.specs.TotalsText.{totals_text}
use Rattle.mica_cmd.proofs.Keeping.{keeps_promise, stopped_trace, told_due, trace_not_done, keeps_tables, keeps_seats}
use Rattle.mica_cmd.proofs.Settled.{settles_replay, settles_serve, settles_bench}

-- a source whose reads gave more than the limit has more
has_more : (left after : Option (List ℕ)) (bytes : List ℕ) → length bytes ≡ MAX_SOURCE_LEN + 1 → Consumes left after bytes → IfSome left IsTooLong
has_more None after bytes long read = tt
has_more (Some input) None bytes long read = absurd read
has_more (Some input) (Some rest) bytes long read = let whole = ap length read ∙ length-append bytes rest in omega (arith, whole, long)

pub long_source : (old new : SourceFacts) → (bytes : List ℕ) × (length bytes ≡ MAX_SOURCE_LEN + 1) × Consumes old.left new.left bytes × (new.has_ended ≡ false)
    × (new.given ≡ old.given + MAX_SOURCE_LEN + 1) → GivesTooMany old new
long_source old new read = record { many = has_more old.left new.left read.0 read.1 read.2; given = omega (arith, read.4); goes_on = read.3 }

-- bytes that are no trace
pub refused_due : (old new : SourceFacts) (before after : SinkFacts) (input : List ℕ) (fault : TraceFault) (result : Status) → ReadsWhole old new input
    → (fault ≡ NoRoom) ⊎ (Refuses input fault × IsNoTrace input) → IsRefusedWith fault before after result
    → WritesDue (IsDueOfInput (IsDueOfTrace NoneByTrace) old new) before after result
refused_due old new before after input fault result read why either =
    elim either as (λ _. WritesDue (IsDueOfInput (IsDueOfTrace NoneByTrace) old new) before after result) [
      | inl memory ↦ inl memory
      | inr written ↦ elim why as (λ _. WritesDue (IsDueOfInput (IsDueOfTrace NoneByTrace) old new) before after result) [
        | inl is ↦ absurd (written.0 is)
        | inr bad ↦ inr (
          TraceRefused,
          with_line_feed (fault_text fault),
          (input, read, record { fault = fault; named = written.0; refused = bad.0; no_trace = bad.1; spelled = refl }),
          written.1,
        )
      ]
    ]

-- ---- commands that read a trace

module _ (due : Status → List TraceLine → List ℕ → Type 0) (old new : SourceFacts) (before after : SinkFacts) (trace : List TraceLine) (given : GivesTrace old new trace) where
  -- the text of a report is due
  report_due : (report : List Line) → due Done trace (report_text report) → IsDueOfInput (IsDueOfTrace due) old new Done (report_text report)
  report_due report is = (given.0, given.1, (trace, given.2, is))

  pub done_due : (text : List ℕ) (result : Status) → due Done trace text → IsTold Done text before after result → WritesDue (IsDueOfInput (IsDueOfTrace due) old new) before after result
  done_due text result is told = told_due (IsDueOfInput (IsDueOfTrace due) old new) before after Done text result (given.0, given.1, (trace, given.2, is)) told

  module _ (IsReportOf : List Line → Type 0) (is_due : (report : List Line) → IsReportOf report → due Done trace (report_text report)) where
    -- a report was printed
    pub printed_due : PrintsText IsReportOf before.taken after.taken → WritesDue (IsDueOfInput (IsDueOfTrace due) old new) before after Done
    printed_due printed = inr (Done, report_text printed.report, report_due printed.report (is_due printed.report printed.is_report), inl (refl, printed.taken))

    -- a part of one was, where a write failed
    pub cut_due : Rose before.faults after.faults → PrintsPart IsReportOf before.taken after.taken → WritesDue (IsDueOfInput (IsDueOfTrace due) old new) before after WriteFault
    cut_due rose part = inr (Done, report_text part.report, report_due part.report (is_due part.report part.is_report), inr (refl, rose, (part.count, part.proper, part.taken)))

-- ---- replay

abbrev SeatedReport : Options → Outside → Outside → List ℕ → Type 0
SeatedReport options old new = IsDueByBytes (IsDueByTrace (IsSeatedReport options new.tables)) old.source new.source

-- a trace that could not be had
pub replay_stopped : (options : Options) (old new : Outside) (result : Status) → WritesDue (IsDueOfInput (IsDueOfTrace NoneByTrace) old.source new.source) old.sink new.sink result
    → ReadsInput old.source new.source → new.net ≡ old.net → new.tables ≡ old.tables → new.link ≡ old.link → KeepsPromise (replay_promise options) old new result
replay_stopped options old new result writes reads net same link =
    keeps_promise (replay_promise options) (settles_replay options) old new result (stopped_trace (IsDueOfReplay options old new) old.source new.source old.sink new.sink result writes) reads net
    (keeps_tables (SeatedReport options) old new result (trace_not_done old.source new.source old.sink new.sink result writes) same) link

pub replay_done : (options : Options) (old new : Outside) (trace : List TraceLine) → GivesTrace old.source new.source trace
    → PrintsText (λ report. IsReplayed options trace report new.tables) old.sink.taken new.sink.taken → ReadsInput old.source new.source → new.net ≡ old.net → new.link ≡ old.link
    → KeepsPromise (replay_promise options) old new Done
replay_done options old new trace given printed reads net link =
    let text = report_text printed.report in
    keeps_promise (replay_promise options) (settles_replay options) old new Done
    (printed_due (IsDueOfReplay options old new) old.source new.source old.sink new.sink trace given (λ report. IsReplayed options trace report new.tables) (λ report is. (report, is.lawful, refl)) printed) reads net
    (text, (given.0, given.1, (trace, given.2, (printed.report, printed.is_report, refl))), printed.taken) link

pub replay_cut : (options : Options) (old new : Outside) (trace : List TraceLine) → GivesTrace old.source new.source trace
    → Rose old.sink.faults new.sink.faults → PrintsPart (λ report. IsReplayed options trace report new.tables) old.sink.taken new.sink.taken
    → ReadsInput old.source new.source → new.net ≡ old.net → new.link ≡ old.link → KeepsPromise (replay_promise options) old new WriteFault
replay_cut options old new trace given rose part reads net link =
    keeps_promise (replay_promise options) (settles_replay options) old new WriteFault
    (cut_due (IsDueOfReplay options old new) old.source new.source old.sink new.sink trace given (λ report. IsReplayed options trace report new.tables) (λ report is. (report, is.lawful, refl)) rose part) reads net
    (inr (report_text part.report, (given.0, given.1, (trace, given.2, (part.report, part.is_report, refl))))) link

-- ---- bench

pub bench_done : (options : Options) (generator : GenOptions) (source : SourceFacts) (old new : SinkFacts) (net : NetFacts) (was kept : List KeptSeat) (link : LinkFacts) (text : List ℕ) (result : Status)
    → IsSeatedSummary options generator kept text → IsWritten Done text old new result
    → KeepsPromise (bench_promise options generator) (outside source old net was link) (outside source new net kept link) result
bench_done options generator source old new net was kept link text result is written =
    keeps_promise (bench_promise options generator) (settles_bench options generator) (outside source old net was link) (outside source new net kept link) result
    (inr (Done, text, (is.0, is.1.lawful, is.2), written)) refl refl
    (keeps_seats (λ _ after. IsSeatedSummary options generator after.tables) (outside source old net was link) (outside source new net kept link) text result is (inr written)) refl

-- ---- serve

-- a server that served, and whose totals were printed
pub serve_done : (options : Options) (ports : PortOptions) (totals : Totals) (old new : Outside) (result : Status) → HasServedOnTables alone options empty_origin ports totals new.tables old.net new.net
    → KeepsNet ports old.net new.net → new.source ≡ old.source → new.link ≡ old.link → IsTold Done (totals_text totals) old.sink new.sink result → KeepsPromise (serve_promise options ports) old new result
serve_done options ports totals old new result served net same link printed =
    keeps_promise (serve_promise options ports) (settles_serve options ports) old new result
    (told_due ((serve_promise options ports).is_due old new) old.sink new.sink Done (totals_text totals) result (totals, has_served alone options empty_origin ports totals new.tables old.net new.net served, refl) printed) same net
    (keeps_seats (IsSeatedService options ports) old new (totals_text totals) result (totals, served, refl) printed) link

-- a server that a fault of the net stopped
pub serve_stopped : (options : Options) (ports : PortOptions) (fault : ServeFault) (old new : Outside) (result : Status) → fault ≡ Net → IsCauseOf alone (Err fault) options empty_origin ports new.tables old.net new.net
    → KeepsNet ports old.net new.net → new.source ≡ old.source → old.tables ≡ [] → new.link ≡ old.link → IsWritten NetFault (with_line_feed (codes "net fault")) old.sink new.sink result
    → KeepsPromise (serve_promise options ports) old new result
serve_stopped options ports fault old new result is cause net same none link written =
    let stopped = subst (λ e. IsCauseOf alone (Err e) options empty_origin ports new.tables old.net new.net) is cause in
    keeps_promise (serve_promise options ports) (settles_serve options ports) old new result (inr (NetFault, with_line_feed (codes "net fault"), (stopped.1, refl), written)) same net
    (keeps_tables (IsSeatedService options ports) old new result
    (λ done. elim written as (λ _. ⊥) [
      | inl all ↦ let no : NetFault ≡ Done = sym all.0 ∙ done in cc
      | inr part ↦ let no : WriteFault ≡ Done = sym part.0 ∙ done in cc
    ]) (stopped.0 ∙ sym none)) link
