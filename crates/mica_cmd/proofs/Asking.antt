-- How the command `ask` keeps its promises.
use Rattle.std.proofs.Common.{◌≡◌, ◌≢◌, inl, inr, ℕ, List, Ok, Err, subst, refl}
use Rattle.std.specs.Prelude.{◌||◌}
use Rattle.std.specs.Io.KnownBytes.{Appends}
use Rattle.outside.specs.Faults.{Rose}
use Rattle.mica_trace.specs.declared.line.TraceLine.{TraceLine}
use Rattle.mica_trace.specs.declared.report.Line.{Line}
use Rattle.mica_trace.specs.ReportGrammar.{report_text}
use Rattle.server_words.specs.declared.ask_options.AskOptions.{AskOptions}
use Rattle.mica_client.specs.declared.fault.AskFault.{AskFault}
use Rattle.mica_client.specs.declared.fault.AskFault.TheVariants.{Unread, Stranger, Double, Wrong, Lost, Link, NoMemory as NoRoom}
use Rattle.mica_client.specs.Exchange.{is_lost_fault}
use Rattle.mica_client.specs.FaultText.{ask_fault_text}
use Rattle.mica_cmd.specs.declared.status.Status.{Status}
use Rattle.mica_cmd.specs.declared.status.Status.TheVariants.{Done, WriteFault}
use Rattle.server_words.specs.Output.{SinkFacts, AppendsPart, with_line_feed}
use Rattle.mica_cmd.specs.Outside.{Outside}
use Rattle.mica_cmd.specs.Promise.{IsDue, KeepsPromise, WritesDue, IsTold}
use Rattle.mica_cmd.specs.Input.{IsDueOfInput, IsDueOfTrace, NoneByTrace, ReadsInput, GivesTrace}
use Rattle.mica_cmd.specs.Promises.{AnswersAs, fault_status, IsFaultLine, IsDueOfAsk, IsToldFault, ask_promise}
use Rattle.mica_cmd.proofs.Keeping.{keeps_promise, stopped_trace}
use Rattle.mica_cmd.proofs.Settled.{settles_ask}
use Rattle.mica_cmd.proofs.Ending.{done_due}

-- texts that were written whole, or a part of them
pub texts_whole : (old new : SinkFacts) (texts text : List ℕ) → texts ≡ text → Appends old.taken new.taken texts → IsTold Done text old new Done
texts_whole old new texts text is all = inr (inl (refl, subst (Appends old.taken new.taken) is all))

pub texts_part : (old new : SinkFacts) (texts text : List ℕ) → texts ≡ text → Rose old.faults new.faults → AppendsPart old new texts → IsTold Done text old new WriteFault
texts_part old new texts text is rose part = inr (inr (refl, rose, subst (AppendsPart old new) is part))

module _ (options : AskOptions) (old new : Outside) where
  -- a trace that could not be had
  pub ask_stopped : (result : Status) → WritesDue (IsDueOfInput (IsDueOfTrace NoneByTrace) old.source new.source) old.sink new.sink result
      → ReadsInput old.source new.source → new.net ≡ old.net → new.tables ≡ old.tables → new.link ≡ old.link → KeepsPromise (ask_promise options) old new result
  ask_stopped result writes reads net tables link =
      keeps_promise (ask_promise options) (settles_ask options) old new result
      (stopped_trace (IsDueOfAsk options old new) old.source new.source old.sink new.sink result writes) reads net tables (inl link)

  module _ (trace : List TraceLine) (given : GivesTrace old.source new.source trace) where
    -- the line of a fault is due with its status
    fault_due : (fault : AskFault) → fault ≢ NoRoom → IsFaultLine options trace old new (fault_status fault) (with_line_feed (ask_fault_text fault))
        → IsDue (IsDueOfInput (IsDueOfTrace (IsDueOfAsk options old new)) old.source new.source) (fault_status fault) (with_line_feed (ask_fault_text fault))
    fault_due NoRoom named is = absurd (named refl)
    fault_due Unread named is = (given.0, given.1, (trace, given.2, is))
    fault_due (Stranger t) named is = (given.0, given.1, (trace, given.2, is))
    fault_due (Double t) named is = (given.0, given.1, (trace, given.2, is))
    fault_due (Wrong t) named is = (given.0, given.1, (trace, given.2, is))
    fault_due Lost named is = (given.0, given.1, (trace, given.2, is))
    fault_due Link named is = (given.0, given.1, (trace, given.2, is))

    -- the report of the replies
    pub ask_done : (report : List Line) (result : Status) → AnswersAs options trace old new (Ok report) → new.link.silence ≡ options.wait → IsTold Done (report_text report) old.sink new.sink result
        → ReadsInput old.source new.source → new.net ≡ old.net → new.tables ≡ old.tables → KeepsPromise (ask_promise options) old new result
    ask_done report result answers silence told reads net tables =
        keeps_promise (ask_promise options) (settles_ask options) old new result
        (done_due (IsDueOfAsk options old new) old.source new.source old.sink new.sink trace given (report_text report) result (report, answers, refl) told) reads net tables
        (inr (silence, (trace, given, (Ok report, answers))))

    -- a fault of the exchange
    pub ask_fault : (fault : AskFault) (result : Status) → AnswersAs options trace old new (Err fault) → new.link.silence ≡ options.wait → new.link.has_ended ≡ (is_lost_fault fault || old.link.has_ended)
        → (fault ≡ Link → Rose old.link.faults new.link.faults) → IsToldFault fault old.sink new.sink result
        → ReadsInput old.source new.source → new.net ≡ old.net → new.tables ≡ old.tables → KeepsPromise (ask_promise options) old new result
    ask_fault fault result answers silence ended rose either reads net tables =
        keeps_promise (ask_promise options) (settles_ask options) old new result
        (elim either as (λ _. WritesDue (IsDueOfInput (IsDueOfTrace (IsDueOfAsk options old new)) old.source new.source) old.sink new.sink result) [
          | inl memory ↦ inl memory
          | inr written ↦ inr (
            fault_status fault,
            with_line_feed (ask_fault_text fault),
            fault_due fault written.0 (record { fault = fault; status_is = refl; cause = answers; ended = ended; rose = rose; spelled = refl }),
            written.1,
          )
        ]) reads net tables (inr (silence, (trace, given, (Err fault, answers))))
