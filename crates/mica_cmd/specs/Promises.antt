-- The promises of each command.
use Rattle.std.specs.Prelude.{◌≡◌, ◌≢◌, ◌⊎◌, ◌||◌, ℕ, List, codes, Option, Some, None, Result, Ok, Err}
use Rattle.outside.specs.Faults.{Rose}
use Rattle.partition_model.specs.declared.options.Options.{Options}
use Rattle.mica_trace.specs.declared.line.TraceLine.{TraceLine}
use Rattle.mica_trace.specs.declared.report.Line.{Line}
use Rattle.mica_trace.specs.TraceGrammar.{trace_text}
use Rattle.mica_trace.specs.ReportGrammar.{report_text}
use Rattle.mica_trace.specs.LawfulReport.{LawfulReport}
use Rattle.mica_trace.specs.ExactReport.{ExactReport}
use Rattle.partition_table.specs.declared.tables.KeptSeat.{KeptSeat}
use Rattle.server_words.specs.declared.ask_options.AskOptions.{AskOptions}
use Rattle.mica_client.specs.declared.fault.AskFault.{AskFault}
use Rattle.mica_client.specs.declared.fault.AskFault.TheVariants.{Link, NoMemory as NoRoom}
use Rattle.mica_client.specs.Talk.{OnTalk, Passes}
use Rattle.mica_client.specs.Exchange.{MeansForAsk, start, is_lost_fault}
use Rattle.mica_client.specs.FaultText.{ask_fault_text}
use Rattle.store_image.specs.declared.made.Imaged.{Imaged}
use Rattle.store_image.specs.declared.fault.ImageFault.{ImageFault}
use Rattle.store_image.specs.declared.fault.ImageFault.TheVariants.{NoMemory as NoSpace}
use Rattle.store_image.specs.ImageGrammar.{Pair, SpellsImage, image_text, first_fault, fault_name}
use Rattle.store_image.specs.ImageLines.{put_lines}
use Rattle.store_image.specs.ImageOf.{IsImaged}
use Rattle.mica_replay.specs.Replayed.{IsReplayed}
use Rattle.server_words.specs.declared.ports.PortOptions.{PortOptions}
use Rattle.fronts.specs.declared.totals.Totals.{Totals}
use Rattle.served.specs.TotalsText.{totals_text}
use Rattle.served.specs.Others.{alone}
use Rattle.served.specs.Served.{empty_origin}
use Rattle.served.specs.NetRun.{NetFacts, HasServed, HasServedOnTables, HasStopped, KeepsNet}
use Rattle.mica_commands.specs.declared.command.Command.{Command}
use Rattle.mica_commands.specs.declared.command.Command.TheVariants.{Replay, Serve, Gen, Bench, Check, Exclusive, Ask, Image, Unpack}
use Rattle.mica_cmd.specs.declared.status.Status.{Status}
use Rattle.mica_cmd.specs.declared.status.Status.TheVariants.{Done, Usage, NoMemory, WriteFault, NetFault, ReplyRefused, LinkFault, ImageRefused}
use Rattle.mica_commands.specs.declared.gen_options.GenOptions.{GenOptions}
use Rattle.mica_commands.specs.Generator.{generated}
use Rattle.mica_commands.specs.Summary.{summary_text}
use Rattle.mica_cmd.specs.declared.finding.Finding.{Finding}
use Rattle.mica_cmd.specs.Findings.{Finds, finding_text, status_of}
use Rattle.mica_cmd.specs.Outside.{SourceFacts, Outside}
use Rattle.server_words.specs.Output.{SinkFacts, with_line_feed}
use Rattle.mica_cmd.specs.Promise.{Promise, Prints, IsUnwritten, IsWritten}
use Rattle.mica_cmd.specs.Input.{AtDone, IsDueByBytes, IsDueByTrace, IsDueOfInput, IsDueOfTrace, IsUntroubled, TellsInput, IsKindOfTrace, ReadsInput, GivesTrace}

-- ---- what commands share

-- the source, and the net, are as they were
abbrev pub LeavesSource : SourceFacts → SourceFacts → Type 0
LeavesSource old new = new ≡ old

abbrev pub LeavesNet : NetFacts → NetFacts → Type 0
LeavesNet old new = new ≡ old

-- the tables are as they were, whatever the status
abbrev pub LeavesTables : Outside → Outside → Status → Type 0
LeavesTables old new status = new.tables ≡ old.tables

-- the link is as it was
abbrev pub LeavesLink : Outside → Outside → Type 0
LeavesLink old new = new.link ≡ old.link

-- What the tables keep. Where the command was carried out: the owners' seats of the run whose text the sink took. Out of memory, or where a
-- write failed: those of a run whose text the sink did not take, or what they kept before. With each other status what they kept before.
abbrev pub KeepsSeats : (Outside → Outside → List ℕ → Type 0) → Outside → Outside → Status → Type 0
KeepsSeats is_seated old new Done = Prints (is_seated old new) old.sink new.sink
KeepsSeats is_seated old new NoMemory = (new.tables ≡ old.tables) ⊎ ((text : List ℕ) × is_seated old new text)
KeepsSeats is_seated old new WriteFault = (new.tables ≡ old.tables) ⊎ ((text : List ℕ) × is_seated old new text)
KeepsSeats is_seated old new _ = new.tables ≡ old.tables

-- no count of the sink's faults rose, and this status comes whatever was told before
abbrev pub IsWritable : Status → Outside → Outside → Status → Type 0
IsWritable only old new status = (status ≡ only) × ¬ (Rose old.sink.faults new.sink.faults)

-- a command that reads nothing and leaves net and tables
abbrev pub output_promise : (Outside → Outside → Status → List ℕ → Type 0) → Status → Promise
output_promise is_due only = record {
  is_due = is_due;
  unhindered = IsWritable only;
  reads = LeavesSource;
  net = LeavesNet;
  tables = LeavesTables;
  link = LeavesLink;
}

-- a command that reads the source, leaves net and tables, and owes what is due by the bytes; by their kind alone a status may be told
abbrev pub input_promise : (Outside → Outside → Status → List ℕ → List ℕ → Type 0) → (Status → List ℕ → Type 0) → Promise
input_promise is_due is_kind = record {
  is_due = λ old new. IsDueOfInput (is_due old new) old.source new.source;
  unhindered = λ old new status. IsUntroubled old new × TellsInput is_kind old.source status;
  reads = ReadsInput;
  net = LeavesNet;
  tables = LeavesTables;
  link = LeavesLink;
}

-- the promise of a command that reads its input as a trace
abbrev pub trace_promise : (Outside → Outside → Status → List TraceLine → List ℕ → Type 0) → (Status → List TraceLine → Type 0) → Promise
trace_promise is_due is_kind = input_promise (λ old new. IsDueOfTrace (is_due old new)) (IsKindOfTrace is_kind)

-- with this kind of trace the command is carried out, whatever the trace
abbrev pub IsAlwaysDone : Status → List TraceLine → Type 0
IsAlwaysDone status trace = status ≡ Done

-- ---- replay: a lawful report of the trace that the source gives

-- the report is that of a run whose owners' seats these are
abbrev pub IsSeatedReport : Options → List KeptSeat → List TraceLine → List ℕ → Type 0
IsSeatedReport options kept trace text = (report : List Line) × IsReplayed options trace report kept × (text ≡ report_text report)

-- the text of a lawful report of the trace
abbrev pub IsLawfulText : Options → List TraceLine → List ℕ → Type 0
IsLawfulText options trace text = (report : List Line) × LawfulReport options trace report × (text ≡ report_text report)

-- with Done this is the headline
abbrev pub IsDueOfReplay : Options → Outside → Outside → Status → List TraceLine → List ℕ → Type 0
IsDueOfReplay options old new status trace = AtDone (IsLawfulText options trace) status

abbrev pub replay_promise : Options → Promise
replay_promise options = record (trace_promise (IsDueOfReplay options) IsAlwaysDone) {
  tables = KeepsSeats (λ old new. IsDueByBytes (IsDueByTrace (IsSeatedReport options new.tables)) old.source new.source);
}

-- ---- serve: the totals of what the fronts received

-- the totals of what was served, or the line of a fault of the net that stopped it
abbrev pub IsDueOfServe : Options → PortOptions → Outside → Outside → Status → List ℕ → Type 0
IsDueOfServe options ports old new Done text = (totals : Totals) × HasServed alone options empty_origin ports totals old.net new.net × (text ≡ totals_text totals)
IsDueOfServe options ports old new NetFault text = HasStopped alone options empty_origin ports old.net new.net × (text ≡ with_line_feed (codes "net fault"))
IsDueOfServe options ports old new _ text = ⊥

-- the totals are those of a server whose owners' seats the tables keep
abbrev pub IsSeatedService : Options → PortOptions → Outside → Outside → List ℕ → Type 0
IsSeatedService options ports old new text =
    (totals : Totals) × HasServedOnTables alone options empty_origin ports totals new.tables old.net new.net × (text ≡ totals_text totals)

-- A server binds at most one port for each front, from the first port on, and each end is back, whatever the status.
abbrev pub serve_promise : Options → PortOptions → Promise
serve_promise options ports = record (output_promise (IsDueOfServe options ports) Done) {
  unhindered = λ old new status. ¬ (Rose old.net.faults new.net.faults) × IsWritable Done old new status;
  net = KeepsNet ports;
  tables = KeepsSeats (IsSeatedService options ports);
}

-- ---- gen: the generated trace

abbrev pub IsGenerated : GenOptions → List ℕ → Type 0
IsGenerated generator text = text ≡ trace_text (generated generator)

abbrev pub gen_promise : GenOptions → Promise
gen_promise generator = output_promise (λ old new. AtDone (IsGenerated generator)) Done

-- ---- bench: the summary of a run of the generated trace

-- the summary of a lawful report of the generated trace
abbrev pub IsSummary : Options → GenOptions → List ℕ → Type 0
IsSummary options generator text =
    (report : List Line) × LawfulReport options (generated generator) report × (text ≡ summary_text options (generated generator) report)

-- the summary is that of a run whose owners' seats these are
abbrev pub IsSeatedSummary : Options → GenOptions → List KeptSeat → List ℕ → Type 0
IsSeatedSummary options generator kept text =
    (report : List Line) × IsReplayed options (generated generator) report kept × (text ≡ summary_text options (generated generator) report)

abbrev pub bench_promise : Options → GenOptions → Promise
bench_promise options generator = record (output_promise (λ old new. AtDone (IsSummary options generator)) Done) {
  tables = KeepsSeats (λ old new. IsSeatedSummary options generator new.tables);
}

-- ---- check: what is found of a trace, a line `check` and a report

abbrev pub IsDueOfCheck : Options → Status → List ℕ → List ℕ → Type 0
IsDueOfCheck options status bytes text =
    (finding : Finding) × Finds options bytes finding × (status ≡ status_of finding) × (text ≡ with_line_feed (finding_text finding))

abbrev pub IsKindOfCheck : Options → Status → List ℕ → Type 0
IsKindOfCheck options status bytes = (finding : Finding) × Finds options bytes finding × (status ≡ status_of finding)

abbrev pub check_promise : Options → Promise
check_promise options = input_promise (λ old new. IsDueOfCheck options) (IsKindOfCheck options)

-- ---- exclusive: the exact report of the trace

-- the text of an exact report of the trace
abbrev pub IsExactText : Options → List TraceLine → List ℕ → Type 0
IsExactText options trace text = (report : List Line) × ExactReport options trace report × (text ≡ report_text report)

abbrev pub IsDueOfExclusive : Options → Outside → Outside → Status → List TraceLine → List ℕ → Type 0
IsDueOfExclusive options old new status trace = AtDone (IsExactText options trace) status

abbrev pub exclusive_promise : Options → Promise
exclusive_promise options = trace_promise (IsDueOfExclusive options) IsAlwaysDone

-- ---- ask: what a server's replies say

-- what passed over the link says this of the exchange of the trace's batches
abbrev pub AnswersAs : AskOptions → List TraceLine → Outside → Outside → Result (List Line) AskFault → Type 0
AnswersAs options trace old new answer = OnTalk (Passes (MeansForAsk answer (start options trace))) old.link.talk new.link.talk

-- the text of the report that the replies make
abbrev pub IsAnswerText : AskOptions → List TraceLine → Outside → Outside → List ℕ → Type 0
IsAnswerText options trace old new text = (report : List Line) × AnswersAs options trace old new (Ok report) × (text ≡ report_text report)

-- the status of a fault of the exchange
abbrev pub fault_status : AskFault → Status
fault_status Link = LinkFault
fault_status NoRoom = NoMemory
fault_status _ = ReplyRefused

-- The line of the fault that stopped the exchange. The link came to its end where that is the fault, and its count rose where that is.
pub record IsFaultLine (options : AskOptions) (trace : List TraceLine) (old new : Outside) (status : Status) (text : List ℕ) : Type 0 where
  pub fault : AskFault
  pub status_is : status ≡ fault_status fault
  pub cause : AnswersAs options trace old new (Err fault)
  pub ended : new.link.has_ended ≡ (is_lost_fault fault || old.link.has_ended)
  pub rose : fault ≡ Link → Rose old.link.faults new.link.faults
  pub spelled : text ≡ with_line_feed (ask_fault_text fault)

abbrev pub IsDueOfAsk : AskOptions → Outside → Outside → Status → List TraceLine → List ℕ → Type 0
IsDueOfAsk options old new Done trace text = IsAnswerText options trace old new text
IsDueOfAsk options old new status trace text = IsFaultLine options trace old new status text

-- what became of the line of a fault of the exchange
abbrev pub IsToldFault : AskFault → SinkFacts → SinkFacts → Status → Type 0
IsToldFault fault old new result =
    IsUnwritten old new result ⊎ ((fault ≢ NoRoom) × IsWritten (fault_status fault) (with_line_feed (ask_fault_text fault)) old new result)

-- no trace tells beforehand what a server answers
abbrev pub IsNeverTold : Status → List TraceLine → Type 0
IsNeverTold status trace = ⊥

-- The link is as it was. Or it ends after the silence of the options, and what passed over it is an exchange of the batches of the trace that
-- the source gave, up to some answer.
abbrev pub KeepsLink : AskOptions → Outside → Outside → Type 0
KeepsLink options old new =
    (new.link ≡ old.link)
    ⊎ ((new.link.silence ≡ options.wait) × ((trace : List TraceLine) × GivesTrace old.source new.source trace
    × ((answer : Result (List Line) AskFault) × AnswersAs options trace old new answer)))

abbrev pub ask_promise : AskOptions → Promise
ask_promise options = record (trace_promise (IsDueOfAsk options) IsNeverTold) { link = KeepsLink options }

-- ---- image: the image of the store that the trace leaves

-- the text of the image that a run of the trace leaves
abbrev pub IsImageText : Options → List TraceLine → List ℕ → Type 0
IsImageText options trace text = (imaged : Imaged) × IsImaged options trace imaged × (text ≡ image_text imaged.image)

abbrev pub IsDueOfImage : Options → Outside → Outside → Status → List TraceLine → List ℕ → Type 0
IsDueOfImage options old new status trace = AtDone (IsImageText options trace) status

abbrev pub image_promise : Options → Promise
image_promise options = trace_promise (IsDueOfImage options) IsAlwaysDone

-- ---- unpack: the pairs of an image

-- a line for each pair, or the line of the first fault of bytes that are no image
abbrev pub IsDueOfUnpack : Status → List ℕ → List ℕ → Type 0
IsDueOfUnpack Done bytes text = (pairs : List Pair) × SpellsImage bytes pairs × (text ≡ trace_text (put_lines pairs))
IsDueOfUnpack ImageRefused bytes text = (fault : ImageFault) × (first_fault bytes ≡ Some fault) × (text ≡ with_line_feed (fault_name fault))
IsDueOfUnpack _ bytes text = ⊥

-- the bytes are an image, or have a first fault
abbrev pub IsKindOfUnpack : Status → List ℕ → Type 0
IsKindOfUnpack Done bytes = (pairs : List Pair) × SpellsImage bytes pairs
IsKindOfUnpack ImageRefused bytes = (fault : ImageFault) × (first_fault bytes ≡ Some fault)
IsKindOfUnpack _ bytes = ⊥

abbrev pub unpack_promise : Promise
unpack_promise = input_promise (λ old new. IsDueOfUnpack) IsKindOfUnpack

-- what became of an image that was refused for the fault
abbrev pub IsRefusedImage : ImageFault → SinkFacts → SinkFacts → Status → Type 0
IsRefusedImage fault old new result =
    IsUnwritten old new result ⊎ ((fault ≢ NoSpace) × IsWritten ImageRefused (with_line_feed (fault_name fault)) old new result)

-- ---- words that give no command

abbrev pub IsDueOfNoCommand : Outside → Outside → Status → List ℕ → Type 0
IsDueOfNoCommand old new Usage text = text ≡ with_line_feed (codes "usage")
IsDueOfNoCommand old new _ text = ⊥

abbrev pub usage_promise : Promise
usage_promise = output_promise IsDueOfNoCommand Usage

-- the promises for words that give this command, or none
abbrev pub promise_of : Option Command → Promise
promise_of (Some (Replay options)) = replay_promise options
promise_of (Some (Serve options ports)) = serve_promise options ports
promise_of (Some (Gen generator)) = gen_promise generator
promise_of (Some (Bench options generator)) = bench_promise options generator
promise_of (Some (Check options)) = check_promise options
promise_of (Some (Exclusive options)) = exclusive_promise options
promise_of (Some (Ask options)) = ask_promise options
promise_of (Some (Image options)) = image_promise options
promise_of (Some Unpack) = unpack_promise
promise_of None = usage_promise
