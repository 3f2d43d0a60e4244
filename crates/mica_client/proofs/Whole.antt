-- The batches of a trace are batches, with tickets of its lines, and once all are answered each line has its answer.
use Rattle.std.proofs.Common.{◌≡◌, ◌<◌, ℕ, zero, suc, ◌+◌, ◌-◌, Bool, true, false, not, List, [], ◌∷◌, map, length, refl, ap, subst, ◌∙◌, arith, is_some, cond, Option, Some, None, option_and_then, IfSome}
use Rattle.std.specs.Prelude.{slice_get}
use Rattle.std.specs.List.{All, AllByRecursion, AllZip}
use Rattle.std.proofs.lemmas.Bool.{or_parts, not-false}
use Rattle.std.proofs.lemmas.List.{length-map}
use Rattle.std.proofs.lemmas.List.Elements.{All-from_recursion}
use Rattle.std.proofs.lemmas.Option.{slice_get_within, slice_get-get_or}
use Rattle.mica_trace.specs.declared.line.TraceOp.{TraceOp}
use Rattle.mica_trace.specs.declared.line.TraceOp.TheVariants as op
use Rattle.mica_trace.specs.declared.line.TraceLine.{TraceLine}
use Rattle.mica_trace.specs.declared.report.Line.{Line}
use Rattle.mica_trace.specs.declared.report.Line.TheVariants.{Sync}
use Rattle.mica_trace.specs.TraceGrammar.{IsTraceLine, is_sync, is_sync_op}
use Rattle.mica_trace.specs.ReportGrammar.{IsReportLine}
use Rattle.mica_trace.specs.LawfulReport.{IsLineFor, IsKindOf}
use Rattle.batch_packets.specs.declared.batch.Request.{Request}
use Rattle.batch_packets.specs.BatchGrammar.{IsBatch, IsRequest}
use Rattle.server_words.specs.declared.ask_options.AskOptions.{AskOptions}
use Rattle.mica_client.specs.declared.options.TheConstants.{VERSION}
use Rattle.server_words.specs.AskOptions.{IsValidAsk}
use Rattle.mica_client.specs.Batches.{Group, groups_of, requests_from, request_of, in_front}
use Rattle.mica_client.specs.Answers.{KnownLines, unanswered, is_answered, HasTicketIn, TicketsRise, HasTickets, AreFor, IsOfTrace, KeepsAll, AnswerIsKnown}
use Rattle.mica_client.specs.Exchange.{lacks_answer}
use Rattle.mica_client.proofs.Requests.{of_line, other_some, each_request, requests_rise, requests_lawful}
use Rattle.mica_client.proofs.Fitting.{Fits, of_each, of_rise, groups_fit, all_groups, all_lines, all_each}
use Rattle.mica_client.proofs.Asking.{AreBatches, HaveTickets, OfTrace, Answered}

all_both : {X : Type 0} (P Q R : X → Type 0) → ((x : X) → P x → Q x → R x) → (xs : List X) → AllByRecursion P xs → AllByRecursion Q xs → AllByRecursion R xs
all_both P Q R both [] p q = tt
all_both P Q R both (x ∷ xs) p q = (both x p.0 q.0, all_both P Q R both xs p.1 q.1)

pub are_batches : (options : AskOptions) (trace : List TraceLine) → IsValidAsk options → AllByRecursion IsTraceLine trace → AreBatches (groups_of options trace)
are_batches options trace valid lawful n =
    let requests = requests_lawful 0 trace lawful in
    all_both (λ (g : Group). Fits g.requests) (λ (g : Group). AllByRecursion (IsRequest VERSION) g.requests) (λ (g : Group). IsBatch (record { version = VERSION; number = n; requests = g.requests }))
    (λ g fits each. record { version = refl; fits = fits; each = All-from_recursion (IsRequest VERSION) g.requests each })
    (groups_of options trace) (groups_fit options trace valid requests) (all_groups (of_each (IsRequest VERSION)) options trace requests)

pub have_tickets : (options : AskOptions) (trace : List TraceLine) → HaveTickets (length trace) (groups_of options trace)
have_tickets options trace =
    let P = λ (r : Request). HasTicketIn (length trace) r in
    let each = each_request P 0 trace (λ k line r at is. let of = of_line (0 + k) line r is in let t = of.ticket in let within = slice_get_within trace k line at in (omega (arith, t), omega (arith, t, within))) in
    all_both (λ (g : Group). AllByRecursion P g.requests) (λ (g : Group). TicketsRise g.requests) (λ (g : Group). HasTickets (length trace) g.requests)
    (λ g all rise. record { within = All-from_recursion P g.requests all; rise = rise })
    (groups_of options trace) (all_groups (of_each P) options trace each) (all_groups of_rise options trace (requests_rise 0 trace))

pub of_trace : (options : AskOptions) (trace : List TraceLine) → OfTrace trace (groups_of options trace)
of_trace options trace =
    all_groups (of_each (IsOfTrace trace)) options trace
    (each_request (IsOfTrace trace) 0 trace (λ k line r at is. record { place = k; line = line; at = at; is = ap (λ (m : ℕ). request_of m line) (let e : k ≡ 0 + k = omega arith in e) ∙ is }))

-- Each line has its answer

requests_answered : (answers : KnownLines) (requests : List Request) → lacks_answer answers requests ≡ false → AllByRecursion (λ r. is_answered answers r.ticket ≡ true) requests
requests_answered answers [] h = tt
requests_answered answers (r ∷ rs) h =
    let parts = or_parts (not (is_answered answers r.ticket)) (lacks_answer answers rs) h in
    (not-false (is_answered answers r.ticket) parts.0, requests_answered answers rs parts.1)

behind_front : (P : Request → Type 0) (x : Option Request) (rest : List Request) → AllByRecursion P (in_front x rest) → AllByRecursion P rest
behind_front P None rest h = h
behind_front P (Some r) rest h = h.1

line_known : (Q : ℕ → Type 0) (n : ℕ) (lines : List TraceLine) → AllByRecursion (λ r. Q r.ticket) (requests_from n lines)
    → ((k : ℕ) (line : TraceLine) → slice_get lines k ≡ Some line → is_sync line ≡ true → Q (n + k + 1)) → (k : ℕ) → k < length lines → Q (n + k + 1)
line_known Q n [] h sync k within = absurd (omega arith)
line_known Q n (line ∷ lines) h sync zero within = by (is_sync line) refl
  where
    by : (b : Bool) → is_sync line ≡ b → Q (n + 0 + 1)
    by true e = sync 0 line refl e
    by false e =
        let some = other_some n line e in
        let of = of_line n line some.0 some.1 in
        let own = subst (λ (x : Option Request). AllByRecursion (λ r. Q r.ticket) (in_front x (requests_from (n + 1) lines))) some.1 h in
        let place : some.0.ticket ≡ n + 0 + 1 = let t = of.ticket in omega (arith, t) in
        subst Q place own.0
line_known Q n (line ∷ lines) h sync (suc k) within =
    let later = line_known Q (n + 1) lines (behind_front (λ (r : Request). Q r.ticket) (request_of n line) (requests_from (n + 1) lines) h)
    (λ j l at is. subst Q (let e : n + suc j + 1 ≡ n + 1 + j + 1 = omega arith in e) (sync (suc j) l at is)) k (omega arith) in
    subst Q (let e : n + 1 + k + 1 ≡ n + suc k + 1 = omega arith in e) later

sync_known : (trace : List TraceLine) (k : ℕ) (line : TraceLine) → slice_get trace k ≡ Some line → is_sync line ≡ true → is_some (option_and_then (λ a. a) (slice_get (unanswered trace) k)) ≡ true
sync_known [] k line at sync = absurd (cc)
sync_known (x ∷ xs) zero line at sync =
    let same : line ≡ x = cc in
    let s : is_sync x ≡ true = subst (λ (l : TraceLine). is_sync l ≡ true) same sync in
    ap (λ (b : Bool). is_some (cond b (Some Sync) None)) s
sync_known (x ∷ xs) (suc k) line at sync = sync_known xs k line at sync

pub all_known : (options : AskOptions) (trace : List TraceLine) (new : KnownLines) → IsValidAsk options → AllByRecursion (Answered new) (groups_of options trace) → KeepsAll (groups_of options trace) (unanswered trace) new
    → All AnswerIsKnown new
all_known options trace new valid answered keeps k d within =
    let Q = λ (t : ℕ). is_answered new t ≡ true in
    let groups = all_each (Answered new) (λ (g : Group). AllByRecursion (λ r. Q r.ticket) g.requests) (λ g h. requests_answered new g.requests h) (groups_of options trace) answered in
    let requests = all_lines (λ (r : Request). Q r.ticket) options trace (let low = valid.partitions.0 in omega (arith, low)) groups in
    let long : length new ≡ length trace = keeps.len ∙ length-map trace _ in
    let below : k < length trace = omega (arith, long, within) in
    let known = line_known Q 0 trace requests
    (λ j line at sync. keeps.known (0 + j + 1) (subst (λ (m : ℕ). is_some (option_and_then (λ a. a) (slice_get (unanswered trace) m)) ≡ true) (let e : j ≡ 0 + j + 1 - 1 = omega arith in e) (sync_known trace j line at sync))) k below in
    let place : 0 + k + 1 - 1 ≡ k = omega arith in
    let here = subst (λ (m : ℕ). is_some (option_and_then (λ a. a) (slice_get new m)) ≡ true) place known in
    subst (λ (o : Option (Option Line)). is_some (option_and_then (λ a. a) o) ≡ true) (slice_get-get_or new k d within) here

-- The report has a line for each

first_for : (o : TraceOp) → IfSome (cond (is_sync_op o) (Some Sync) None) (λ printed. IsReportLine printed × IsKindOf o printed)
first_for o =
    elim o as (λ o. IfSome (cond (is_sync_op o) (Some Sync) None) (λ printed. IsReportLine printed × IsKindOf o printed)) [ op.Sync ↦ (tt, tt) | op.Put ↦ tt | op.Add ↦ tt | op.Del ↦ tt | op.Touch ↦ tt | op.Get ↦ tt ]

pub unanswered_for : (trace : List TraceLine) → AreFor trace (unanswered trace)
unanswered_for [] = tt
unanswered_for (x ∷ xs) = (first_for x.op, unanswered_for xs)

lines_for : (trace : List TraceLine) (report : List Line) → AreFor trace (map (λ line. Some line) report) → AllZip IsLineFor trace report
lines_for [] [] h = tt
lines_for [] (y ∷ ys) h = absurd h
lines_for (x ∷ xs) [] h = absurd h
lines_for (x ∷ xs) (y ∷ ys) h = (h.0, lines_for xs ys h.1)

pub report_lines : (options : AskOptions) (trace : List TraceLine) (new : KnownLines) (report : List Line) → KeepsAll (groups_of options trace) (unanswered trace) new → new ≡ map (λ line. Some line) report → AllZip IsLineFor trace report
report_lines options trace new report keeps is =
    lines_for trace report (subst (AreFor trace) is (keeps.lines trace (of_trace options trace) (unanswered_for trace)))
