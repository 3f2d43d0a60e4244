-- Each reply is the first with its ticket, so in the end each ticket has one.
use Rattle.std.proofs.Common.{◌≡◌, ◌≤◌, ℕ, zero, suc, ◌+◌, ◌-◌, ◌==◌, Bool, true, false, List, [], ◌∷◌, ◌++◌, map, length, refl, sym, ap, subst, ◌∙◌, arith, set, cond, append-nil, append_assoc, eq-eqb, is_some, IfSome, Option, Some, None, option_and_then, Result, Ok, Err}
use Rattle.std.specs.Prelude.{slice_get}
use Rattle.std.specs.List.{AllByRecursion}
use Rattle.std.proofs.lemmas.Bool.{eqb-true, eqb-false, ne_eqb}
use Rattle.std.proofs.lemmas.List.Elements.{filter-append}
use Rattle.std.proofs.lemmas.Option.{slice_get_within}
use Rattle.list_laws.proofs.AllElements.{all_push}
use Rattle.list_laws.proofs.Places.{set_here, set_elsewhere}
use Rattle.mica_trace.specs.declared.line.TraceOp.{TraceOp}
use Rattle.mica_trace.specs.declared.line.TraceOp.TheVariants as op
use Rattle.mica_trace.specs.declared.line.TraceLine.{TraceLine}
use Rattle.mica_trace.specs.declared.report.Line.{Line}
use Rattle.mica_trace.specs.declared.report.Line.TheVariants.{Sync}
use Rattle.mica_trace.specs.TraceGrammar.{is_sync, is_sync_op}
use Rattle.batch_packets.specs.declared.batch.Want.{Want}
use Rattle.batch_packets.specs.declared.batch.Request.{Request}
use Rattle.batch_packets.specs.declared.batch.Batch.{Batch}
use Rattle.batch_packets.specs.declared.replies.Reply.{Reply}
use Rattle.server_words.specs.declared.ask_options.AskOptions.{AskOptions}
use Rattle.mica_client.specs.declared.fault.AskFault.{AskFault}
use Rattle.mica_client.specs.Talk.{Passed, sent, received}
use Rattle.mica_client.specs.Batches.{Group, Ask, groups_of, numbered, want_of}
use Rattle.mica_client.specs.Answers.{KnownLines, unanswered, line_of, after_one, after_replies, go_on, IsOfTrace}
use Rattle.mica_client.specs.Exchange.{Standing, start, Runs, ComesTo, IsWhole}
use Rattle.mica_client.specs.Replied.{RepliesIn, with_ticket, IsReplied, IsRepliedOnce}
use Rattle.mica_client.proofs.Requests.{of_line}
use Rattle.mica_client.proofs.Taking.{TookOne, took_one, asked}
use Rattle.mica_client.proofs.Whole.{of_trace}

-- one reply more
ticket_more : (t : ℕ) (replies : List Reply) (r : Reply) (b : Bool) → (r.ticket == t) ≡ b → with_ticket t (replies ++ r ∷ []) ≡ with_ticket t replies ++ cond b (r ∷ []) []
ticket_more t replies r b e = filter-append (λ (r : Reply). r.ticket == t) replies (r ∷ []) ∙ ap (λ (b : Bool). with_ticket t replies ++ cond b (r ∷ []) []) e

-- a line that is not known has no reply
abbrev pub IsAnswer : Option Want → List Reply → Option Line → Type 0
IsAnswer want replies None = replies ≡ []
IsAnswer want replies (Some printed) = IsReplied want replies printed

pub record AnswerAt (answers : KnownLines) (n : ℕ) (want : Option Want) (replies : List Reply) : Type 0 where
  pub answer : Option Line
  pub at : slice_get answers n ≡ Some answer
  pub is : IsAnswer want replies answer

-- what is known are the replies so far
pub record Replied (trace : List TraceLine) (replies : List Reply) (answers : KnownLines) : Type 0 where
  pub each : (n : ℕ) (line : TraceLine) → slice_get trace n ≡ Some line → AnswerAt answers n (want_of line.op) (with_ticket (n + 1) replies)
  pub tickets : AllByRecursion (λ reply. (1 ≤ reply.ticket) × (reply.ticket ≤ length trace)) replies

none_first : (want : Option Want) (replies : List Reply) (answer : Option Line) → is_some answer ≡ false → IsAnswer want replies answer → replies ≡ []
none_first want replies None unknown h = h
none_first want replies (Some printed) unknown h = absurd (cc)

abbrev pub OfRequests : List TraceLine → List Request → Type 0
OfRequests trace requests = AllByRecursion (IsOfTrace trace) requests

-- the reply has the ticket of this line, which was not answered
pub record IsReplyTo (trace : List TraceLine) (answers : KnownLines) (reply : Reply) (want : Want) : Type 0 where
  pub place : ℕ
  pub line : TraceLine
  pub at : slice_get trace place ≡ Some line
  pub want_is : want_of line.op ≡ Some want
  pub ticket_is : reply.ticket ≡ place + 1
  pub unknown : is_some (option_and_then (λ answer. answer) (slice_get answers place)) ≡ false

reply_to : (trace : List TraceLine) (batch : Batch) (reply : Reply) (old new : KnownLines) → OfRequests trace batch.requests → (took : TookOne batch reply old new) → IsReplyTo trace old reply took.want
reply_to trace batch reply old new of took =
    let found = asked (IsOfTrace trace) batch.requests reply.ticket took.want of took.at in
    let h = found.holds in
    let its = of_line h.place h.line found.request h.is in
    let ticket : reply.ticket ≡ h.place + 1 = sym found.ticket_is ∙ its.ticket in
    record {
      place = h.place;
      line = h.line;
      at = h.at;
      want_is = its.want ∙ ap (λ (w : Want). Some w) found.want_is;
      ticket_is = ticket;
      unknown = subst (λ (k : ℕ). is_some (option_and_then (λ answer. answer) (slice_get old k)) ≡ false) (let e : reply.ticket - 1 ≡ h.place = omega (arith, ticket) in e) took.unknown;
    }

module _ (trace : List TraceLine) (replies : List Reply) (reply : Reply) (old : KnownLines) (want : Want) (printed : Line) (so_far : Replied trace replies old) (to : IsReplyTo trace old reply want) (means : line_of want reply ≡ Some printed) where
  abbrev new : KnownLines
  new = set old to.place (Some printed)

  answered : AnswerAt new to.place (Some want) (with_ticket (to.place + 1) (replies ++ reply ∷ []))
  answered =
      let before = so_far.each to.place to.line to.at in
      let unknown : is_some before.answer ≡ false = subst (λ (a : Option (Option Line)). is_some (option_and_then (λ answer. answer) a) ≡ false) before.at to.unknown in
      let none = none_first _ _ before.answer unknown before.is in
      record {
        answer = Some printed;
        at = set_here old to.place before.answer (Some printed) before.at;
        is = (reply, ticket_more (to.place + 1) replies reply true (eq-eqb _ _ to.ticket_is) ∙ ap (λ (l : List Reply). l ++ reply ∷ []) none, means);
      }

  other : (n : ℕ) (line : TraceLine) → slice_get trace n ≡ Some line → (to.place ≡ n → ⊥) → AnswerAt new n (want_of line.op) (with_ticket (n + 1) (replies ++ reply ∷ []))
  other n line at apart =
      let before = so_far.each n line at in
      let no : (reply.ticket == n + 1) ≡ false = ne_eqb reply.ticket (n + 1) (λ e. apart (let t = to.ticket_is in omega (arith, t, e))) in
      record {
        answer = before.answer;
        at = set_elsewhere old to.place n (Some printed) (λ e. apart (sym e)) ∙ before.at;
        is = subst (λ (l : List Reply). IsAnswer (want_of line.op) l before.answer) (sym (ticket_more (n + 1) replies reply false no ∙ append-nil (with_ticket (n + 1) replies))) before.is;
      }

  replied_more : Replied trace (replies ++ reply ∷ []) new
  replied_more = record {
    each = λ n line at. by n line at (to.place == n) refl;
    tickets = all_push (λ (r : Reply). (1 ≤ r.ticket) × (r.ticket ≤ length trace)) replies reply so_far.tickets (let t = to.ticket_is in omega (arith, t), let t = to.ticket_is in let within = slice_get_within trace to.place to.line to.at in omega (arith, t, within));
  }
    where
      by : (n : ℕ) (line : TraceLine) → slice_get trace n ≡ Some line → (b : Bool) → (to.place == n) ≡ b → AnswerAt new n (want_of line.op) (with_ticket (n + 1) (replies ++ reply ∷ []))
      by n line at false e = other n line at (eqb-false to.place n e)
      by n line at true e =
          let same : to.place ≡ n = eqb-true to.place n e in
          let here = to.at in
          let one : line ≡ to.line = cc in
          let its : want_of line.op ≡ Some want = ap (λ (l : TraceLine). want_of l.op) one ∙ to.want_is in
          subst (λ (w : Option Want). AnswerAt new n w (with_ticket (n + 1) (replies ++ reply ∷ []))) (sym its) (subst (λ (k : ℕ). AnswerAt new k (Some want) (with_ticket (k + 1) (replies ++ reply ∷ []))) same answered)

one_replied : (trace : List TraceLine) (batch : Batch) (reply : Reply) (replies : List Reply) (old new : KnownLines) → OfRequests trace batch.requests → TookOne batch reply old new → Replied trace replies old
    → Replied trace (replies ++ reply ∷ []) new
one_replied trace batch reply replies old new of took so_far =
    let to = reply_to trace batch reply old new of took in
    let place : to.place ≡ reply.ticket - 1 = let t = to.ticket_is in omega (arith, t) in
    subst (Replied trace (replies ++ reply ∷ [])) (ap (λ (k : ℕ). set old k (Some took.line)) place ∙ sym took.made)
    (replied_more trace replies reply old took.want took.line so_far to took.means)

datagram_replied : (trace : List TraceLine) (batch : Batch) (number : ℕ) (own replies : List Reply) (old new : KnownLines) → OfRequests trace batch.requests → after_replies batch number own old ≡ Ok new
    → Replied trace replies old → Replied trace (replies ++ own) new
datagram_replied trace batch number [] replies old new of made so_far =
    let same : old ≡ new = cc in subst (λ (l : List Reply). Replied trace l new) (sym (append-nil replies)) (subst (Replied trace replies) same so_far)
datagram_replied trace batch number (r ∷ rs) replies old new of made so_far =
    by (after_one batch number r old) refl made (λ mid k h. datagram_replied trace batch number rs (replies ++ r ∷ []) mid new of k h)
  where
    by : (x : Result KnownLines AskFault) → after_one batch number r old ≡ x → go_on x (after_replies batch number rs) ≡ Ok new
        → ((mid : KnownLines) → after_replies batch number rs mid ≡ Ok new → Replied trace (replies ++ r ∷ []) mid → Replied trace ((replies ++ r ∷ []) ++ rs) new)
        → Replied trace (replies ++ r ∷ rs) new
    by (Err fault) e k later = absurd (cc)
    by (Ok mid) e k later =
        subst (λ (l : List Reply). Replied trace l new) (append_assoc replies (r ∷ []) rs)
        (later mid k (one_replied trace batch r replies old mid of (took_one batch number r old mid e) so_far))

-- a whole exchange

abbrev pub OfAsks : List TraceLine → List Ask → Type 0
OfAsks trace asks = AllByRecursion (λ ask. OfRequests trace ask.batch.requests) asks

abbrev pub OfAsked : List TraceLine → Option Batch → Type 0
OfAsked trace asked = IfSome asked (λ batch. OfRequests trace batch.requests)

pub record RepliedLater (trace : List TraceLine) (passed : List Passed) (replies : List Reply) (answers : KnownLines) : Type 0 where
  pub later : List Reply
  pub are : RepliesIn passed later
  pub replied : Replied trace (replies ++ later) answers

runs_replied : (trace : List TraceLine) (before after : Standing) (passed : List Passed) (replies : List Reply) → Runs before passed after → OfAsks trace before.left → OfAsked trace before.asked
    → Replied trace replies before.answers → RepliedLater trace passed replies after.answers
runs_replied trace before after [] replies r left asked so_far = record {
  later = [];
  are = refl;
  replied = subst (λ (l : List Reply). Replied trace l after.answers) (sym (append-nil replies)) (subst (λ (s : Standing). Replied trace replies s.answers) (sym r) so_far);
}
runs_replied trace before after (sent port bytes faults ∷ more) replies r left asked so_far =
    let step = r.1 in
    let all = subst (OfAsks trace) step.next left in
    let rest = runs_replied trace r.0 after more replies r.2 all.1 (subst (OfAsked trace) (sym step.asked) all.0) (subst (Replied trace replies) (sym step.answers) so_far) in
    record { later = rest.later; are = rest.are; replied = rest.replied }
runs_replied trace before after (received bytes faults ∷ more) replies r left asked so_far =
    let step = r.1 in
    let taken = step.taken in
    let own = taken.replies.replies in
    let of = subst (OfAsked trace) step.asked asked in
    let rest = runs_replied trace r.0 after more (replies ++ own) r.2 (subst (OfAsks trace) (sym step.left) left) (subst (OfAsked trace) (sym step.same) asked)
    (datagram_replied trace step.batch taken.replies.number own replies before.answers r.0.answers of taken.made so_far) in
    record {
      later = own ++ rest.later;
      are = (taken.replies, rest.later, taken.spelled, rest.are, refl);
      replied = subst (λ (l : List Reply). Replied trace l after.answers) (append_assoc replies own rest.later) rest.replied;
    }

first_answer : (o : TraceOp) → IsAnswer (want_of o) [] (cond (is_sync_op o) (Some Sync) None)
first_answer op.Sync = (refl, refl)
first_answer op.Put = refl
first_answer op.Add = refl
first_answer op.Del = refl
first_answer op.Touch = refl
first_answer op.Get = refl

unanswered_at : (trace : List TraceLine) (n : ℕ) (line : TraceLine) → slice_get trace n ≡ Some line → slice_get (unanswered trace) n ≡ Some (cond (is_sync line) (Some Sync) None)
unanswered_at [] n line at = absurd (cc)
unanswered_at (x ∷ xs) zero line at = let same : x ≡ line = cc in ap (λ (l : TraceLine). let first : Option Line = cond (is_sync l) (Some Sync) None in Some first) same
unanswered_at (x ∷ xs) (suc n) line at = unanswered_at xs n line at

replied_none : (trace : List TraceLine) → Replied trace [] (unanswered trace)
replied_none trace = record {
  each = λ n line at. record { answer = cond (is_sync line) (Some Sync) None; at = unanswered_at trace n line at; is = first_answer line.op };
  tickets = tt;
}

of_numbered : (trace : List TraceLine) (n : ℕ) (groups : List Group) → AllByRecursion (λ group. OfRequests trace group.requests) groups → OfAsks trace (numbered n groups)
of_numbered trace n [] h = tt
of_numbered trace n (g ∷ gs) h = (h.0, of_numbered trace (n + 1) gs h.1)

pub record PrintedAt (report : List Line) (n : ℕ) (answer : Option Line) : Type 0 where
  pub printed : Line
  pub at : slice_get report n ≡ Some printed
  pub is : answer ≡ Some printed

printed_at : (report : List Line) (n : ℕ) (answer : Option Line) → slice_get (map (λ line. Some line) report) n ≡ Some answer → PrintedAt report n answer
printed_at [] n answer h = absurd (cc)
printed_at (x ∷ xs) zero answer h = record { printed = x; at = refl; is = let same : Some x ≡ answer = cc in sym same }
printed_at (x ∷ xs) (suc n) answer h = let later = printed_at xs n answer h in record { printed = later.printed; at = later.at; is = later.is }

pub replied_once : (options : AskOptions) (trace : List TraceLine) (report : List Line) (passed : List Passed) → ComesTo (start options trace) passed (λ at. IsWhole at × (at.answers ≡ map (λ line. Some line) report))
    → (replies : List Reply) × RepliesIn passed replies × IsRepliedOnce trace report replies
replied_once options trace report passed c =
    let all = runs_replied trace (start options trace) c.0 passed [] c.1 (of_numbered trace 0 (groups_of options trace) (of_trace options trace)) tt (replied_none trace) in
    let each = all.replied in (
      all.later,
      all.are,
      record {
        lines = λ n line at.
            let here = each.each n line at in
            let printed = printed_at report n here.answer (subst (λ (a : KnownLines). slice_get a n ≡ Some here.answer) c.2.1 here.at) in
            (printed.printed, printed.at, subst (IsAnswer (want_of line.op) (with_ticket (n + 1) all.later)) printed.is here.is);
        tickets = each.tickets;
      },
    )
