use Rattle.std.proofs.Common.{◌≡◌, ◌≤◌, ◌<◌, ◌∙◌, ℕ, List, length, ap, sym, subst, arith}
use Rattle.std.specs.List.{AllByRecursion, AllZip}
use Rattle.mica_trace.specs.declared.line.TraceLine.{TraceLine}
use Rattle.mica_trace.specs.TraceGrammar.{IsTraceLine}
use Rattle.mica_trace.specs.LawfulReport.{IsLineFor}
use Rattle.mica_client.specs.Batches.{Group, groups_of}
use Rattle.mica_client.specs.Answers.{KnownLines, KeepsAll}
use Rattle.mica_client.proofs.Asking.{AreBatches, HaveTickets, Answered}
use Rattle.mica_client.proofs.Fitting.{few_groups}
use Rattle.mica_client.proofs.Whole.{are_batches, have_tickets, all_known, report_lines}
use Rattle.std.proofs.lemmas.List.{length-map}
use Rattle.mica_client.proofs.exchange.ask.Goals as goal

pub ask_all-requires-clause-batches : goal.ask_all-requires-clause-batches
ask_all-requires-clause-batches g c =
    subst AreBatches (sym c.in-Ok.ensures) (are_batches c.args.options.now c.lines-lines.result.now c.requires (subst (AllByRecursion IsTraceLine) (sym c.lines-lines.ensures.same) c.lines-lines.ensures.lines))

pub ask_all-requires-clause-tickets : goal.ask_all-requires-clause-tickets
ask_all-requires-clause-tickets g c =
    let lines = c.lines-lines.result.now in
    let long : length lines ≡ length c.in-Ok-unanswered.answers = sym (ap (λ (a : KnownLines). length a) c.in-Ok-unanswered.ensures ∙ length-map lines _) in
    subst (λ (n : ℕ). HaveTickets n c.in-Ok.groups.items) long (subst (HaveTickets (length lines)) (sym c.in-Ok.ensures) (have_tickets c.args.options.now lines))

pub ask_all-requires-clause-few : goal.ask_all-requires-clause-few
ask_all-requires-clause-few g c =
    let lines = c.lines-lines.result.now in
    let short : length lines ≤ 100000 = let l = c.lines-lines.ensures.within.few_lines in let same = ap (λ (x : List TraceLine). length x) c.lines-lines.ensures.same in omega (arith, l, same) in
    subst (λ (groups : List Group). length groups < 4294967295) (sym c.in-Ok.ensures) (few_groups c.args.options.now lines c.requires (subst (AllByRecursion IsTraceLine) (sym c.lines-lines.ensures.same) c.lines-lines.ensures.lines) short)

pub into_report-requires-clause-known : goal.into_report-requires-clause-known
into_report-requires-clause-known g c =
    let lines = c.lines-lines.result.now in
    let new = c.ask_all.new.answers in
    let e = c.in-Ok-ask_all.ensures in
    let keeps = subst (λ (old : KnownLines). KeepsAll (groups_of c.args.options.now lines) old new) c.in-Ok-unanswered.ensures
    (subst (λ (groups : List Group). KeepsAll groups c.in-Ok-unanswered.answers new) c.in-Ok.ensures e.keeps) in
    all_known c.args.options.now lines new c.requires (subst (AllByRecursion (Answered new)) c.in-Ok.ensures e.answered) keeps

pub returns-in-Ok-ask_all-clause-lines : goal.returns-in-Ok-ask_all-clause-lines
returns-in-Ok-ask_all-clause-lines g c =
    let lines = c.lines-lines.result.now in
    let new = c.ask_all.new.answers in
    let e = c.in-Ok-ask_all.ensures in
    let keeps = subst (λ (old : KnownLines). KeepsAll (groups_of c.args.options.now lines) old new) c.in-Ok-unanswered.ensures
    (subst (λ (groups : List Group). KeepsAll groups c.in-Ok-unanswered.answers new) c.in-Ok.ensures e.keeps) in
    subst (λ (l : List TraceLine). AllZip IsLineFor l c.into_report.result) c.lines-lines.ensures.same (report_lines c.args.options.now lines new c.into_report.result keeps c.into_report.ensures)
