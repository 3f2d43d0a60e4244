use Rattle.std.proofs.Common.{◌≡◌, ℕ, ◌-◌, List, map, take, drop, Some, sym, ◌∙◌, subst, arith}
use Rattle.std.proofs.lemmas.List.{length-map}
use Rattle.std.specs.Vec.Iter.{into_iter_items}
use Rattle.mica_trace.specs.declared.line.TraceLine.{TraceLine}
use Rattle.mica_trace.specs.declared.report.Line.{Line}
use Rattle.mica_trace.specs.TraceGrammar.{IsTraceLine}
use Rattle.mica_trace.specs.Rounds.{writes_of}
use Rattle.mica_trace.specs.LawfulReport.{IsLineFor}
use Rattle.mica_trace.proofs.ListParts.{length_zip}
use Rattle.partition_table.specs.Seats.{reader_state, reader_home}
use Rattle.partition_table.specs.declared.reader.ReaderSeat.{ReaderSeat}
use Rattle.mica_replay.specs.declared.worker.OwnerWork.{OwnerWork}
use Rattle.mica_replay.specs.declared.worker.ReaderWork.{ReaderWork}
use Rattle.mica_replay.specs.Feeds.{writes_for}
use Rattle.mica_replay.specs.Crew.{IsCrew}
use Rattle.mica_replay.specs.Lending.{OwnerPart, owner_part}
use Rattle.mica_replay.specs.RoundRun.{ReaderPart, reader_part}
use Rattle.mica_replay.specs.Each.{Each}
use Rattle.mica_replay.specs.Shares.{HasGets}
use Rattle.mica_replay.proofs.LineShares.{take_most}
use Rattle.mica_replay.proofs.OneRound.{ToRun, AllRan, owners_many, asked_many, are_ready, are_enough, goes_next, free_again, take_join, all_take, all_drop, twice_map, gets_few, gets_join}
use Rattle.mica_replay.proofs.rounds.run_one.Given.{Over}
use Rattle.mica_replay.proofs.rounds.run_one.Goals.{In_ok-shared, In_ok-found}
use Rattle.mica_replay.proofs.rounds.run_one.Goals as goal

abbrev owners : (g : Over) → List (OwnerWork g.row.P.Denot) → List OwnerPart
owners g ws = map (λ w. owner_part g.P.Partition.owner g.P.Partition.home w) ws

abbrev readers : List (ReaderWork ReaderSeat) → List ReaderPart
readers rs = map (λ r. reader_part reader_state reader_home r) rs

module _ (g : Over) (c : In_ok-shared g) where
  abbrev round : List TraceLine
  round = take (c.args.to - c.args.from) (drop c.args.from c.args.trace.now)

  abbrev to_run : ((p : ℕ) → writes_for p c.in_ok-shared.shared.jobs.feeds ≡ writes_of c.args.options.now p round)
      → Each (HasGets c.args.options.now c.args.trace.now c.args.gets round) (readers c.args.readers.now.items) (readers c.split_round.new.readers.items) → ToRun
  to_run queued shared = record {
    options = c.args.options.now;
    valid = c.requires.valid;
    trace = c.args.trace.now;
    before = take c.args.from c.args.trace.now;
    round = round;
    report = c.args.report.now;
    writes = λ p. writes_for p c.in_ok-shared.shared.jobs.feeds;
    owner_parts = owners g c.args.owners.now.items;
    reader_parts = readers c.args.readers.now.items;
    asked = readers c.split_round.new.readers.items;
    few = omega (arith, c.ranges.to.fits, take_most (c.args.to - c.args.from) (drop c.args.from c.args.trace.now));
    so_far = c.requires.so_far;
    free = c.requires.readers;
    queued = queued;
    shared = rw c.requires.gets at shared;
  }

abbrev all_ran : (g : Over) (c : In_ok-found g) → AllRan c.args.options.now c.args.trace.now (λ p. writes_for p c.in_ok-shared.shared.jobs.feeds) (owners g c.args.owners.now.items) (readers c.split_round.new.readers.items)
all_ran g c = record {
  news = owners g c.run_round.new.owners.items;
  left_readers = readers c.run_round.new.readers.items;
  run = c.in_ok-run_round.ensures.ran;
  found = map (λ it. into_iter_items it) c.in_ok-found.found.items;
  all_found = c.in_ok-found.ensures.found ∙ twice_map (λ it. into_iter_items it) (λ (l : List Line). Some l) c.in_ok-found.found.items;
}

pub run_round-requires-clause-ready : goal.run_round-requires-clause-ready
run_round-requires-clause-ready g c = are_ready (to_run g (goal.at.run_round-requires-clause-ready g c).In_ok-shared c.in_ok-shared.ensures.writes c.in_ok-shared.ensures.readers)

pub run_round-requires-clause-queues : goal.run_round-requires-clause-queues
run_round-requires-clause-queues g c =
    let run = to_run g (goal.at.run_round-requires-clause-queues g c).In_ok-shared c.in_ok-shared.ensures.writes c.in_ok-shared.ensures.readers in
    c.in_ok-shared.ensures.queues ∙ sym (sym (length-map c.args.owners.now.items (λ w. owner_part g.P.Partition.owner g.P.Partition.home w)) ∙ owners_many run)

pub run_round-requires-clause-crew : goal.run_round-requires-clause-crew
run_round-requires-clause-crew g c =
    let run = to_run g (goal.at.run_round-requires-clause-crew g c).In_ok-shared c.in_ok-shared.ensures.writes c.in_ok-shared.ensures.readers in
    let owner = λ (w : OwnerWork g.row.P.Denot). owner_part g.P.Partition.owner g.P.Partition.home w in
    let reader = λ (r : ReaderWork ReaderSeat). reader_part reader_state reader_home r in
    subst (λ (n : ℕ × ℕ). IsCrew n.0 n.1 c.args.trace.now c.args.options.now c.args.crew.now)
    (λ i. (sym (sym (length-map c.args.owners.now.items owner) ∙ owners_many run) i, sym (sym (length-map c.split_round.new.readers.items reader) ∙ asked_many run) i)) c.requires.crew

pub print_round-requires-clause-enough : goal.print_round-requires-clause-enough
print_round-requires-clause-enough g c =
    let z = goal.at.print_round-requires-clause-enough g c in
    rw (c.requires.gets, c.lines.ensures.same, c.as_slice-2.ensures.value, c.as_mut_slice.ensures.value)
    (are_enough (to_run g z.In_ok-shared c.in_ok-shared.ensures.writes c.in_ok-shared.ensures.readers) (all_ran g z.In_ok-found))

pub print_round-requires-clause-count : goal.print_round-requires-clause-count
print_round-requires-clause-count g c =
    let before = take c.args.from c.args.trace.now in
    let most = take_most (c.args.to - c.args.from) (drop c.args.from c.lines.result.now) in
    let low = take_most c.args.from c.args.trace.now in
    let some = gets_few before in
    let long = length_zip IsLineFor before c.args.report.now c.requires.so_far.lawful.lines in
    (omega (arith, c.requires.gets, c.requires.bounds, c.ranges.to.fits), omega (arith, c.requires.bounds, c.ranges.to.fits))

pub returns-clause-gets : goal.returns-clause-gets
returns-clause-gets g c = omega (arith, c.in_ok-shared.ensures.gets, c.requires.gets, gets_join c.args.from c.args.to c.args.trace.now c.requires.bounds.0)

pub returns-clause-so_far : goal.returns-clause-so_far
returns-clause-so_far g c =
    let z = goal.at.returns-clause-so_far g c in
    let lines = all_drop IsTraceLine c.args.from c.args.trace.now c.lines.ensures.lines in
    rw (← take_join c.args.from c.args.to c.args.trace.now c.requires.bounds.0)
    (goes_next (to_run g z.In_ok-shared c.in_ok-shared.ensures.writes c.in_ok-shared.ensures.readers) (all_ran g z.In_ok-found) c.requires.ended c.requires.one
    (all_take IsTraceLine c.args.from c.args.trace.now c.lines.ensures.lines) (all_take IsTraceLine (c.args.to - c.args.from) (drop c.args.from c.args.trace.now) lines) c.print_round.new.report
    (rw (c.requires.gets, c.lines.ensures.same, c.as_slice-2.ensures.value, c.as_mut_slice.ensures.value) at c.in_ok-print_round.ensures))

pub returns-clause-readers : goal.returns-clause-readers
returns-clause-readers g c =
    let z = goal.at.returns-clause-readers g c in
    free_again (to_run g z.In_ok-shared c.in_ok-shared.ensures.writes c.in_ok-shared.ensures.readers) (all_ran g z.In_ok-found) _ c.in_ok-found.ensures.kept
