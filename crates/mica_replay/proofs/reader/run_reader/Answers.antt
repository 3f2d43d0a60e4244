use Rattle.std.proofs.Common.{◌≡◌, ◌+◌, List, [], length, map, take, get_or, slice_get, slice_set, Some, refl, sym, ap, ◌∙◌, subst, arith}
use Rattle.std.proofs.lemmas.List.{length_push}
use Rattle.mica_words.specs.Hash.{hash_of, hash_partition}
use Rattle.mica_words.proofs.Hashes.{partition_of_hash}
use Rattle.mica_words.specs.Item.{KeyFits}
use Rattle.mica_trace.specs.declared.line.TraceLine.{TraceLine}
use Rattle.mica_trace.specs.Rounds.{partition_in}
use Rattle.partition_words.specs.declared.reader.ReaderState.{ReaderState}
use Rattle.mica_replay.specs.LineNumbers.{lines_at}
use Rattle.mica_replay.specs.ReaderGets.{HaveRead}
use Rattle.mica_replay.proofs.ReaderSteps.{reads_none, number_within, IsGetOf, get_of, seat_at, seen_at, hashed_at, homes_at, read_at, reads_seen, read_goes}
use Rattle.mica_replay.proofs.RoundSteps.{on_err_any}
use Rattle.mica_replay.proofs.reader.run_reader.Given.{Over}
use Rattle.mica_replay.proofs.reader.run_reader.Goals.{After-ask_hashed-got, After-bytes-key, After-index_mut-seat}
use Rattle.mica_replay.proofs.reader.run_reader.Goals as goal

get : (g : Over) (c : After-bytes-key g) → IsGetOf c.args.trace.now c.args.gets.now c.loop-number.number-index c.index-lines-number.result
get g c =
    let numbers = c.args.gets.now in
    let line = c.index-lines-number.result in
    get_of c.args.trace.now numbers c.loop-number.number-index line c.lines-lines.ensures.lines c.requires.gets c.loop-number-test.true
    (c.index-lines-number.is ∙ ap (λ (ls : List TraceLine). get_or ls (get_or numbers c.loop-number.number-index 0) line) c.lines-lines.ensures.same)

-- the seat that is asked
module _ (g : Over) (c : After-index_mut-seat g) where
  abbrev seat : g.row.R.Denot → ReaderState
  seat s = g.R.ReaderWords.reader s

  abbrev gets : List TraceLine
  gets = lines_at c.args.trace.now (take c.loop-number.number-index c.args.gets.now)

  same_key : c.bytes-key.result.now ≡ c.index-lines-number.result.key
  same_key = c.bytes-key.ensures ∙ ap (λ (l : TraceLine). l.key) (sym c.index-lines-number.is)

  at : c.partition_of-partition.result ≡ partition_in c.args.options.now c.index-lines-number.result
  at = c.partition_of-partition.ensures ∙ ap (λ n. hash_partition n c.args.options.now.partitions) (c.key_hash-hash.ensures ∙ ap (hash_of c.args.options.now.hashing) same_key)
      ∙ sym (partition_of_hash c.args.options.now.hashing c.index-lines-number.result.key c.args.options.now.partitions)

  here : slice_get c.loop-number.seats.items c.partition_of-partition.result ≡ Some c.index_mut-seat.result.now
  here = seat_at seat c.args.options.now c.index-lines-number.result gets c.loop-number.found.items (map seat c.args.seats.now.items) c.loop-number.seats.items
      c.partition_of-partition.result c.index_mut-seat.result.now c.requires.valid c.requires.seats c.loop-number.invariant.read at c.index_mut-seat.ensures.value

homes : (g : Over) (c : After-ask_hashed-got g) → slice_get c.loop-number.seats.items c.partition_of-partition.result ≡ Some c.index_mut-seat.result.now
    → map (λ s. g.R.ReaderWords.home s) (slice_set c.loop-number.seats.items c.partition_of-partition.result c.ask_hashed-got.new.seat) ≡ map (λ s. g.R.ReaderWords.home s) c.args.seats.now.items
homes g c here =
    homes_at (λ s. g.R.ReaderWords.reader s) (λ s. g.R.ReaderWords.home s) c.loop-number.seats.items c.partition_of-partition.result c.index_mut-seat.result.now c.ask_hashed-got.new.seat _
    c.loop-number.invariant.homes here c.ask_hashed-got.ensures.home

pub loop-number-init : goal.loop-number-init
loop-number-init g c =
    let olds = map (λ s. g.R.ReaderWords.reader s) c.args.seats.now.items in
    record {
      read = subst (λ found. HaveRead c.args.options.now [] found olds olds) (sym c.in_ok-found.ensures.items) (reads_none c.args.options.now olds);
      homes = refl;
      room = omega (arith, c.in_ok-found.ensures.capacity);
      found = ap length c.in_ok-found.ensures.items;
      call = refl;
    }

pub bounds-lines-number : goal.bounds-lines-number
bounds-lines-number g c =
    let within = number_within c.args.trace.now c.args.gets.now c.loop-number.number-index c.requires.gets c.loop-number-test.true in
    let same = ap length c.lines-lines.ensures.same in
    omega arith

pub ask_hashed-got-requires-clause-key : goal.ask_hashed-got-requires-clause-key
ask_hashed-got-requires-clause-key g c =
    subst KeyFits (sym (c.bytes-key.ensures ∙ ap (λ (l : TraceLine). l.key) (sym c.index-lines-number.is))) (get g (goal.at.ask_hashed-got-requires-clause-key g c).After-bytes-key).key

pub ask_hashed-got-requires-clause-hashed : goal.ask_hashed-got-requires-clause-hashed
ask_hashed-got-requires-clause-hashed g c =
    let z = (goal.at.ask_hashed-got-requires-clause-hashed g c).After-index_mut-seat in
    c.key_hash-hash.ensures
    ∙ hashed_at (seat g z) c.args.options.now (gets g z) c.loop-number.found.items (map (seat g z) c.args.seats.now.items) c.loop-number.seats.items c.partition_of-partition.result c.index_mut-seat.result.now
    c.bytes-key.result.now c.requires.seats c.loop-number.invariant.read (here g z)

pub returns-in_err-line_of-clause-seen : goal.returns-in_err-line_of-clause-seen
returns-in_err-line_of-clause-seen g c =
    let z = (goal.at.returns-in_err-line_of-clause-seen g c).After-index_mut-seat in
    let f = seat g z in
    let olds = map f c.args.seats.now.items in
    let items = c.loop-number.seats.items in
    let old = c.index_mut-seat.result.now in
    let new = c.ask_hashed-got.new.seat in
    on_err_any c.from_residual-in_err-line_of.result
    (seen_at f olds items c.partition_of-partition.result old new (reads_seen c.args.options.now (gets g z) c.loop-number.found.items olds (map f items) c.loop-number.invariant.read) (here g z)
    (read_goes (f old) (f new) c.bytes-key.result.now c.ask_hashed-got.result c.ask_hashed-got.new.out c.ask_hashed-got.ensures.answered))

pub returns-in_err-line_of-clause-homes : goal.returns-in_err-line_of-clause-homes
returns-in_err-line_of-clause-homes g c = let z = goal.at.returns-in_err-line_of-clause-homes g c in homes g z.After-ask_hashed-got (here g z.After-index_mut-seat)

pub loop-number-preserved : goal.loop-number-preserved
loop-number-preserved g c =
    let at_end = goal.at.loop-number-preserved g c in
    let z = at_end.After-index_mut-seat in
    let of = get g at_end.After-bytes-key in
    let found = c.loop-number.found.items in
    record {
      read = rw (of.more, c.push_reserved.ensures.items, c.in_ok-line_of.ensures)
          (read_at (seat g z) c.args.options.now (gets g z) found (map (seat g z) c.args.seats.now.items) c.loop-number.seats.items c.partition_of-partition.result c.index_mut-seat.result.now c.ask_hashed-got.new.seat _
          c.bytes-key.result.now c.ask_hashed-got.result c.ask_hashed-got.new.out c.requires.seats c.loop-number.invariant.read (at g z) (here g z) of.get (same_key g z) c.ask_hashed-got.ensures.answered);
      homes = homes g at_end.After-ask_hashed-got (here g z);
      room = omega (arith, c.loop-number.invariant.room, c.push_reserved.ensures.capacity);
      found = ap length c.push_reserved.ensures.items ∙ length_push found c.in_ok-line_of.field-0 ∙ ap (λ n. n + 1) c.loop-number.invariant.found;
      call = ap (λ n. n + 1) c.loop-number.invariant.call;
    }
