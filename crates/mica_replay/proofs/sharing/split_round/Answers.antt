use Rattle.std.proofs.Common.{◌≡◌, ◌<◌, ◌≤◌, ◌+◌, ◌-◌, ◌%◌, ◌++◌, ◌∷◌, [], List, ℕ, map, length, take, drop, get_or, slice_get, Some, refl, sym, ap, ◌∙◌, subst, arith, cond}
use Rattle.std.proofs.lemmas.List.{length-map, map-set}
use Rattle.std.proofs.lemmas.Option.{slice_get_read}
use Rattle.list_laws.proofs.AllElements.{all_at}
use Rattle.mica_words.specs.Hash.{hash_of, hash_partition}
use Rattle.mica_words.proofs.Hashes.{partition_of_hash, partition_of-below}
use Rattle.mica_trace.specs.declared.line.TraceLine.{TraceLine}
use Rattle.mica_trace.specs.TraceGrammar.{IsTraceLine}
use Rattle.mica_trace.specs.Rounds.{is_get_op, partition_in, writes_of}
use Rattle.mica_trace.specs.RoundReport.{gets_in}
use Rattle.mica_trace.proofs.ReportStamps.{line_write}
use Rattle.mica_replay.specs.declared.worker.ReaderWork.{ReaderWork}
use Rattle.mica_replay.specs.Each.{Each}
use Rattle.mica_replay.specs.Feeds.{writes_for}
use Rattle.mica_replay.specs.LineNumbers.{homes_of}
use Rattle.mica_replay.specs.RoundJobs.{Queued}
use Rattle.mica_replay.specs.RoundRun.{ReaderPart, reader_part}
use Rattle.mica_replay.specs.Shares.{HasGets}
use Rattle.mica_replay.proofs.RoundSteps.{seen_at}
use Rattle.mica_replay.proofs.RoundEnds.{part_more}
use Rattle.mica_replay.proofs.LineShares.{no_home, own_home, home_push, gets_push, gets_none, gets_skip, gets_give, sync_no_write, get_no_write, write_no_get, take_most}
use Rattle.mica_replay.proofs.RoundJobs.{few_jobs, queued_none, queued_one}
use Rattle.mica_replay.proofs.sharing.split_round.Given.{Over}
use Rattle.mica_replay.proofs.sharing.split_round.Goals.{in-Get+in_ok-push-in-Get, in-Put+in_ok-push-in-Put, in-Sync}
use Rattle.mica_replay.proofs.sharing.split_round.Goals as goal

abbrev seen : (g : Over) → ReaderWork g.row.R.Denot → ReaderPart
seen g r = reader_part g.R.ReaderWords.reader g.R.ReaderWords.home r

pub loop-number-init : goal.loop-number-init
loop-number-init g c =
    let options = c.args.options.now in
    let trace = c.args.trace.now in
    let from : ℕ = c.args.from in
    let zero : from - from ≡ 0 = omega arith in
    let none : take (from - from) (drop from trace) ≡ [] = ap (λ n. take n (drop from trace)) zero in
    record {
      gets = omega (arith, ap gets_in none);
      homes = c.in_ok-homes.ensures.items ∙ ap (homes_of options) (sym none);
      few = omega arith;
      queues = c.in_ok-jobs.ensures.queues;
      writes = λ p. ap (writes_for p) c.in_ok-jobs.ensures.none ∙ ap (writes_of options p) (sym none);
      readers = subst (λ l. Each (HasGets options trace c.args.first l) (map (seen g) c.args.readers.now.items) (map (seen g) c.clear_readers.new.readers.items)) (sym none)
          (gets_none options trace c.args.first (map (seen g) c.args.readers.now.items) (map (seen g) c.clear_readers.new.readers.items) c.clear_readers.ensures);
    }

pub push-requires-in-Put : goal.push-requires-in-Put
push-requires-in-Put g c =
    let options = c.args.options.now in
    let trace = c.args.trace.now in
    let from = c.args.from in
    let number = c.loop-number.number in
    let line = c.index-lines-number.result in
    let inv = c.loop-number.invariant in
    let less : number < length trace = omega (arith, c.requires.bounds, c.loop-number-test.true) in
    let is : line ≡ get_or trace number line = c.index-lines-number.is ∙ ap (λ (ls : List TraceLine). get_or ls number line) c.lines-lines.ensures.same in
    let here : c.partition_of-partition.result ≡ partition_in options line
    = c.partition_of-partition.ensures ∙ ap (λ h. hash_partition h options.partitions) (c.key_hash.ensures ∙ ap (hash_of options.hashing) c.bytes.ensures) ∙ sym (partition_of_hash options.hashing line.key options.partitions) in
    let lines = take (number - from) (drop from trace) in
    record {
      queue = omega (arith, here, partition_of-below options.hashing line.key options.partitions c.requires.valid.partitions.0, inv.queues);
      write = line_write line.op line.key line.value c.write_of_line.result (all_at IsTraceLine trace number line c.lines-lines.ensures.lines (slice_get_read trace (length trace) number line refl less is)) c.write_of_line.ensures;
      few = omega (arith, ap length (inv.writes c.partition_of-partition.result), few_jobs options c.partition_of-partition.result lines, take_most (number - from) (drop from trace), c.ranges.to.fits, c.loop-number-test.true);
    }

pub loop-number-preserved : goal.loop-number-preserved
loop-number-preserved g c =
    let options = c.args.options.now in
    let trace = c.args.trace.now in
    let from = c.args.from in
    let number = c.loop-number.number in
    let line = c.index-lines-number.result in
    let low : from ≤ number = omega arith in
    let less : number < length trace = omega (arith, c.requires.bounds, c.loop-number-test.true) in
    let lines = take (number - from) (drop from trace) in
    let is : line ≡ get_or trace number line = c.index-lines-number.is ∙ ap (λ (ls : List TraceLine). get_or ls number line) c.lines-lines.ensures.same in
    let is_line : slice_get trace number ≡ Some line = slice_get_read trace (length trace) number line refl less is in
    let more : take (number + 1 - from) (drop from trace) ≡ lines ++ line ∷ [] = part_more trace from number line low less ∙ ap (λ l. lines ++ l ∷ []) (sym is) in
    let olds = map (seen g) c.args.readers.now.items in
    let mids = map (seen g) c.loop-number.readers.items in
    let jobs : Queued = c.loop-number.jobs in
    let inv = c.loop-number.invariant in
    let was = inv.gets in
    let were = inv.few in
    let pushed = ap gets_in more ∙ gets_push options trace lines line in
    elim c.match-line.branch [
      | in-Get+in_ok-push-in-Get w ↦
          let old = w.index_mut-reader.result.now in
          let q = c.loop-number.gets % options.readers in
          let new : ReaderWork g.row.R.Denot = record old { gets = w.push.new.self } in
          let no_write = get_no_write line.op line.key line.value w.in-Get.is in
          let home = w.home-is ∙ no_home options line no_write in
          let one = pushed ∙ ap (λ b. gets_in lines + cond b 1 0) (ap is_get_op w.in-Get.is) in
          let same = w.gets-is in
          let some = c.requires.valid.readers.0 in
          let below : q < options.readers = omega arith in
          let here : q ≡ (c.args.first + gets_in lines) % options.readers = ap (λ n. n % options.readers) inv.gets in
          let within : q < length c.loop-number.readers.items = omega (arith, length-map c.loop-number.readers.items (seen g), length-map c.args.readers.now.items (seen g), inv.readers.many, c.requires.many) in
          let at : slice_get mids q ≡ Some (seen g old) = seen_at (seen g) c.loop-number.readers.items q old within w.index_mut-reader.ensures.value in
          record {
            gets = omega arith;
            homes = home_push options lines _ line c.loop-number.homes.items _ _ more inv.homes c.in_ok-push.ensures.items home;
            few = omega arith;
            queues = ap (λ (j : Queued). j.queues) w.jobs-is ∙ inv.queues;
            writes = λ p. ap (λ (j : Queued). writes_for p j.feeds) w.jobs-is ∙ queued_none options lines line (λ k. writes_for k jobs.feeds) inv.writes no_write p ∙ ap (writes_of options p) (sym more);
            readers = rw (w.readers-is, more, map-set (seen g) c.loop-number.readers.items q new) (gets_give options trace lines line c.args.first olds mids number q (seen g old) (seen g new)
                inv.readers w.in-Get.is here is_line at (record { seats = refl; tables = refl; worker = refl }) w.in_ok-push-in-Get.ensures.items);
          }
      | in-Put+in_ok-push-in-Put w ↦
          let later : Queued = w.push-in-Put.new.self in
          let write = w.write_of_line.result in
          let is_write = w.write_of_line.ensures in
          let no_get = write_no_get line.op line.key line.value write is_write in
          let none = pushed ∙ ap (λ b. gets_in lines + cond b 1 0) no_get in
          let same = w.gets-is in
          let here : w.partition_of-partition.result ≡ partition_in options line
          = w.partition_of-partition.ensures ∙ ap (λ h. hash_partition h options.partitions) (w.key_hash.ensures ∙ ap (hash_of options.hashing) w.bytes.ensures) ∙ sym (partition_of_hash options.hashing line.key options.partitions) in
          let home = w.home-is ∙ here ∙ sym (own_home options line write is_write) in
          record {
            gets = omega arith;
            homes = home_push options lines _ line c.loop-number.homes.items _ _ more inv.homes c.in_ok-push.ensures.items home;
            few = omega arith;
            queues = ap (λ (j : Queued). j.queues) w.jobs-is ∙ w.push-in-Put.ensures.queues ∙ inv.queues;
            writes = λ p. ap (λ (j : Queued). writes_for p j.feeds) w.jobs-is
                ∙ queued_one options lines line (λ k. writes_for k jobs.feeds) inv.writes (λ k. writes_for k later.feeds) write w.partition_of-partition.result is_write here
                w.in_ok-push-in-Put.ensures.own w.in_ok-push-in-Put.ensures.others p ∙ ap (writes_of options p) (sym more);
            readers = rw (w.readers-is, more) (gets_skip options trace lines line c.args.first olds mids no_get inv.readers);
          }
      | in-Sync w ↦
          let no_write = sync_no_write line.op line.key line.value w.in-Sync.is in
          let home = w.home-is ∙ no_home options line no_write in
          let no_get = ap is_get_op w.in-Sync.is in
          let none = pushed ∙ ap (λ b. gets_in lines + cond b 1 0) no_get in
          let same = w.gets-is in
          record {
            gets = omega arith;
            homes = home_push options lines _ line c.loop-number.homes.items _ _ more inv.homes c.in_ok-push.ensures.items home;
            few = omega arith;
            queues = ap (λ (j : Queued). j.queues) w.jobs-is ∙ inv.queues;
            writes = λ p. ap (λ (j : Queued). writes_for p j.feeds) w.jobs-is ∙ queued_none options lines line (λ k. writes_for k jobs.feeds) inv.writes no_write p ∙ ap (writes_of options p) (sym more);
            readers = rw (w.readers-is, more) (gets_skip options trace lines line c.args.first olds mids no_get inv.readers);
          }
    ]

pub returns-clause-readers : goal.returns-clause-readers
returns-clause-readers g c =
    let all : c.loop-number.number ≡ c.args.to = omega (arith, c.loop-number-test.false, c.loop-number.auto.number-end) in
    rw (sym all) c.loop-number.invariant.readers
