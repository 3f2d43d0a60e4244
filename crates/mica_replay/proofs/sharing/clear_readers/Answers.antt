use Rattle.std.proofs.Common.{refl, arith}
use Rattle.std.proofs.lemmas.List.{length-map}
use Rattle.mica_replay.specs.declared.worker.ReaderWork.{ReaderWork}
use Rattle.mica_replay.specs.RoundRun.{reader_part}
use Rattle.mica_replay.specs.Shares.{HasNoGets}
use Rattle.mica_replay.proofs.RoundSteps.{seen_many, up_seen, up_all}
use Rattle.mica_replay.proofs.sharing.clear_readers.Goals as goal

pub loop-q-preserved : goal.loop-q-preserved
loop-q-preserved g c =
    let f = λ (r : ReaderWork g.row.R.Denot). reader_part g.R.ReaderWords.reader g.R.ReaderWords.home r in
    let old = c.index_mut-reader.result.now in
    record {
      so_far = up_seen f HasNoGets _ c.loop-q.readers.items c.loop-q.q old (record old { gets = c.clear.new.self }) c.loop-q.invariant.so_far
          (omega (arith, c.loop-q-test.true, c.len-q-end.ensures, c.args.readers.now.ok, seen_many f _ _ c.loop-q.invariant.so_far.many)) c.index_mut-reader.ensures.value
          (record { keeps = record { seats = refl; tables = refl; worker = refl }; none = c.clear.ensures.items });
    }

pub returns : goal.returns
returns g c =
    let f = λ (r : ReaderWork g.row.R.Denot). reader_part g.R.ReaderWords.reader g.R.ReaderWords.home r in
    up_all HasNoGets c.loop-q.q _ _ (omega (arith, c.loop-q-test.false, c.len-q-end.ensures, c.args.readers.now.ok, length-map c.loop-q.readers.items f, seen_many f _ _ c.loop-q.invariant.so_far.many)) c.loop-q.invariant.so_far
