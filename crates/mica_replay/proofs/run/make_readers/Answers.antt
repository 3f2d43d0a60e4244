use Rattle.std.proofs.Common.{◌≡◌, ℕ, ◌+◌, [], Some, List, map, length, slice_get, sym, ap, ◌∙◌, subst}
use Rattle.std.proofs.lemmas.List.{length_push}
use Rattle.mica_replay.specs.declared.worker.ReaderWork.{ReaderWork}
use Rattle.mica_replay.specs.RoundRun.{ReaderPart, reader_part}
use Rattle.mica_replay.proofs.RoundSteps.{each_more}
use Rattle.mica_replay.proofs.run.make_readers.Goals as goal

pub loop-q-preserved : goal.loop-q-preserved
loop-q-preserved g c =
    let f = λ (r : ReaderWork g.row.R.Denot). reader_part g.R.ReaderWords.reader g.R.ReaderWords.home r in
    record {
      many = ap length c.in_ok-push.ensures.items ∙ length_push c.loop-q.readers.items _ ∙ ap (λ n. n + 1) c.loop-q.invariant.many;
      none = subst (λ (items : List (ReaderWork g.row.R.Denot)). (i : ℕ) (t : ReaderPart) → slice_get (map f items) i ≡ Some t → t.seats ≡ []) (sym c.in_ok-push.ensures.items)
          (each_more f (λ (t : ReaderPart). t.seats ≡ []) c.loop-q.readers.items _ c.loop-q.invariant.none (ap (λ l. map (λ s. g.R.ReaderWords.reader s) l) c.new.ensures.items));
    }
