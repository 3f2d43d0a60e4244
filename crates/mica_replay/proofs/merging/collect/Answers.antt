use Rattle.std.proofs.Common.{◌≡◌, ◌<◌, ◌++◌, ◌∷◌, [], List, Option, map, length, take, Some, refl, sym, ap, ◌∙◌, arith}
use Rattle.std.specs.Vec.Iter.{into_iter_items}
use Rattle.std.proofs.lemmas.List.{length-map, map-append, take_more}
use Rattle.std.proofs.lemmas.Option.{slice_get_within, get_or_from_slice_get}
use Rattle.mica_trace.specs.declared.report.Line.{Line}
use Rattle.mica_replay.specs.declared.worker.ReaderWork.{ReaderWork}
use Rattle.mica_replay.specs.RoundRun.{ReaderPart, reader_part, found_of}
use Rattle.mica_replay.specs.Shares.{KeepsGets}
use Rattle.mica_replay.proofs.RoundSteps.{up_seen, not_yet}
use Rattle.mica_replay.proofs.merging.collect.Goals as goal

pub loop-q-preserved : goal.loop-q-preserved
loop-q-preserved g c =
    let t = λ (r : ReaderWork g.row.R.Denot). reader_part g.R.ReaderWords.reader g.R.ReaderWords.home r in
    let old = c.index_mut-reader.result.now in
    let q = c.loop-q.q in
    let reader_parts = map t c.args.readers.now.items in
    let new : ReaderWork g.row.R.Denot = record old { found = c.take.new.self } in
    let long = length-map c.loop-q.readers.items t in
    let long_was = length-map c.args.readers.now.items t in
    let many = c.loop-q.invariant.kept.many in
    let less : q < length c.loop-q.readers.items = omega (arith, c.loop-q-test.true, c.len-q-end.ensures, c.args.readers.now.ok) in
    let at = not_yet t KeepsGets reader_parts c.loop-q.readers.items q old c.loop-q.invariant.kept less c.index_mut-reader.ensures.value in
    let within = slice_get_within reader_parts q (t old) at in
    let lines : old.found ≡ Some (into_iter_items c.into_lines.result) = sym c.take.ensures.value ∙ c.in-Some.is ∙ ap (λ (l : List Line). Some l) (sym c.into_lines.ensures) in
    record {
      found = ap (map found_of) (take_more reader_parts q (t old) within ∙ ap (λ (x : ReaderPart). take q reader_parts ++ x ∷ []) (get_or_from_slice_get reader_parts q (t old) (t old) at))
          ∙ map-append found_of (take q reader_parts) (t old ∷ [])
          ∙ ap (λ o. o ++ old.found ∷ []) c.loop-q.invariant.found
          ∙ ap (λ (o : Option (List Line)). map (λ it. Some (into_iter_items it)) c.loop-q.found.items ++ o ∷ []) lines
          ∙ sym (ap (map (λ it. Some (into_iter_items it))) c.in_ok-push-in-Some.ensures.items ∙ map-append (λ it. Some (into_iter_items it)) c.loop-q.found.items (c.into_lines.result ∷ []));
      kept = up_seen t KeepsGets reader_parts c.loop-q.readers.items q old new c.loop-q.invariant.kept less c.index_mut-reader.ensures.value
          (record { keeps = record { seats = refl; tables = refl; worker = refl }; gets = refl });
    }
