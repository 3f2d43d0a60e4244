use Rattle.std.proofs.Common.{◌∙◌, Result, Ok, Err, OnErr, Some, length, refl, sym, ap, subst}
use Rattle.std.proofs.lemmas.Option.{slice_get_read}
use Rattle.std.proofs.KnownBytes.{Appends-trans}
use Rattle.std.specs.Io.KnownBytes.{Appends}
use Rattle.mica_trace.proofs.TextParts.{part_written}
use Rattle.mica_trace.proofs.text_parts.write_texts.Goals as goal

-- what holds anyway holds where there is an error
on_err_any : {T E P : Type 0} (r : Result T E) → P → OnErr r P
on_err_any (Ok x) p = tt
on_err_any (Err e) p = p

pub returns-in_err-write_all-clause-prefix : goal.returns-in_err-write_all-clause-prefix
returns-in_err-write_all-clause-prefix g c =
    let prefix = c.in_err-write_all.ensures.prefix in
    let at = slice_get_read c.args.texts.now (length c.args.texts.now) c.loop-text.text-index c.text-item.result refl c.loop-text-test.true c.text-item.is ∙ ap Some (sym c.bytes.ensures) in
    let part = part_written c.args.texts.now c.loop-text.text-index c.bytes.result.now prefix.0 at prefix.1 in
    let all = Appends-trans _ _ _ _ _ c.loop-text.invariant.taken prefix.2 in
    on_err_any c.from_residual.result (part.0, part.1, subst (Appends (g.K.Sink.taken c.args.sink.now) (g.K.Sink.taken c.write_all.new.sink)) part.2 all)
