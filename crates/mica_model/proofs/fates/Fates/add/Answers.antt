use Rattle.std.proofs.Common.{◌≡◌, Option, Some, None, Bor, refl, sym, ap, ◌∙◌, false, is_some}
use Rattle.std.specs.Prelude.{not}
use Rattle.std.specs.Option.{option_copied}
use Rattle.partition_model.specs.declared.fate.Fate.{Fate}
use Rattle.mica_model.specs.CacheFields.{fate_in}
use Rattle.mica_model.proofs.FateNotes.{notes_in, added_fates}
use Rattle.mica_model.proofs.fates.Fates.add.Goals as goal

copied_some : (o : Option (Bor Fate)) → is_some (option_copied o) ≡ is_some o
copied_some None = refl
copied_some (Some fate) = refl

pub returns-in_ok-insert-clause-same : goal.returns-in_ok-insert-clause-same
returns-in_ok-insert-clause-same c k =
    let es = c.args.self.now.notes.entries in
    let key = c.in_ok-from_slice.field-0 in
    let missing : is_some (notes_in es key.items) ≡ false =
    ap (λ bytes. is_some (notes_in es bytes)) c.in_ok-from_slice.ensures.items
    ∙ sym (ap is_some c.get.ensures.value) ∙ copied_some c.get.result ∙ c.is_none.ensures ∙ ap not c.if-is_none.true in
    ap (λ all. fate_in (notes_in all) k) c.in_ok-insert.ensures.entries ∙ added_fates key es missing k
