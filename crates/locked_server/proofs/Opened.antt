-- Partitions that were made side by side, taken out in order.
use Rattle.std.proofs.Common.{◌≡◌, ◌∷◌, ◌++◌, List, length, map, Some, slice_get, sym, ap, ◌∙◌, subst}
use Rattle.std.specs.Prelude.{Result, Ok, Err}
use Rattle.std.proofs.lemmas.List.{length-map}
use Rattle.list_laws.proofs.Places.{at_map, at_seam, from_map}
use Rattle.partition_model.specs.declared.options.Options.{Options}
use Rattle.partition_model.specs.declared.write.Write.{Write}
use Rattle.locked_server.specs.declared.filling.OpenFault.{OpenFault}
use Rattle.locked_server.specs.declared.filling.OpenFault.TheVariants.{Refused}
use Rattle.locked_server.specs.declared.opening.FilledPart.{FilledPart}
use Rattle.locked_server.specs.Filled.{RefusesFilling}
use Rattle.locked_server.specs.Opening.{FilledView, IsFilled, AreFilled, AreOpened}

-- what their making came to, where each was filled
abbrev each_filled : {P : Type 0} → List (FilledPart P) → List (Result (FilledPart P) OpenFault)
each_filled parts = map Ok parts

module _ {P : Type 0} (view : FilledPart P → FilledView) (options : Options) (writes : List Write) (all : List (Result (FilledPart P) OpenFault)) (opened : AreOpened view options writes all) where
  -- where all were filled
  pub all_filled : (parts : List (FilledPart P)) → map Ok parts ≡ all → length all ≡ options.partitions → AreFilled options writes (map view parts)
  all_filled parts same many = record {
    many = length-map parts view ∙ sym (length-map parts Ok) ∙ ap length same ∙ many;
    each = λ p filled at.
        let part = from_map view parts p filled at in
        subst (IsFilled options writes p) part.2 (opened p (Ok part.0) (ap (λ l. slice_get l p) (sym same) ∙ at_map Ok parts p part.0 part.1)).filled;
  }

  -- where the one behind those that were was refused
  pub next_refused : (parts : List (FilledPart P)) (made : Result (FilledPart P) OpenFault) (later : List (Result (FilledPart P) OpenFault)) → each_filled parts ++ made ∷ later ≡ all
      → made ≡ Err Refused → RefusesFilling options writes
  next_refused parts made later same = (opened (length (each_filled parts)) made (ap (λ l. slice_get l (length (each_filled parts))) (sym same) ∙ at_seam (each_filled parts) made later)).refused
