-- What is told of when a value was looked at.
use Rattle.std.proofs.Common.{◌≡◌, ⊎_elim, ℕ, List, Option, Some, sym, ap, ◌∙◌}
use Rattle.partition_model.specs.declared.write.Write.{Write}
use Rattle.fronts.specs.declared.changing.When.{When}
use Rattle.fronts.specs.Looks.{Look}
use Rattle.fronts.specs.Changing.{Becoming, OnlyGets, TellsWhen, write_for, write_by}

module _ (becoming : When → Option (List ℕ) → Becoming) (told : When) where
  -- what is told is what was seen, where something is written
  pub told_all : (key : List ℕ) (look : Look) (write : Write) → write_by becoming key look ≡ Some write → TellsWhen becoming told look.when → told ≡ look.when
  told_all key look write is tells = ⊎_elim
      (λ (same : told ≡ look.when). same)
      (λ (part : OnlyGets becoming × (told ≡ record look.when { written = told.written })). absurd (cc (sym (ap (write_for key look.value) (part.0 look.when look.value)) ∙ is)))
      tells
