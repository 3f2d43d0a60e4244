use Rattle.std.proofs.Common.{◌≡◌, true, sym, subst}
use Rattle.partition_words.specs.declared.shape.Shape.{Shape}
use Rattle.partition_words.specs.Shape.{is_in_range}
use Rattle.partition_words.specs.Kept.{Kept}
use Rattle.partition_table.specs.Rule.{Seated, owner_in}
use Rattle.partition_words.proofs.Shapes.{in_range_possible}
use Rattle.partition_words.proofs.Made.{kept_as_made}
use Rattle.partition_table.proofs.Steps.{starts}
use Rattle.partition_table.proofs.making.make_from_zeros.Goals as goal

pub of_words-requires : goal.of_words-requires
of_words-requires c = starts c.args.shape.now c.args.zeros.now c.requires.zeros c.requires.valid

pub invariant_of-result-clause-valid : goal.invariant_of-result-clause-valid
invariant_of-result-clause-valid c = subst (λ (z : Shape). is_in_range z ≡ true) (sym c.new-2.ensures) (in_range_possible c.args.shape.now c.requires.valid)

pub invariant_of-result-clause-kept : goal.invariant_of-result-clause-kept
invariant_of-result-clause-kept c = ∣ subst (λ (z : Seated). Kept (owner_in z.0)) (sym c.in_ok-table.ensures.4) (kept_as_made c.args.shape.now c.requires.valid) ∣₁
