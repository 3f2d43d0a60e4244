use Rattle.std.proofs.Common.{◌≡◌, rules, sym, subst}
use Rattle.partition_model.proofs.PossibleOptions.{valid_possible}
use Rattle.partition_words.specs.Shape.{shape_of, IsPossibleShape}
use Rattle.partition_words.proofs.SameMachine.{shape_possible}
use Rattle.partition_words.proofs.shape.Shape.of.Goals as goal

pub returns-clause-possible : goal.returns-clause-possible
returns-clause-possible c =
    let same : shape_of c.args.options.now ≡ _ = sym (search rules) in
    λ possible. subst IsPossibleShape same (shape_possible c.args.options.now possible)

pub returns-clause-valid : goal.returns-clause-valid
returns-clause-valid c =
    let same : shape_of c.args.options.now ≡ _ = sym (search rules) in
    λ valid. subst IsPossibleShape same (shape_possible c.args.options.now (valid_possible c.args.options.now valid))
